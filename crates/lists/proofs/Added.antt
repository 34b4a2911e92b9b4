-- What adding keeps.
use Rattle.std.proofs.Common.{◌≡◌, ℕ, ◌<◌, ◌≤◌, Bool, true, false, ltb, cond, List, [], ◌∷◌, ◌++◌, length, Some, None, Ok, Err, Option, Result, refl, arith}
use Rattle.std.specs.List.{slice_get}
use Rattle.std.specs.Option.{ok_or}
use Rattle.std.proofs.lemmas.List.{length_push}
use Rattle.std.proofs.lemmas.Bool.{cond_both, cond-true, ltb-true, ltb-false, lt-ltb}
use Rattle.lists.specs.Adding.{Distinct, first_like, number_for, add_answer, add_after}
use Rattle.lists.proofs.Members.{distinct_push, every_push}
use Rattle.lists.proofs.Places.{IsEquality, first_like_is, none_there}

-- no list gets shorter
pub add_longer : {X : Type 0} (most : ℕ) (xs : List X) (x : X) (o : Option ℕ) → length xs ≤ length (add_after most xs x o)
add_longer most xs x (Some i) = omega arith
add_longer most xs x None =
    cond_both (ltb (length xs) most) (xs ++ x ∷ []) xs (λ ys. length xs ≤ length ys) (λ _. omega (arith, length_push xs x)) (λ _. omega arith)

-- a list that has room keeps to it
pub add_within : {X : Type 0} (most : ℕ) (xs : List X) (x : X) (o : Option ℕ) → length xs ≤ most → length (add_after most xs x o) ≤ most
add_within most xs x (Some i) few = few
add_within most xs x None few =
    cond_both (ltb (length xs) most) (xs ++ x ∷ []) xs (λ ys. length ys ≤ most) (λ room. omega (arith, length_push xs x, ltb-true (length xs) most room)) (λ _. few)

-- what is new has the next number in a list that has room, and stands at its end
pub number_new : {X : Type 0} (most : ℕ) (xs : List X) → length xs < most → number_for most xs None ≡ Some (length xs)
number_new most xs room = cond-true (ltb (length xs) most) _ _ (lt-ltb (length xs) most room)

pub after_new : {X : Type 0} (most : ℕ) (xs : List X) (x : X) → length xs < most → add_after most xs x None ≡ xs ++ x ∷ []
after_new most xs x room = cond-true (ltb (length xs) most) _ _ (lt-ltb (length xs) most room)

-- a number or a refusal, where the refusal stands for none
pub number_or : {X E : Type 0} (most : ℕ) (full : E) (xs : List X) (o : Option ℕ) → ok_or (number_for most xs o) full ≡ add_answer most full xs o
number_or most full xs (Some i) = refl
number_or most full xs None = by (ltb (length xs) most)
  where
    by : (b : Bool) → ok_or (cond b (Some (length xs)) None) full ≡ cond b (Ok (length xs)) (Err full)
    by true = refl
    by false = refl

-- a list without repeats stays one
pub add_distinct : {X : Type 0} (eq : X → X → Bool) → IsEquality eq → (most : ℕ) (xs : List X) (x : X) → Distinct xs → Distinct (add_after most xs x (first_like eq xs x))
add_distinct {X} eq tells most xs x distinct = by (first_like eq xs x) refl
  where
    by : (o : Option ℕ) → first_like eq xs x ≡ o → Distinct (add_after most xs x o)
    by (Some i) found = distinct
    by None found = cond_both (ltb (length xs) most) (xs ++ x ∷ []) xs Distinct (λ _. distinct_push xs x distinct (none_there eq tells xs x found)) (λ _. distinct)

-- what holds of each member and of what is added holds of each member afterwards
pub add_every : {X : Type 0} (P : X → Type 0) (most : ℕ) (xs : List X) (x : X) (o : Option ℕ) → ((k : ℕ) (y : X) → slice_get xs k ≡ Some y → P y) → P x
    → (k : ℕ) (y : X) → slice_get (add_after most xs x o) k ≡ Some y → P y
add_every P most xs x (Some i) old here = old
add_every P most xs x None old here =
    cond_both (ltb (length xs) most) (xs ++ x ∷ []) xs (λ ys. (k : ℕ) (y : _) → slice_get ys k ≡ Some y → P y) (λ _. every_push P xs x old here) (λ _. old)

-- how adding to a list without repeats ends: what is added is there; it is new and the list is full; or it is put at the end
pub data AddEnds {X E : Type 0} (most : ℕ) (full : E) (xs : List X) (x : X) : Result ℕ E → List X → Type 0 where
  already_there : (k : ℕ) → slice_get xs k ≡ Some x → AddEnds most full xs x (Ok k) xs
  no_room : ((k : ℕ) → slice_get xs k ≡ Some x → ⊥) → most ≤ length xs → AddEnds most full xs x (Err full) xs
  added : ((k : ℕ) → slice_get xs k ≡ Some x → ⊥) → length xs < most → AddEnds most full xs x (Ok (length xs)) (xs ++ x ∷ [])

pub add_ends : {X E : Type 0} (eq : X → X → Bool) → IsEquality eq → (most : ℕ) (full : E) (xs : List X) (x : X)
    → AddEnds most full xs x (add_answer most full xs (first_like eq xs x)) (add_after most xs x (first_like eq xs x))
add_ends {X} eq tells most full xs x = by (first_like eq xs x) refl
  where
    by : (o : Option ℕ) → first_like eq xs x ≡ o → AddEnds most full xs x (add_answer most full xs o) (add_after most xs x o)
    by (Some k) found = already_there k (first_like_is eq tells xs x k found)
    by None found = by_room (ltb (length xs) most) refl
      where
        by_room : (b : Bool) → ltb (length xs) most ≡ b → AddEnds most full xs x (cond b (Ok (length xs)) (Err full)) (cond b (xs ++ x ∷ []) xs)
        by_room true room = added (none_there eq tells xs x found) (ltb-true (length xs) most room)
        by_room false room = no_room (none_there eq tells xs x found) (ltb-false (length xs) most room)

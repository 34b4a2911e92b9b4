-- Lists in which nothing stands twice, and how one is added to.
use Rattle.std.specs.Prelude.{◌≡◌, ℕ, ◌+◌, ◌<◌, Bool, cond, List, [], ◌∷◌, ◌++◌, length, drop, Some, None, Ok, Err, Option, Result, ◌≢◌, nat_lt}
use Rattle.std.specs.List.{slice_get, position}
use Rattle.std.specs.Option.{option_map}

-- no two members are equal
abbrev pub Distinct : {X : Type 0} → List X → Type 0
Distinct xs = (i j : ℕ) → i < j → j < length xs → slice_get xs i ≢ slice_get xs j

-- x has a number in a list
abbrev pub Member : {X : Type 0} → List X → X → Type 0
Member xs x = (n : ℕ) × (slice_get xs n ≡ Some x)

-- where x first stands, by a test of likeness
abbrev pub first_like : {X : Type 0} → (X → X → Bool) → List X → X → Option ℕ
first_like alike xs x = position (λ y. alike y x) xs

-- the same from a number on
abbrev pub first_like_from : {X : Type 0} → (X → X → Bool) → ℕ → List X → X → Option ℕ
first_like_from alike start xs x = option_map (λ k. start + k) (first_like alike (drop start xs) x)

-- the answer for what stands at a place already, or nowhere: its place, else the next one, or a refusal where the list is full
abbrev pub add_answer : {X E : Type 0} → ℕ → E → List X → Option ℕ → Result ℕ E
add_answer most full xs (Some i) = Ok i
add_answer most full xs None = cond (nat_lt (length xs) most) (Ok (length xs)) (Err full)

-- the same without a refusal: none where the list is full
abbrev pub number_for : {X : Type 0} → ℕ → List X → Option ℕ → Option ℕ
number_for most xs (Some i) = Some i
number_for most xs None = cond (nat_lt (length xs) most) (Some (length xs)) None

-- the list afterwards: what is new stands at its end
abbrev pub add_after : {X : Type 0} → ℕ → List X → X → Option ℕ → List X
add_after most xs x (Some i) = xs
add_after most xs x None = cond (nat_lt (length xs) most) (xs ++ x ∷ []) xs

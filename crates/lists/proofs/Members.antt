-- Members of a list by their numbers, and a list with one more at its end.
use Rattle.std.proofs.Common.{◌≡◌, ℕ, zero, suc, ◌<◌, ◌⊎◌, List, [], ◌∷◌, ◌++◌, length, Some, None, sym, refl, ◌∙◌, subst, inl, inr, arith}
use Rattle.std.specs.List.{slice_get}
use Rattle.std.proofs.lemmas.List.{length_push}
use Rattle.std.proofs.lemmas.Option.{none-some, same_Some, slice_get_within}
use Rattle.std.proofs.lemmas.Bool.{cases_lt}
use Rattle.lists.specs.Adding.{Distinct}

-- the library's laws, with what is in `Some` left to be found
pub some_same : {X : Type 0} {x y : X} → Some x ≡ Some y → x ≡ y
some_same e = same_Some _ _ e

pub some_not_none : {X : Type 0} {x : X} → Some x ≡ None → ⊥
some_not_none e = none-some _ (sym e)

-- a member's number is below the length
pub nth_within : {X : Type 0} (xs : List X) (i : ℕ) {x : X} → slice_get xs i ≡ Some x → i < length xs
nth_within xs i e = slice_get_within xs i _ e

-- a number below the length is a member's
pub nth_there : {X : Type 0} (xs : List X) (i : ℕ) → i < length xs → (x : X) × (slice_get xs i ≡ Some x)
nth_there [] i h = absurd (omega arith)
nth_there (y ∷ ys) zero h = (y, refl)
nth_there (y ∷ ys) (suc i) h = nth_there ys i (omega arith)

-- more members after those that are there
pub nth_append_left : {X : Type 0} (xs ys : List X) (i : ℕ) → i < length xs → slice_get (xs ++ ys) i ≡ slice_get xs i
nth_append_left [] ys i h = absurd (omega arith)
nth_append_left (x ∷ xs) ys zero h = refl
nth_append_left (x ∷ xs) ys (suc i) h = nth_append_left xs ys i (omega arith)

pub nth_push : {X : Type 0} (xs : List X) (x : X) → slice_get (xs ++ x ∷ []) (length xs) ≡ Some x
nth_push [] x = refl
nth_push (y ∷ xs) x = nth_push xs x

-- a list with one more at its end
module _ {X : Type 0} (xs : List X) (x : X) where
  pub nth_pushed : (n : ℕ) (y : X) → slice_get (xs ++ x ∷ []) n ≡ Some y → (slice_get xs n ≡ Some y) ⊎ ((length xs ≡ n) × (x ≡ y))
  nth_pushed n y is = elim (cases_lt n (length xs)) [
    | inl old ↦ inl (sym (nth_append_left xs (x ∷ []) n old) ∙ is)
    | inr past ↦
        let at : length xs ≡ n = omega (arith, nth_within (xs ++ x ∷ []) n is, length_push xs x) in
        inr (at, some_same (sym (nth_push xs x) ∙ subst (λ (k : ℕ). slice_get (xs ++ x ∷ []) k ≡ Some y) (sym at) is))
  ]

  pub nth_stays : (n : ℕ) (y : X) → slice_get xs n ≡ Some y → slice_get (xs ++ x ∷ []) n ≡ Some y
  nth_stays n y is = nth_append_left xs (x ∷ []) n (nth_within xs n is) ∙ is

-- what holds of each member, and of one more
pub every_push : {X : Type 0} (P : X → Type 0) (xs : List X) (x : X) → ((k : ℕ) (y : X) → slice_get xs k ≡ Some y → P y) → P x
    → (k : ℕ) (y : X) → slice_get (xs ++ x ∷ []) k ≡ Some y → P y
every_push P xs x old here k y is = elim (nth_pushed xs x k y is) [
  | inl there ↦ old k y there
  | inr at ↦ subst P at.1 here
]

-- nothing stands twice, if what is added is new
pub distinct_push : {X : Type 0} (xs : List X) (x : X) → Distinct xs → ((k : ℕ) → slice_get xs k ≡ Some x → ⊥) → Distinct (xs ++ x ∷ [])
distinct_push xs x distinct none i j h l e =
    let i_in : i < length xs = omega (arith, length_push xs x) in
    let left = nth_append_left xs (x ∷ []) i i_in in
    elim (cases_lt j (length xs)) [
      | inl j_in ↦ distinct i j h j_in (sym left ∙ e ∙ nth_append_left xs (x ∷ []) j j_in)
      | inr g ↦
          let at : length xs ≡ j = omega (arith, length_push xs x) in
          none i (sym left ∙ e ∙ subst (λ (k : ℕ). slice_get (xs ++ x ∷ []) k ≡ Some x) at (nth_push xs x))
    ]

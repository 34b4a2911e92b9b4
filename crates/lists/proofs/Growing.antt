-- A list that a call leaves as it is, or makes longer by one member at its end.
use Rattle.std.proofs.Common.{◌≡◌, ℕ, ◌<◌, ◌≤◌, ◌⊎◌, List, [], ◌∷◌, ◌++◌, length, Some, refl, subst, inl, inr, arith}
use Rattle.std.specs.List.{slice_get}
use Rattle.std.proofs.lemmas.List.{length_push}
use Rattle.lists.specs.Adding.{Distinct}
use Rattle.lists.proofs.Members.{nth_pushed, nth_stays, distinct_push}

-- P says which member may be new, and by which number
pub data Grown {X : Type 0} (P : ℕ → X → Type 0) (xs : List X) : List X → Type 0 where
  as_it_was : Grown P xs xs
  one_more : (x : X) → P (length xs) x → Grown P xs (xs ++ x ∷ [])

module _ {X : Type 0} {P : ℕ → X → Type 0} {xs : List X} where
  -- what was there stays there
  pub grown_keeps : {ys : List X} → Grown P xs ys → (n : ℕ) (y : X) → slice_get xs n ≡ Some y → slice_get ys n ≡ Some y
  grown_keeps as_it_was n y is = is
  grown_keeps (one_more x new) n y is = nth_stays xs x n y is

  -- what is there was there, or is new
  pub grown_brings : {ys : List X} → Grown P xs ys → (n : ℕ) (y : X) → slice_get ys n ≡ Some y → (slice_get xs n ≡ Some y) ⊎ ((length xs ≡ n) × P n y)
  grown_brings as_it_was n y is = inl is
  grown_brings (one_more x new) n y is = elim (nth_pushed xs x n y is) [
    | inl old ↦ inl old
    | inr at ↦ inr (at.0, subst (P n) at.1 (subst (λ (k : ℕ). P k x) at.0 new))
  ]

  -- where nothing may be new, the list is as it was
  pub grown_same : {ys : List X} → Grown P xs ys → ((n : ℕ) (x : X) → P n x → ⊥) → ys ≡ xs
  grown_same as_it_was none = refl
  grown_same (one_more x new) none = absurd (none (length xs) x new)

  pub grown_longer : {ys : List X} → Grown P xs ys → length xs ≤ length ys
  grown_longer as_it_was = omega arith
  grown_longer (one_more x new) = omega (arith, length_push xs x)

  -- a bound that a new member leaves room for is kept
  pub grown_within : {ys : List X} → Grown P xs ys → (most : ℕ) → ((n : ℕ) (x : X) → P n x → length xs < most) → length xs ≤ most → length ys ≤ most
  grown_within as_it_was most room few = few
  grown_within (one_more x new) most room few = omega (arith, length_push xs x, room (length xs) x new)

  -- nothing stands twice where a new member was nowhere
  pub grown_distinct : {ys : List X} → Grown P xs ys → ((n : ℕ) (x : X) → P n x → (k : ℕ) → slice_get xs k ≡ Some x → ⊥) → Distinct xs → Distinct ys
  grown_distinct as_it_was absent distinct = distinct
  grown_distinct (one_more x new) absent distinct = distinct_push xs x distinct (absent (length xs) x new)

  -- what holds of each member and of a new one holds of each afterwards
  pub grown_every : {ys : List X} → Grown P xs ys → (Q : X → Type 0) → ((n : ℕ) (x : X) → P n x → Q x) → ((k : ℕ) (y : X) → slice_get xs k ≡ Some y → Q y)
      → (k : ℕ) (y : X) → slice_get ys k ≡ Some y → Q y
  grown_every grown Q new old k y is = elim (grown_brings grown k y is) [
    | inl before ↦ old k y before
    | inr now ↦ new k y now.1
  ]

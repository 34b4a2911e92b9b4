-- The first of a list that is of a formula: of lines, or of refutations.
use Rattle.std.proofs.Common.{◌≡◌, ℕ, ◌<◌, Bool, true, eqb, ltb, List, length, get_or, Some, None, sym, ap, ◌∙◌, inl, inr, arith}
use Rattle.std.specs.List.{slice_get, position, position_or_len}
use Rattle.std.proofs.lemmas.Bool.{cases_lt, cond-true, cond-false, eqb-true, eq-eqb, lt-ltb, le-ltb, true≢false}
use Rattle.std.proofs.lemmas.List.Quantifiers.{position-Some}
use Rattle.std.proofs.lemmas.List.Sums.{fails_before_first}
use Rattle.std.proofs.lemmas.Option.{get_or_from_slice_get, slice_get-get_or}
use Rattle.lists.proofs.Members.{some_not_none, nth_within, nth_there}

-- where `formula` gives the number of the formula that a member is of
module _ {X : Type 0} (formula : X → ℕ) (xs : List X) (f : ℕ) where
  abbrev of_formula : X → Bool
  of_formula x = eqb (formula x) f

  passes : (m : ℕ) (y : X) → slice_get xs m ≡ Some y → formula y ≡ f → of_formula (get_or xs m y) ≡ true
  passes m y is of = ap of_formula (get_or_from_slice_get xs m y y is) ∙ eq-eqb (formula y) f of

  -- what stands at the place that is found
  pub first_is : (n : ℕ) → position of_formula xs ≡ Some n → (x : X) × (slice_get xs n ≡ Some x) × (formula x ≡ f)
  first_is n found = elim (cases_lt (position_or_len of_formula xs) (length xs)) [
    | inl within ↦
        let d = nth_there xs (position_or_len of_formula xs) within in
        let at = position-Some of_formula xs n d.0 found in
        (get_or xs n d.0, slice_get-get_or xs n d.0 at.0, eqb-true (formula (get_or xs n d.0)) f at.1)
    | inr past ↦ absurd (some_not_none (sym found ∙ cond-false (ltb (position_or_len of_formula xs) (length xs)) _ _ (le-ltb _ _ past)))
  ]

  -- and before it there is none
  pub first_least : (n : ℕ) → position of_formula xs ≡ Some n → (m : ℕ) (y : X) → m < n → slice_get xs m ≡ Some y → formula y ≡ f → ⊥
  first_least n found m y before is of = true≢false (sym (passes m y is of) ∙ (position-Some of_formula xs n y found).2 m before)

  -- where no place is found, there is none
  pub none_found : position of_formula xs ≡ None → (m : ℕ) (y : X) → slice_get xs m ≡ Some y → formula y ≡ f → ⊥
  none_found found m y is of = elim (cases_lt (position_or_len of_formula xs) (length xs)) [
    | inl within ↦ some_not_none (sym (cond-true (ltb (position_or_len of_formula xs) (length xs)) _ _ (lt-ltb _ _ within)) ∙ found)
    | inr past ↦ true≢false (sym (passes m y is of) ∙ fails_before_first of_formula xs m y (omega (arith, nth_within xs m is)))
  ]

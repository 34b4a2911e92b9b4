-- Where formulas are false: the first of some that is false somewhere, and the first position.
use Rattle.std.specs.Prelude.{ℕ, zero, suc, ◌+◌, Bool, cond, List, [], ◌∷◌, Some, None, Option}

-- of the n positions from i on, the first at which p is false
unfoldable pub first_false_from : ℕ → ℕ → (ℕ → Bool) → Option ℕ
first_false_from zero i p = None
first_false_from (suc n) i p = cond (p i) (first_false_from n (i + 1) p) (Some i)

abbrev pub or_else : ℕ → Option ℕ → Option (ℕ × ℕ) → Option (ℕ × ℕ)
or_else k None rest = rest
or_else k (Some i) rest = Some (k, i)

-- of the formulas with these numbers, at places from k on, the first that is false somewhere below n, by its place, and the first position where it is
unfoldable pub first_failing : (ℕ → ℕ → Bool) → ℕ → ℕ → List ℕ → Option (ℕ × ℕ)
first_failing true_there n k [] = None
first_failing true_there n k (f ∷ fs) = or_else k (first_false_from n 0 (true_there f)) (first_failing true_there n (suc k) fs)

-- Which formula a kind and two fields describe.
use Rattle.std.specs.Prelude.{◌≡◌, ℕ, ◌≤◌, List, Some}
use Rattle.std.specs.List.{slice_get}
use Rattle.logic.specs.Formula.{Formula, falsum, atom, implies, next, always}

-- n is the number of A in a list of formulas
abbrev pub Number : List Formula → ℕ → Formula → Type 0
Number fs n A = slice_get fs n ≡ Some A

-- operands are given by their numbers, and an unused field is 0
pub data Describes (fs : List Formula) : ℕ → ℕ → ℕ → Formula → Type 0 where
  false_kind : Describes fs 0 0 0 falsum
  atom_kind : (a : ℕ) → a ≤ 31 → Describes fs 1 a 0 (atom a)
  implies_kind : (l r : ℕ) (A B : Formula) → Number fs l A → Number fs r B → Describes fs 2 l r (implies A B)
  next_kind : (l : ℕ) (A : Formula) → Number fs l A → Describes fs 3 l 0 (next A)
  always_kind : (l : ℕ) (A : Formula) → Number fs l A → Describes fs 4 l 0 (always A)

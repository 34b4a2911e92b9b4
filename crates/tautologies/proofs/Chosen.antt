-- Choices of truth by numbers: the bits of a number say which of some formulas are true.
use Rattle.std.proofs.Common.{ℕ, Bool, false, List, Some, None, Option}
use Rattle.logic.specs.Formula.{Formula}
use Rattle.logic.specs.Same.{same}
use Rattle.lists.specs.Adding.{first_like}
use Rattle.rows.specs.Row.{testBit}

-- the bit at a place, if there is one
abbrev pub bit_if : ℕ → Option ℕ → Bool
bit_if v None = false
bit_if v (Some k) = testBit v k

-- of the formulas of a list, the k-th is true where bit k of the number is set; others are false
abbrev pub chosen : List Formula → ℕ → Formula → Bool
chosen ps v P = bit_if v (first_like same ps P)

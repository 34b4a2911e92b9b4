-- Whether two formulas are the same.
use Rattle.std.specs.Prelude.{ℕ, Bool, true, false, ◌&&◌, ◌==◌}
use Rattle.logic.specs.Formula.{Formula, falsum, atom, implies, next, always}

-- the kind of a formula, by its number
abbrev pub kind : Formula → ℕ
kind falsum = 0
kind (atom a) = 1
kind (implies A B) = 2
kind (next A) = 3
kind (always A) = 4

-- the only or the left operand, else falsum
abbrev pub left : Formula → Formula
left (implies A B) = A
left (next A) = A
left (always A) = A
left A = falsum

-- the right operand, else falsum
abbrev pub right : Formula → Formula
right (implies A B) = B
right A = falsum

-- they are of one kind, and have the same parts
abbrev pub same : Formula → Formula → Bool
same falsum falsum = true
same (atom a) (atom b) = b == a
same (implies A B) (implies C D) = same A C && same B D
same (next A) (next B) = same A B
same (always A) (always B) = same A B
same A B = false

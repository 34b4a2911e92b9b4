-- Propositional tautologies.
use Rattle.std.specs.Prelude.{◌≡◌, Bool, true, false, not, ◌||◌}
use Rattle.logic.specs.Formula.{Formula, falsum, atom, implies, next, always}

-- the truth of a formula under a choice of truth for those that are not false and no implication
abbrev pub eval : (Formula → Bool) → Formula → Bool
eval v falsum = false
eval v (atom a) = v (atom a)
eval v (implies A B) = not (eval v A) || eval v B
eval v (next A) = v (next A)
eval v (always A) = v (always A)

-- true under every choice
abbrev pub Tautology : Formula → Type 0
Tautology A = (v : Formula → Bool) → eval v A ≡ true

-- What is said of the formulas of a list as tautologies.
use Rattle.std.specs.Prelude.{ℕ, cond, List, length, nat_lt}
use Rattle.logic.specs.Formula.{Formula}
use Rattle.formulas.specs.Forming.{numbered}
use Rattle.calculus.specs.declared.verdict.Verdict.{Verdict}
use Rattle.calculus.specs.declared.verdict.Verdict.TheVariants.{NotAdmitted}
use Rattle.calculus.specs.Published.{taut_verdict}

-- of the formula with a number; one that is not in the list is not admitted
abbrev pub taut_verdict_in : List Formula → ℕ → Verdict
taut_verdict_in fs n = cond (nat_lt n (length fs)) (taut_verdict (numbered fs n)) NotAdmitted

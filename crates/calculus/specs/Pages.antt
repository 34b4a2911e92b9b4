-- What a page of rules is.
use Rattle.std.specs.Prelude.{◌≡◌, ℕ, Some, None, Option}
use Rattle.logic.specs.Formula.{Formula}
use Rattle.logic.specs.Run.{Run}
use Rattle.logic.specs.Truth.{Throughout}
use Rattle.calculus.specs.declared.verdict.Verdict.{Verdict}
use Rattle.calculus.specs.declared.verdict.Verdict.TheVariants.{Admitted}

-- what a page says of a rule's number, a conclusion, and two premises that may be missing
abbrev pub Verdicts : Type 0
Verdicts = ℕ → Formula → Option Formula → Option Formula → Verdict

-- a premise that is given holds throughout a run
abbrev pub Given : Run → Option Formula → Type 0
Given r None = Unit {0}
Given r (Some P) = Throughout r P

-- on every run on which the given premises hold throughout, an admitted conclusion does
abbrev pub Lawful : Verdicts → Type 0
Lawful v = (rule : ℕ) (A : Formula) (P Q : Option Formula) → v rule A P Q ≡ Admitted → (r : Run) → Given r P → Given r Q → Throughout r A

-- a page has one fixed verdict for each such question, and keeps its law
pub record Page : Type 0 where
  pub verdict : Verdicts
  pub lawful : Lawful verdict

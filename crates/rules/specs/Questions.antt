-- What a page answers about formulas by their numbers.
use Rattle.std.specs.Prelude.{ℕ, Bool, true, ◌&&◌, List, length, Some, None, Option, option_map, nat_lt, if◌then◌else◌}
use Rattle.logic.specs.Formula.{Formula}
use Rattle.formulas.specs.Forming.{numbered}
use Rattle.calculus.specs.declared.verdict.Verdict.{Verdict}
use Rattle.calculus.specs.declared.verdict.Verdict.TheVariants.{NotAdmitted}
use Rattle.calculus.specs.Pages.{Verdicts}
use Rattle.rules.specs.declared.page.Question.{Question}

-- a premise is empty, or a number in the list
abbrev pub premise_entered : List Formula → Option ℕ → Bool
premise_entered fs None = true
premise_entered fs (Some n) = nat_lt n (length fs)

-- all numbers of a question are in the list
abbrev pub all_entered : List Formula → Question → Bool
all_entered fs q = nat_lt q.conclusion (length fs) && (premise_entered fs q.first && premise_entered fs q.second)

-- the verdict on their formulas, and not admitted where one is not in the list
abbrev pub verdict_on : Verdicts → List Formula → Question → Verdict
verdict_on v fs q =
    if all_entered fs q then v q.rule (numbered fs q.conclusion) (option_map (numbered fs) q.first) (option_map (numbered fs) q.second)
    else NotAdmitted

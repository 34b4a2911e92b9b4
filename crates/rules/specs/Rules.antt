-- What is said of a question by one rule.
use Rattle.std.specs.Prelude.{◌&&◌, List, is_none, if◌then◌else◌}
use Rattle.logic.specs.Formula.{Formula}
use Rattle.calculus.specs.declared.verdict.Verdict.{Verdict}
use Rattle.calculus.specs.declared.verdict.Verdict.TheVariants.{NotAdmitted}
use Rattle.calculus.specs.Schemas.{RuleSchema, is_instance, admitted_if}
use Rattle.tautologies.specs.Verdicts.{taut_verdict_in}
use Rattle.rules.specs.declared.page.Question.{Question}
use Rattle.rules.specs.declared.schema.Rule.{Rule}
use Rattle.rules.specs.Questions.{verdict_on}
use Rattle.rules.specs.Matching.{made_of}

-- the schema of a rule of the program
abbrev pub rule_schema : Rule → RuleSchema
rule_schema r = made_of r.conclusion r.first r.second

-- admitted where the formulas of a question are in the list and an instance of a schema
abbrev pub instance_verdict : RuleSchema → List Formula → Question → Verdict
instance_verdict h fs q = verdict_on (λ rule X P Q. admitted_if (is_instance h X P Q)) fs q

-- what is said of it as a tautology: there are to be no premises
abbrev pub taut_on : List Formula → Question → Verdict
taut_on fs q = if is_none q.first && is_none q.second then taut_verdict_in fs q.conclusion else NotAdmitted

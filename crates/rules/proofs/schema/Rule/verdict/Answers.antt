-- The numbers of a question are compared only where all are in the list.
use Rattle.std.proofs.Common.{arith}
use Rattle.std.proofs.lemmas.Bool.Decides.{nat_tests}
use Rattle.rules.specs.Rules.{rule_schema}
use Rattle.rules.proofs.Verdicts.{instance_told}
use Rattle.rules.proofs.schema.Rule.verdict.Goals as goal
use Rattle.rules.proofs.schema.Rule.verdict.Goals.{else-is_entered-via-then-is_entered+else-is_some, else-is_entered-via-else-is_entered}

pub returns-then-is_some : goal.returns-then-is_some
returns-then-is_some c =
    let told = instance_told c.args.formulas.now (rule_schema c.args.self.now) c.args.self.now.room c.args.question in
    grind (arith, nat_tests)

pub returns-else-is_entered : goal.returns-else-is_entered
returns-else-is_entered c =
    let told = instance_told c.args.formulas.now (rule_schema c.args.self.now) c.args.self.now.room c.args.question in
    elim c.else-is_entered.branch [
      | else-is_entered-via-then-is_entered+else-is_some w ↦ grind (arith, nat_tests)
      | else-is_entered-via-else-is_entered w ↦ grind (arith, nat_tests)
    ]

-- A derived rule's schema tells.
use Rattle.std.proofs.Common.{sym, ap, ◌∙◌}
use Rattle.std.specs.Option.{option_map}
use Rattle.formulas.specs.Listed.{formulas_of}
use Rattle.rules.specs.Rules.{rule_schema}
use Rattle.rules.proofs.Verdicts.{derived_told}
use Rattle.rules.proofs.derived.DerivedPageRulePage.verdict.Goals as goal

pub returns-in-Some : goal.returns-in-Some
returns-in-Some g c =
    c.verdict.ensures ∙ derived_told (formulas_of c.args.formulas.now) c.args.question (g.P.RulePage.meaning c.args.self.now.below).verdict _ (ap (option_map rule_schema) (sym c.in-Some.is) ∙ c.rule_numbered.ensures)

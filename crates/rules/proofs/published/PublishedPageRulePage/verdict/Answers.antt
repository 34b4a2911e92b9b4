-- A tautology, or a rule by its schema, or no rule.
use Rattle.std.proofs.Common.{sym, ap, ◌∙◌}
use Rattle.std.specs.Option.{option_map}
use Rattle.formulas.specs.Listed.{formulas_of}
use Rattle.rules.specs.Rules.{rule_schema}
use Rattle.rules.proofs.Verdicts.{taut_told, published_told}
use Rattle.rules.proofs.published.PublishedPageRulePage.verdict.Goals as goal

pub returns-then-question-eq-TAUT : goal.returns-then-question-eq-TAUT
returns-then-question-eq-TAUT c = c.taut.ensures ∙ taut_told (formulas_of c.args.formulas.now) c.args.question c.if-question-eq-TAUT.true

pub returns-in-Some : goal.returns-in-Some
returns-in-Some c =
    c.verdict.ensures ∙ published_told (formulas_of c.args.formulas.now) c.args.question c.if-question-eq-TAUT.false _ (ap (option_map rule_schema) (sym c.in-Some.is) ∙ c.rule_numbered.ensures)

pub returns-in-None : goal.returns-in-None
returns-in-None c = published_told (formulas_of c.args.formulas.now) c.args.question c.if-question-eq-TAUT.false _ (ap (option_map rule_schema) (sym c.in-None.is) ∙ c.rule_numbered.ensures)

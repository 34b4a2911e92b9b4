-- The page is asked about the formulas of the line.
use Rattle.std.proofs.Common.{eqb, sym, ◌∙◌}
use Rattle.std.proofs.lemmas.Bool.{cond-false, ne_eqb}
use Rattle.cases.specs.Model.{modelled}
use Rattle.cases.proofs.Asking.{asked_verdict}
use Rattle.cases.proofs.case.lines.Case+Sealed.verdict.Goals as goal

pub returns-else-line-eq-ASSUMPTION : goal.returns-else-line-eq-ASSUMPTION
unfolding modelled
returns-else-line-eq-ASSUMPTION g c =
    let m = modelled c.args.self.now in
    let page = g.P.RulePage.meaning c.args.page.now in
    c.verdict.ensures ∙ asked_verdict m c.args.line c.args.self.now.stated page c.args.question c.requires
    ∙ sym (cond-false (eqb c.args.line.rule 0) _ _ (ne_eqb c.args.line.rule 0 c.if-line-eq-ASSUMPTION.false))

-- A line can be asked about if its formula is entered and its places are held.
use Rattle.std.proofs.Common.{◌<◌, Err, length, sym, ap, ◌∙◌, ap₂, arith}
use Rattle.std.proofs.lemmas.Result.{err_from_is_err_and}
use Rattle.cases.specs.Model.{modelled}
use Rattle.cases.specs.Asking.{premise_number, asked_with}
use Rattle.cases.proofs.Asking.{question_unknown, question_known}
use Rattle.cases.proofs.case.lines.Case+Sealed.question.Goals as goal

pub returns-then-from-len : goal.returns-then-from-len
unfolding modelled
returns-then-from-len c = sym (question_unknown (modelled c.args.self.now) c.args.line (omega arith))

pub returns-in_err-premise : goal.returns-in_err-premise
unfolding modelled
returns-in_err-premise c =
    let m = modelled c.args.self.now in
    let p = err_from_is_err_and c.from_residual.result c.from_residual.ensures.1 in
    let known : c.args.line.formula < length m.formulas = omega arith in
    p.1 ∙ sym (question_known m c.args.line known ∙ ap (λ o. asked_with c.args.line o (premise_number m c.args.line.second)) (sym c.premise.ensures ∙ c.in_err-premise.was ∙ ap Err (sym p.2)))

pub returns-in_err-premise-2 : goal.returns-in_err-premise-2
unfolding modelled
returns-in_err-premise-2 c =
    let m = modelled c.args.self.now in
    let p = err_from_is_err_and c.from_residual-in_err-premise-2.result c.from_residual-in_err-premise-2.ensures.1 in
    let known : c.args.line.formula < length m.formulas = omega arith in
    p.1 ∙ sym (question_known m c.args.line known ∙ ap₂ (asked_with c.args.line) (sym c.premise.ensures ∙ c.in_ok-premise.was) (sym c.premise-2.ensures ∙ c.in_err-premise-2.was ∙ ap Err (sym p.2)))

pub returns : goal.returns
unfolding modelled
returns c =
    let m = modelled c.args.self.now in
    let known : c.args.line.formula < length m.formulas = omega arith in
    sym (question_known m c.args.line known ∙ ap₂ (asked_with c.args.line) (sym c.premise.ensures ∙ c.in_ok-premise.was) (sym c.premise-2.ensures ∙ c.in_ok-premise-2.was))

-- Entering a formula is what `form` says of the model, and leaves what is known of assumptions, lines and refutations.
use Rattle.std.proofs.Common.{Err, length, sym, ap, ◌∙◌, subst, arith}
use Rattle.std.proofs.lemmas.Result.{err_from_is_err_and}
use Rattle.formulas.specs.Listed.{formulas_of}
use Rattle.formulas.proofs.Forming.{form_longer}
use Rattle.refusals.specs.Numbers.{by_form}
use Rattle.model.specs.Calls.{form}
use Rattle.model.specs.Describes.{Number}
use Rattle.model.specs.History.{sealed_stage}
use Rattle.model.specs.History as calls
use Rattle.model.proofs.Histories.{call_keeps_formulas}
use Rattle.model.proofs.Kept.{lines_follow_kept, have_runs_kept}
use Rattle.cases.specs.Model.{modelled}
use Rattle.cases.proofs.case.Case.form.Goals as goal

pub invariant_of-self : goal.invariant_of-self
unfolding form modelled
invariant_of-self g c =
    let s = c.args.self.now in
    let m = modelled s in
    let fs = formulas_of s.formulas in
    let after = c.form.ensures.after in
    let longer = form_longer fs c.args.kind c.args.left c.args.right in
    let kept : (n : _) (A : _) → Number fs n A → Number (formulas_of c.form.new.self) n A =
    λ n A is. subst (λ gs. Number gs n A) (sym after) (call_keeps_formulas sealed_stage m (calls.form c.args.kind c.args.left c.args.right) n A is) in
    record {
      within = s.within;
      distinct = s.distinct;
      entered = λ k f is. omega (arith, s.entered k f is, longer, ap length after);
      stated = λ n l is. omega (arith, s.stated n l is, longer, ap length after);
      follow = lines_follow_kept fs _ s.assumptions kept s.entered m.lines s.follow;
      have_runs = have_runs_kept fs _ s.assumptions kept s.entered m.refutations s.have_runs;
    }

pub returns-in_err-form : goal.returns-in_err-form
unfolding form modelled
returns-in_err-form g c =
    let p = err_from_is_err_and c.from_residual.result c.from_residual.ensures.1 in
    record {
      answer = p.1 ∙ ap Err p.2 ∙ ap by_form (sym c.in_err-form.was ∙ c.form.ensures.answer);
      after = ap (λ fs. record (modelled c.args.self.now) { formulas = fs }) c.form.ensures.after;
    }

pub returns : goal.returns
unfolding form modelled
returns g c = record {
  answer = ap by_form (sym c.in_ok-form.was ∙ c.form.ensures.answer);
  after = ap (λ fs. record (modelled c.args.self.now) { formulas = fs }) c.form.ensures.after;
}

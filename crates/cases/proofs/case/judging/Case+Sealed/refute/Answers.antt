-- `refute` meets its contract, and what it holds has a run.
use Rattle.std.proofs.Common.{◌≤◌, length, Ok, sym, refl, ap, ◌∙◌, subst}
use Rattle.std.specs.Option.{ok_or}
use Rattle.std.proofs.lemmas.Bool.{leb-true, leb-false}
use Rattle.std.proofs.lemmas.Result.{err_from_is_err_and}
use Rattle.refusals.specs.declared.Refusal.TheVariants.{RefutationsFull}
use Rattle.logic.specs.Run.{Run}
use Rattle.lists.proofs.Added.{number_new, after_new}
use Rattle.lists.proofs.Members.{every_push}
use Rattle.model.specs.declared.refutation.Refutation.{Refutation}
use Rattle.model.specs.Breaking.{Breaks, HaveRuns}
use Rattle.model.specs.Judging.{refute, refute_scratch}
use Rattle.model.proofs.Refuted.{judged_breaks}
use Rattle.model.proofs.Checks.{refute_full, scratch_full, refute_judged, scratch_judged}
use Rattle.model.proofs.Scratch.{judgeable}
use Rattle.cases.specs.Model.{modelled}
use Rattle.cases.proofs.Outcomes.{answer_of, after_of}
use Rattle.cases.proofs.case.judging.Case+Sealed.refute.Goals as goal

pub returns-in_err-check : goal.returns-in_err-check
unfolding refute refute_scratch modelled
returns-in_err-check g c =
    let p = err_from_is_err_and c.from_residual.result c.from_residual.ensures.1 in
    let refused = c.in_err-check.ensures in
    rw (p.1, p.2, ← refused) (record { answer = refl; after = refl; words = refl })

pub returns-then-is_full : goal.returns-then-is_full
unfolding modelled
returns-then-is_full g c =
    let m = modelled c.args.self.now in
    let run = g.R.RunSource.meaning c.args.source.now in
    let passed = sym c.in_ok-check.ensures in
    let full : 64 ≤ length m.refutations = leb-true 64 (length m.refutations) (sym c.is_full.ensures ∙ c.if-is_full.true) in
    let e = refute_full m run c.args.formula c.args.position full (length c.args.scratch.now) passed in
    record { answer = answer_of e; after = after_of e; words = sym (scratch_full m run c.args.formula c.args.position full c.args.scratch.now passed) }

pub returns-in_err-judge : goal.returns-in_err-judge
unfolding modelled
returns-in_err-judge g c =
    let m = modelled c.args.self.now in
    let run = g.R.RunSource.meaning c.args.source.now in
    let passed = sym c.in_ok-check.ensures in
    let room = leb-false 64 (length m.refutations) (sym c.is_full.ensures ∙ c.if-is_full.false) in
    let judged = c.in_err-judge.ensures in
    let p = err_from_is_err_and c.from_residual-in_err-judge.result c.from_residual-in_err-judge.ensures.1 in
    let e = refute_judged m run c.args.formula c.args.position room (length c.args.scratch.now) passed _ (sym judged.answer) in
    rw (p.1, p.2) (record {
      answer = answer_of e;
      after = after_of e;
      words = judged.words ∙ sym (scratch_judged m run c.args.formula c.args.position room c.args.scratch.now passed);
    })

pub invariant_of-self : goal.invariant_of-self
unfolding modelled
invariant_of-self g c =
    let s = c.args.self.now in
    let m = modelled s in
    let run = g.R.RunSource.meaning c.args.source.now in
    let x : Refutation = record { formula = c.args.formula; position = c.args.position } in
    let room = leb-false 64 (length m.refutations) (sym c.is_full.ensures ∙ c.if-is_full.false) in
    let can = judgeable m run c.args.formula c.args.position (length c.args.scratch.now) (sym c.in_ok-check.ensures) in
    let breaks = judged_breaks m run c.args.formula c.args.position s.entered can.entered (sym c.in_ok-judge.ensures.answer) in
    let runs = every_push (λ (y : Refutation). ∥ ((r : Run) × Breaks m.formulas m.assumptions r y.formula y.position) ∥₁) m.refutations x s.have_runs ∣ (run, breaks) ∣₁ in
    record {
      within = s.within;
      distinct = s.distinct;
      entered = s.entered;
      stated = s.stated;
      follow = s.follow;
      have_runs = subst (HaveRuns m.formulas m.assumptions) (sym (c.push.ensures.after ∙ after_new 64 m.refutations x room)) runs;
    }

pub returns : goal.returns
unfolding modelled
returns g c =
    let m = modelled c.args.self.now in
    let run = g.R.RunSource.meaning c.args.source.now in
    let x : Refutation = record { formula = c.args.formula; position = c.args.position } in
    let room = leb-false 64 (length m.refutations) (sym c.is_full.ensures ∙ c.if-is_full.false) in
    let passed = sym c.in_ok-check.ensures in
    let judged = c.in_ok-judge.ensures in
    let e = refute_judged m run c.args.formula c.args.position room (length c.args.scratch.now) passed (Ok tt) (sym judged.answer) in
    record {
      answer = c.ok_or.ensures.value ∙ ap (λ o. ok_or o RefutationsFull) (c.push.ensures.number ∙ number_new 64 m.refutations room) ∙ answer_of e;
      after = ap (λ ys. record m { refutations = ys }) (c.push.ensures.after ∙ after_new 64 m.refutations x room) ∙ after_of e;
      words = judged.words ∙ sym (scratch_judged m run c.args.formula c.args.position room c.args.scratch.now passed);
    }

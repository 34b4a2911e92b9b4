-- `line` meets its contract: a line that is admitted is held, and its formula follows from the assumptions.
use Rattle.std.proofs.Common.{◌<◌, length, Err, sym, ap, ◌∙◌, subst}
use Rattle.std.specs.Option.{ok_or}
use Rattle.std.proofs.lemmas.Bool.{leb-true, leb-false}
use Rattle.std.proofs.lemmas.Result.{err_from_is_err_and}
use Rattle.refusals.specs.declared.Refusal.TheVariants.{LinesFull}
use Rattle.lists.proofs.Added.{number_new, after_new}
use Rattle.lists.proofs.Members.{every_push}
use Rattle.calculus.specs.declared.verdict.Verdict.TheVariants.{Admitted, NotAdmitted, BeyondLimit}
use Rattle.model.specs.declared.line.Line.{Line}
use Rattle.model.specs.Breaking.{LinesFollow}
use Rattle.model.specs.Limits.{LinesEntered}
use Rattle.model.proofs.Following.{lines_follow_push}
use Rattle.cases.specs.Model.{modelled}
use Rattle.cases.proofs.Outcomes.{answer_of, after_of}
use Rattle.cases.proofs.Asking.{question_refused, asked_full, asked_judged, asked_allowed}
use Rattle.cases.proofs.case.lines.Case+Sealed.line.Goals as goal

pub returns-in_err-question : goal.returns-in_err-question
unfolding modelled
returns-in_err-question g c =
    let m = modelled c.args.self.now in
    let l = c.args.line in
    let p = err_from_is_err_and c.from_residual.result c.from_residual.ensures.1 in
    let e = question_refused m l p.0 (sym c.question.ensures ∙ c.in_err-question.was ∙ ap Err (sym p.2)) (g.P.RulePage.meaning c.args.page.now) in
    record { answer = p.1 ∙ answer_of e; after = after_of e }

pub returns-then-is_full : goal.returns-then-is_full
unfolding modelled
returns-then-is_full g c =
    let m = modelled c.args.self.now in
    let l = c.args.line in
    let full = leb-true 512 (length m.lines) (sym c.is_full.ensures ∙ c.if-is_full.true) in
    let e = asked_full m l (g.P.RulePage.meaning c.args.page.now) c.in_ok-question.question (sym c.question.ensures ∙ c.in_ok-question.was) full in
    record { answer = answer_of e; after = after_of e }

pub invariant_of-self : goal.invariant_of-self
unfolding modelled
invariant_of-self g c =
    let s = c.args.self.now in
    let m = modelled s in
    let page = g.P.RulePage.meaning c.args.page.now in
    let l = c.args.line in
    let room = leb-false 512 (length m.lines) (sym c.is_full.ensures ∙ c.if-is_full.false) in
    let can = asked_allowed m l page c.in_ok-question.question (sym c.question.ensures ∙ c.in_ok-question.was) room (sym c.verdict.ensures ∙ c.in-Admitted.is) in
    let pushed = sym (c.push.ensures.after ∙ after_new 512 m.lines l room) in
    record {
      within = s.within;
      distinct = s.distinct;
      entered = s.entered;
      stated = subst (LinesEntered m.formulas) pushed
          (every_push (λ (k : Line). k.formula < length m.formulas) m.lines l s.stated can.entered);
      follow = subst (LinesFollow m.formulas m.assumptions) pushed (lines_follow_push m s.entered page l can s.follow);
      have_runs = s.have_runs;
    }

pub returns-in-Admitted : goal.returns-in-Admitted
unfolding modelled
returns-in-Admitted g c =
    let m = modelled c.args.self.now in
    let l = c.args.line in
    let room = leb-false 512 (length m.lines) (sym c.is_full.ensures ∙ c.if-is_full.false) in
    let e = asked_judged m l (g.P.RulePage.meaning c.args.page.now) c.in_ok-question.question (sym c.question.ensures ∙ c.in_ok-question.was) room Admitted (sym c.verdict.ensures ∙ c.in-Admitted.is) in
    record {
      answer = c.ok_or.ensures.value ∙ ap (λ o. ok_or o LinesFull) (c.push.ensures.number ∙ number_new 512 m.lines room) ∙ answer_of e;
      after = ap (λ ls. record m { lines = ls }) (c.push.ensures.after ∙ after_new 512 m.lines l room) ∙ after_of e;
    }

pub returns-in-NotAdmitted : goal.returns-in-NotAdmitted
unfolding modelled
returns-in-NotAdmitted g c =
    let m = modelled c.args.self.now in
    let l = c.args.line in
    let room = leb-false 512 (length m.lines) (sym c.is_full.ensures ∙ c.if-is_full.false) in
    let e = asked_judged m l (g.P.RulePage.meaning c.args.page.now) c.in_ok-question.question (sym c.question.ensures ∙ c.in_ok-question.was) room NotAdmitted (sym c.verdict.ensures ∙ c.in-NotAdmitted.is) in
    record { answer = answer_of e; after = after_of e }

pub returns-in-BeyondLimit : goal.returns-in-BeyondLimit
unfolding modelled
returns-in-BeyondLimit g c =
    let m = modelled c.args.self.now in
    let l = c.args.line in
    let room = leb-false 512 (length m.lines) (sym c.is_full.ensures ∙ c.if-is_full.false) in
    let e = asked_judged m l (g.P.RulePage.meaning c.args.page.now) c.in_ok-question.question (sym c.question.ensures ∙ c.in_ok-question.was) room BeyondLimit (sym c.verdict.ensures ∙ c.in-BeyondLimit.is) in
    record { answer = answer_of e; after = after_of e }

-- `assume` meets its contract: an entered formula is added to the assumptions.
use Rattle.std.proofs.Common.{ℕ, ◌<◌, ◌≤◌, eqb, List, length, sym, ap, ◌∙◌, subst, arith}
use Rattle.std.specs.Option.{ok_or}
use Rattle.refusals.specs.declared.Refusal.TheVariants.{AssumptionsFull}
use Rattle.lists.specs.Adding.{Distinct}
use Rattle.formulas.specs.Listed.{formulas_of}
use Rattle.lists.proofs.Added.{number_or, add_within, add_distinct, add_every}
use Rattle.lists.proofs.Members.{some_not_none}
use Rattle.lists.proofs.Places.{eqb_tells}
use Rattle.model.specs.Limits.{AssumptionsEntered}
use Rattle.model.proofs.Checks.{assume_unknown, assume_known}
use Rattle.cases.specs.Model.{modelled}
use Rattle.cases.proofs.Outcomes.{answer_of, after_of}
use Rattle.cases.proofs.case.Case+Open.assume.Goals as goal

pub returns-then-from-len : goal.returns-then-from-len
unfolding modelled
returns-then-from-len c =
    let e = assume_unknown (modelled c.args.self.now) c.args.formula (omega arith) in
    record { answer = answer_of e; after = after_of e }

pub invariant_of-self : goal.invariant_of-self
invariant_of-self c =
    let s = c.args.self.now in
    let after = c.enter.ensures.after in
    record {
      within = subst (λ (xs : List ℕ). length xs ≤ 16) (sym after) (add_within 16 s.assumptions c.args.formula _ s.within);
      distinct = subst Distinct (sym after) (add_distinct eqb eqb_tells 16 s.assumptions c.args.formula s.distinct);
      entered = subst (AssumptionsEntered (formulas_of s.formulas)) (sym after)
          (add_every (λ g. g < length (formulas_of s.formulas)) 16 s.assumptions c.args.formula _ s.entered (omega arith));
      stated = λ n l is. absurd (some_not_none (sym is));
      follow = λ n l is. absurd (some_not_none (sym is));
      have_runs = λ n x is. absurd (some_not_none (sym is));
    }

pub returns : goal.returns
unfolding modelled
returns c =
    let s = c.args.self.now in
    let e = assume_known (modelled s) c.args.formula (omega arith) in
    record {
      answer = c.ok_or.ensures.value ∙ ap (λ o. ok_or o AssumptionsFull) c.enter.ensures.number ∙ number_or 16 AssumptionsFull s.assumptions _ ∙ answer_of e;
      after = ap (λ ks. record (modelled s) { assumptions = ks }) c.enter.ensures.after ∙ after_of e;
    }

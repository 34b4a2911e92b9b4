-- The formula is judged by the plan's truths.
use Rattle.std.proofs.Common.{◌≡◌, ℕ, Bool, true, false, ◌^◌, ◌<◌, ◌↔◌, length, MatchBool, IsTrue, List, get_or, sym, ap, ◌∙◌, subst, arith}
use Rattle.formulas.specs.Decode.{formula_at}
use Rattle.calculus.specs.Tautology.{Tautology}
use Rattle.tautologies.specs.declared.step.Step.{Step}
use Rattle.tautologies.specs.Planning.{Planned, Values, place_of}
use Rattle.tautologies.proofs.Filling.{any_default}
use Rattle.tautologies.proofs.PlanTruths.{judged}
use Rattle.tautologies.proofs.evaluating.true_everywhere.Goals as goal
use Rattle.tautologies.proofs.evaluating.true_everywhere.Goals.{After-from-place}

-- the plan, and the place of the formula in it
module _ (c : After-from-place) where
  planned : Planned c.args.entries.now c.args.seen.now c.args.parts.now c.as_slice-steps.result.now c.make_plan-plan.result.places
  planned =
      subst (λ (ss : List Step). Planned c.args.entries.now c.args.seen.now c.args.parts.now ss c.make_plan-plan.result.places) (sym c.as_slice-steps.ensures.items) c.make_plan-plan.ensures

  at : c.from-place.result ≡ place_of c.make_plan-plan.result.places c.args.number
  at =
      let places = c.make_plan-plan.result.places in
      c.from-place.ensures ∙ ap (λ (i : ℕ). get_or places i 0) c.from.ensures
      ∙ any_default places c.args.number 0 12 (omega (arith, planned.long, c.requires.gathered.entered c.args.number c.requires.marked, c.requires.entered.within))

  -- what is true of the row at the formula's place is true of the formula
  told : (b : Bool)
      → MatchBool b
      ((v : ℕ) → v < 2 ^ length c.args.parts.now → (f : ℕ → Bool) × Values c.as_slice-steps.result.now v f × (f c.from-place.result ≡ true))
      ((v : ℕ) × (f : ℕ → Bool) × Values c.as_slice-steps.result.now v f × (f c.from-place.result ≡ false))
      → IsTrue b ↔ Tautology (formula_at c.args.entries.now c.args.number)
  told b all = judged c.args.entries.now c.requires.entered c.args.seen.now c.args.parts.now c.requires.gathered c.requires.few c.as_slice-steps.result.now c.make_plan-plan.result.places planned
      c.args.number c.from-place.result c.requires.marked at b all

pub returns-then-steps-le-FEW_ROWS : goal.returns-then-steps-le-FEW_ROWS
returns-then-steps-le-FEW_ROWS c = told (goal.at.returns-then-steps-le-FEW_ROWS c).After-from-place c.is_true_at.result c.is_true_at.ensures

pub returns-then-steps-le-SOME_ROWS : goal.returns-then-steps-le-SOME_ROWS
returns-then-steps-le-SOME_ROWS c = told (goal.at.returns-then-steps-le-SOME_ROWS c).After-from-place c.is_true_at-then-steps-le-SOME_ROWS.result c.is_true_at-then-steps-le-SOME_ROWS.ensures

pub returns-then-steps-le-MANY_ROWS : goal.returns-then-steps-le-MANY_ROWS
returns-then-steps-le-MANY_ROWS c = told (goal.at.returns-then-steps-le-MANY_ROWS c).After-from-place c.is_true_at-then-steps-le-MANY_ROWS.result c.is_true_at-then-steps-le-MANY_ROWS.ensures

pub returns-else-steps-le-MANY_ROWS : goal.returns-else-steps-le-MANY_ROWS
returns-else-steps-le-MANY_ROWS c = told (goal.at.returns-else-steps-le-MANY_ROWS c).After-from-place c.is_true_at-else-steps-le-MANY_ROWS.result c.is_true_at-else-steps-le-MANY_ROWS.ensures

-- A refutation is held exactly when it can be judged, there is room for it, and its run breaks the formula.
use Rattle.std.proofs.Common.{◌≡◌, ℕ, ◌+◌, Bool, true, false, Some, None, Ok, Option, sym, refl, ap, ◌∙◌, subst, ap₂}
use Rattle.logic.specs.Formula.{Formula}
use Rattle.logic.specs.Run.{Run}
use Rattle.logic.specs.Truth.{Holds}
use Rattle.logic.proofs.Decided.{decides}
use Rattle.formulas.specs.Forming.{numbered}
use Rattle.row_writer.specs.Searching.{first_failing}
use Rattle.model.specs.Case.{Case}
use Rattle.model.specs.Judging.{true_at, judged_by, judge}
use Rattle.model.specs.Breaking.{Breaks}
use Rattle.model.specs.Limits.{AssumptionsEntered}
use Rattle.model.specs.Promises.{RefutationHeldExactly}
use Rattle.model.proofs.Checks.{check_passes}
use Rattle.model.proofs.Describing.{numbered_is}
use Rattle.model.proofs.Judged.{first_failure}
use Rattle.model.proofs.Changes.{refute_allowed}
use Rattle.model.proofs.Refuted.{refute_breaks}
use Rattle.model.proofs.Checks.{refute_judged}

module _ (c : Case) (entered : AssumptionsEntered c.formulas c.assumptions) (r : Run) (f i : ℕ) (b : Breaks c.formulas c.assumptions r f i) where
  -- no assumption fails
  none_fails : (o : Option (ℕ × ℕ)) → first_failing (true_at c r) (r.stem + r.loop) 0 c.assumptions ≡ o → o ≡ None
  none_fails (Some x) is = absurd (let p = first_failure c entered r x.0 x.1 is in p.fails (b.keeps x.0 p.formula p.assumed x.1))
  none_fails None is = refl

  -- and the formula is not true
  is_false : (v : Bool) → true_at c r f i ≡ v → v ≡ false
  is_false true is = absurd (b.fails (subst (λ (A : Formula). Holds r A i) (numbered_is c.formulas f b.formula b.numbered) ((decides r (numbered c.formulas f) i).0 is)))
  is_false false is = refl

  judged : judge c r f i ≡ Ok tt
  judged = ap₂ judged_by (none_fails (first_failing (true_at c r) (r.stem + r.loop) 0 c.assumptions) refl) (is_false (true_at c r f i) refl)

pub refutation_held_exactly : RefutationHeldExactly
refutation_held_exactly c entered r f i n m = (
  λ is. let p = refute_allowed c r f i n m is in (p.0, p.1, p.2, refute_breaks c r f i n m is entered),
  λ p.
      let passed = check_passes c r f i n p.2.entered p.2.short p.2.within p.2.room in
      ap (λ x. x.answer) (refute_judged c r f i p.1 n passed (Ok tt) (judged c entered r f i p.3)) ∙ ap Ok (sym p.0),
)

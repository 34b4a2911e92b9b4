-- What a refutation that is answered a number for leaves: it is held by that number, and its run breaks the formula.
use Rattle.std.proofs.Common.{◌≡◌, ℕ, ◌+◌, ◌<◌, Bool, true, false, length, Some, None, Ok, Option, sym, refl}
use Rattle.std.specs.List.{slice_get}
use Rattle.refusals.proofs.Answers.{ok_not_err}
use Rattle.logic.specs.Run.{Run}
use Rattle.lists.proofs.Members.{nth_push}
use Rattle.row_writer.specs.Searching.{first_failing}
use Rattle.model.specs.Case.{Case}
use Rattle.model.specs.Judging.{true_at, judged_by, judge, refute}
use Rattle.model.specs.Breaking.{Breaks}
use Rattle.model.specs.Limits.{AssumptionsEntered}
use Rattle.model.proofs.Checks.{check_passes}
use Rattle.model.proofs.Judged.{breaking}
use Rattle.model.proofs.Checks.{refute_judged}
use Rattle.model.proofs.Changes.{refute_allowed}

-- what a verdict that holds the refutation comes from
verdict_held : (o : Option (ℕ × ℕ)) (b : Bool) → judged_by o b ≡ Ok tt → (o ≡ None) × (b ≡ false)
verdict_held (Some x) b is = absurd (ok_not_err (sym is))
verdict_held None true is = absurd (ok_not_err (sym is))
verdict_held None false is = (refl, refl)

module _ (c : Case) (r : Run) (f i : ℕ) where
  pub judged_breaks : AssumptionsEntered c.formulas c.assumptions → f < length c.formulas → judge c r f i ≡ Ok tt → Breaks c.formulas c.assumptions r f i
  judged_breaks entered f_in is =
      let p = verdict_held (first_failing (true_at c r) (r.stem + r.loop) 0 c.assumptions) (true_at c r f i) is in
      breaking c entered r f i f_in p.0 p.1

  module _ (n m : ℕ) (is : (refute c r f i n).answer ≡ Ok m) where
    pub refute_gives : slice_get (refute c r f i n).after.refutations m ≡ Some (record { formula = f; position = i })
    refute_gives =
        let (at, room, can, refuted) = refute_allowed c r f i n m is in
        rw (refute_judged c r f i room n (check_passes c r f i n can.entered can.short can.within can.room) (Ok tt) refuted, at) (nth_push c.refutations _)

    pub refute_breaks : AssumptionsEntered c.formulas c.assumptions → Breaks c.formulas c.assumptions r f i
    refute_breaks entered = let (at, room, can, refuted) = refute_allowed c r f i n m is in judged_breaks entered can.entered refuted

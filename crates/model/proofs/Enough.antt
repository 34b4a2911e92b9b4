-- With 4 words for each of 1,024 formulas, no scratch is too short.
use Rattle.std.proofs.Common.{◌≡◌, ℕ, ◌+◌, ◌≤◌, Bool, true, false, List, length, Some, None, Ok, Err, Option, Result, ap, subst, ◌≢◌, arith}
use Rattle.refusals.specs.declared.Refusal.{Refusal}
use Rattle.refusals.specs.declared.Refusal.TheVariants.{ScratchTooShort}
use Rattle.refusals.specs.Numbers.{number_of}
use Rattle.refusals.proofs.Answers.{ok_not_err}
use Rattle.logic.specs.Run.{Run}
use Rattle.row_writer.specs.Searching.{first_failing}
use Rattle.model.specs.Case.{Case}
use Rattle.model.specs.Calls.{Outcome, unchanged}
use Rattle.model.specs.Judging.{check, once_checked, true_at, judged_by, held_by, truth, refute}
use Rattle.model.specs.Outcomes.{Unjudgeable, scratch_too_short}
use Rattle.model.specs.History.{after}
use Rattle.model.specs.Promises.{ScratchSuffices}
use Rattle.model.proofs.Histories.{limits_kept}
use Rattle.model.proofs.Judged.{CheckAnswers, check_answers, RefuteGoes, unjudged, full, judged, refute_goes}

err_same : {X : Type 0} {d e : Refusal} → ◌≡◌ {A = Result X Refusal} (Err d) (Err e) → d ≡ e
err_same is = cc

-- a refusal with another number
other_number : {X : Type 0} {d : Refusal} → number_of d ≢ 12 → ◌≡◌ {A = Result X Refusal} (Err d) (Err ScratchTooShort) → ⊥
other_number differs is = differs (ap number_of (err_same is))

module _ (c : Case) (few : length c.formulas ≤ 1024) (r : Run) (f i n : ℕ) (enough : 4096 ≤ n) where
  -- the outcome is not that refusal
  abbrev Other : {A : Type 0} → Outcome A → Type 0
  Other o = o.answer ≡ Err ScratchTooShort → ⊥

  not_short : Unjudgeable c r f i n ScratchTooShort → ⊥
  not_short (scratch_too_short f_in short within less) = omega arith

  truth_other : Other (truth c r f i n)
  unfolding truth
  truth_other = by (check c r f i n) (check_answers c r f i n)
    where
      by : (k : Result (Unit {0}) Refusal) → CheckAnswers c r f i n k → Other (once_checked c k (unchanged c (Ok (true_at c r f i))))
      by (Ok done) can = ok_not_err
      by (Err e) cannot = λ is. not_short (subst (Unjudgeable c r f i n) (err_same is) cannot)

  by_verdict : (o : Option (ℕ × ℕ)) (b : Bool) → Other (held_by c f i (judged_by o b))
  by_verdict (Some x) b = other_number (λ is. omega arith)
  by_verdict None true = other_number (λ is. omega arith)
  by_verdict None false = ok_not_err

  by_goes : {o : Outcome ℕ} {left : List ℕ → List ℕ} → RefuteGoes c r f i n o left → Other o
  by_goes (unjudged e cannot) = λ is. not_short (subst (Unjudgeable c r f i n) (err_same is) cannot)
  by_goes (full can most) = other_number (λ is. omega arith)
  by_goes (judged can room v is) = subst (λ u. Other (held_by c f i u)) is (by_verdict (first_failing (true_at c r) (r.stem + r.loop) 0 c.assumptions) (true_at c r f i))

  refute_other : Other (refute c r f i n)
  refute_other = by_goes (refute_goes c r f i n)

pub scratch_suffices : ScratchSuffices 4096
scratch_suffices s h r f i n enough =
    (truth_other (after h) (limits_kept s h).formulas_few r f i n enough, refute_other (after h) (limits_kept s h).formulas_few r f i n enough)

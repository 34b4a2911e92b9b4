-- truth and refute do what their relations say.
use Rattle.std.proofs.Common.{◌≡◌, ℕ, ◌+◌, ◌*◌, ◌<◌, ◌≤◌, Bool, true, false, if◌then◌else◌, List, length, Some, None, Ok, Err, Option, Result, sym, refl, ◌∙◌, subst, inl, inr, arith}
use mathlib.Core.Bool.{false≢true}
use lib.Dec
use Rattle.std.specs.List.{slice_get}
use Rattle.std.proofs.lemmas.Option.{slice_get-get_or}
use Rattle.std.proofs.lemmas.Bool.{cases_lt, cond_both, ltb-true, ltb-false, leb-true, leb-false}
use Rattle.refusals.specs.declared.Refusal.{Refusal}
use Rattle.refusals.specs.declared.Refusal.TheVariants.{ScratchTooShort, FormulaTrue, RefutationsFull}
use Rattle.logic.specs.Formula.{Formula, falsum}
use Rattle.logic.specs.Run.{Run}
use Rattle.logic.specs.Truth.{Holds, Throughout}
use Rattle.logic.proofs.Decided.{decides, throughout, fails}
use Rattle.formulas.specs.Forming.{numbered}
use Rattle.lists.proofs.Members.{nth_within}
use Rattle.row_writer.specs.RowsAlong.{with_rows}
use Rattle.row_writer.proofs.RowsAlong.{row_along, row_behind}
use Rattle.row_writer.specs.Searching.{first_failing}
use Rattle.row_writer.proofs.Failing.{failing, none_failing}
use Rattle.model.specs.Case.{Case}
use Rattle.model.specs.Calls.{Outcome, unchanged}
use Rattle.model.specs.Judging.{check, once_checked, words_once_checked, true_at, truth, truth_scratch, judged_by, judge, held_by, with_room, words_with_room, refute, refute_scratch}
use Rattle.model.specs.Describes.{Number}
use Rattle.model.specs.Limits.{AssumptionsEntered}
use Rattle.model.specs.Breaking.{Assumes, Keeps, Breaks}
use Rattle.model.specs.Outcomes.{Judgeable, Unjudgeable, formula_unknown, run_too_long, past_run, scratch_too_short, TruthEnds, not_told, told_true, told_false, FirstFailure, RefuteEnds, not_judged, refutations_full, assumption_fails, formula_holds, newly_held}
use Rattle.model.specs.Promises.{TruthExact, RefuteExact, RowsTell}
use Rattle.model.proofs.Describing.{numbered_is}

-- an entered formula has its number
pub entered_number : (fs : List Formula) (f : ℕ) → f < length fs → Number fs f (numbered fs f)
entered_number fs f f_in = slice_get-get_or fs f falsum f_in

module _ (c : Case) (r : Run) (f i : ℕ) where
  -- what the shared checks answer
  abbrev pub CheckAnswers : ℕ → Result (Unit {0}) Refusal → Type 0
  CheckAnswers words (Ok done) = Judgeable c r f i words
  CheckAnswers words (Err e) = Unjudgeable c r f i words e

  pub check_answers : (words : ℕ) → CheckAnswers words (check c r f i words)
  check_answers words =
      cond_both (Dec.leb (length c.formulas) f) _ _ (CheckAnswers words) (λ t. formula_unknown (leb-true (length c.formulas) f t)) (λ e.
      let entered = leb-false (length c.formulas) f e in
      cond_both (Dec.ltb 256 (r.stem + r.loop)) _ _ (CheckAnswers words) (λ t. run_too_long entered (ltb-true 256 (r.stem + r.loop) t)) (λ g.
      let short = ltb-false 256 (r.stem + r.loop) g in
      cond_both (Dec.leb (r.stem + r.loop) i) _ _ (CheckAnswers words) (λ t. past_run entered short (leb-true (r.stem + r.loop) i t)) (λ h.
      let within = leb-false (r.stem + r.loop) i h in
      cond_both (Dec.ltb words (4 * length c.formulas)) (Err ScratchTooShort) (Ok tt) (CheckAnswers words)
      (λ t. scratch_too_short entered short within (ltb-true words (4 * length c.formulas) t))
      (λ k. record { entered = entered; short = short; within = within; room = ltb-false words (4 * length c.formulas) k }))))

  module _ (words : List ℕ) where
    telling : Judgeable c r f i (length words) → (b : Bool) → true_at c r f i ≡ b
        → TruthEnds c r f i words (unchanged c (Ok b)) (with_rows r c.formulas words)
    telling judgeable true is = told_true judgeable (numbered c.formulas f) (entered_number c.formulas f judgeable.entered) ((decides r (numbered c.formulas f) i).0 is)
    telling judgeable false is = told_false judgeable (numbered c.formulas f) (entered_number c.formulas f judgeable.entered) (fails r (numbered c.formulas f) i is)

    truth_by : (k : Result (Unit {0}) Refusal) → CheckAnswers (length words) k
        → TruthEnds c r f i words (once_checked c k (unchanged c (Ok (true_at c r f i)))) (words_once_checked words k (with_rows r c.formulas words))
    truth_by (Ok done) judgeable = telling judgeable (true_at c r f i) refl
    truth_by (Err e) unjudgeable = not_told e unjudgeable

pub truth_exact : TruthExact
unfolding truth truth_scratch
truth_exact c r f i words = truth_by c r f i words (check c r f i (length words)) (check_answers c r f i (length words))

module _ (c : Case) (r : Run) (f i n : ℕ) where
  -- refute by its checks in their order, and what it leaves of the scratch words: a check refuses it, 64 refutations are held, or it is judged
  pub data RefuteGoes : Outcome ℕ → (List ℕ → List ℕ) → Type 0 where
    unjudged : (e : Refusal) → Unjudgeable c r f i n e → RefuteGoes (unchanged c (Err e)) (λ words. words)
    full : Judgeable c r f i n → 64 ≤ length c.refutations → RefuteGoes (unchanged c (Err RefutationsFull)) (λ words. words)
    judged : Judgeable c r f i n → length c.refutations < 64 → (v : Result (Unit {0}) Refusal) → judge c r f i ≡ v → RefuteGoes (held_by c f i v) (with_rows r c.formulas)

  abbrev Goes : Result (Unit {0}) Refusal → Type 0
  Goes k = RefuteGoes (once_checked c k (with_room c r f i)) (λ words. words_once_checked words k (words_with_room c r words))

  by_room : Judgeable c r f i n → (b : Bool) → Dec.leb 64 (length c.refutations) ≡ b
      → RefuteGoes (if b then unchanged c (Err RefutationsFull) else held_by c f i (judge c r f i)) (λ words. if b then words else with_rows r c.formulas words)
  by_room can true most = full can (leb-true 64 (length c.refutations) most)
  by_room can false few = judged can (leb-false 64 (length c.refutations) few) (judge c r f i) refl

  by_check : (k : Result (Unit {0}) Refusal) → CheckAnswers c r f i n k → Goes k
  by_check (Ok done) can = by_room can (Dec.leb 64 (length c.refutations)) refl
  by_check (Err e) cannot = unjudged e cannot

  pub refute_goes : RefuteGoes (refute c r f i n) (λ words. words_once_checked words (check c r f i n) (words_with_room c r words))
  unfolding refute
  refute_goes = by_check (check c r f i n) (check_answers c r f i n)

module _ (c : Case) (entered : AssumptionsEntered c.formulas c.assumptions) (r : Run) where
  -- what the assumption at a place says, by its number and by its formula
  assumes : (k a : ℕ) → slice_get c.assumptions k ≡ Some a → Assumes c.formulas c.assumptions k (numbered c.formulas a)
  assumes k a is = record { number = a; assumed = is; numbered = entered_number c.formulas a (entered k a is) }

  holding : (k : ℕ) (A : Formula) (s : Assumes c.formulas c.assumptions k A) → ((j : ℕ) → j < r.stem + r.loop → true_at c r s.number j ≡ true) → Throughout r A
  holding k A s below = subst (Throughout r) (numbered_is c.formulas s.number A s.numbered) (throughout r (numbered c.formulas s.number) below)

  pub first_failure : (k j : ℕ) → first_failing (true_at c r) (r.stem + r.loop) 0 c.assumptions ≡ Some (k, j) → FirstFailure c r k j
  first_failure k j is =
      let p = failing (true_at c r) (r.stem + r.loop) c.assumptions k j is in
      let A = numbered c.formulas p.number in
      record {
        formula = A;
        assumed = assumes k p.number p.placed;
        position = omega (arith, p.first.below);
        fails = fails r A j p.first.false_at;
        before = λ m lt. (decides r A m).0 (p.first.true_before m (omega arith) lt);
        earlier = λ m B lt s. holding m B s (p.earlier m s.number lt s.assumed);
      }

  keeps : first_failing (true_at c r) (r.stem + r.loop) 0 c.assumptions ≡ None → Keeps c.formulas c.assumptions r
  keeps none k A s = holding k A s (none_failing (true_at c r) (r.stem + r.loop) 0 c.assumptions none k s.number s.assumed)

  pub breaking : (f i : ℕ) → f < length c.formulas → first_failing (true_at c r) (r.stem + r.loop) 0 c.assumptions ≡ None → true_at c r f i ≡ false
      → Breaks c.formulas c.assumptions r f i
  breaking f i f_in none is = record {
    keeps = keeps none;
    formula = numbered c.formulas f;
    numbered = entered_number c.formulas f f_in;
    fails = fails r (numbered c.formulas f) i is;
  }

  module _ (f i : ℕ) (words : List ℕ) where
    by_verdict : Judgeable c r f i (length words) → length c.refutations < 64 → (o : Option (ℕ × ℕ)) → first_failing (true_at c r) (r.stem + r.loop) 0 c.assumptions ≡ o
        → RefuteEnds c r f i words (held_by c f i (judged_by o (true_at c r f i))) (with_rows r c.formulas words)
    by_verdict can room (Some x) is = assumption_fails can room x.0 x.1 (first_failure x.0 x.1 is)
    by_verdict can room None is =
        cond_both (true_at c r f i) (Err FormulaTrue) (Ok tt) (λ v. RefuteEnds c r f i words (held_by c f i v) (with_rows r c.formulas words))
        (λ true_there. formula_holds can room (keeps is) (numbered c.formulas f) (entered_number c.formulas f can.entered) ((decides r (numbered c.formulas f) i).0 true_there))
        (λ false_there. newly_held can room (breaking f i can.entered is false_there))

    by_goes : {o : Outcome ℕ} {left : List ℕ → List ℕ} → RefuteGoes c r f i (length words) o left → RefuteEnds c r f i words o (left words)
    by_goes (unjudged e cannot) = not_judged e cannot
    by_goes (full can most) = refutations_full can most
    by_goes (judged can room v is) =
        subst (λ u. RefuteEnds c r f i words (held_by c f i u) (with_rows r c.formulas words)) is
        (by_verdict can room (first_failing (true_at c r) (r.stem + r.loop) 0 c.assumptions) refl)

pub refute_exact : RefuteExact
unfolding refute_scratch
refute_exact c entered r f i words = by_goes c entered r f i words (refute_goes c r f i (length words))

pub rows_tell : RowsTell
rows_tell r fs words f i A short is =
    let f_in = nth_within fs f is in
    let A_is = numbered_is fs f A is in
    elim (cases_lt i (r.stem + r.loop)) [
      | inl within ↦
          let told = row_along r fs words f i f_in within short in (
            λ t. (within, subst (λ (B : Formula). Holds r B i) A_is ((decides r (numbered fs f) i).0 (sym told ∙ t))),
            λ p. told ∙ (decides r (numbered fs f) i).1 (subst (λ (B : Formula). Holds r B i) (sym A_is) p.1),
          )
      | inr past ↦ (λ t. absurd (false≢true (sym (row_behind r fs words f i f_in past) ∙ t)), λ p. absurd (omega (arith, p.0)))
    ]

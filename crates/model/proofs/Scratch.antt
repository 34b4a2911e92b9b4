-- What the scratch words say once the rows of all formulas are written.
use Rattle.std.proofs.Common.{◌≡◌, ℕ, ◌+◌, ◌*◌, ◌<◌, List, length, Some, Ok, refl, subst}
use lib.Dec
use Rattle.std.specs.List.{slice_get}
use Rattle.std.proofs.lemmas.Bool.{cond-true, and_from, le-leb}
use Rattle.logic.specs.Run.{Run}
use Rattle.row_writer.specs.RowsAlong.{rows_fit, with_rows, rows_after, row_says}
use Rattle.row_writer.proofs.RowsAlong.{row_along, with_rows_length}
use Rattle.row_writer.specs.Searching.{first_failing}
use Rattle.row_writer.proofs.Failing.{first_failing_same}
use Rattle.model.specs.Case.{Case}
use Rattle.model.specs.Calls.{Outcome}
use Rattle.model.specs.Judging.{check, true_at, refute_scratch}
use Rattle.model.specs.Outcomes.{Judgeable}
use Rattle.model.proofs.Judged.{CheckAnswers, check_answers, RefuteGoes, unjudged, full, judged, refute_goes}

-- where the checks pass, a formula can be judged
pub judgeable : (c : Case) (r : Run) (f i n : ℕ) → check c r f i n ≡ Ok tt → Judgeable c r f i n
judgeable c r f i n is = subst (CheckAnswers c r f i n) is (check_answers c r f i n)

module _ (c : Case) (r : Run) (f i : ℕ) (words : List ℕ) (can : Judgeable c r f i (length words)) where
  -- there is room for the rows
  pub rows_written : rows_after r c.formulas words ≡ with_rows r c.formulas words
  rows_written =
      cond-true (rows_fit r c.formulas (length words)) (with_rows r c.formulas words) words
      (and_from (Dec.leb (r.stem + r.loop) 256) (Dec.leb (4 * length c.formulas) (length words))
      (le-leb (r.stem + r.loop) 256 can.short) (le-leb (4 * length c.formulas) (length words) can.room))

  -- the formula's row says its truth
  pub row_tells : row_says (with_rows r c.formulas words) f i ≡ true_at c r f i
  row_tells = row_along r c.formulas words f i can.entered can.within can.short

  -- and so do the rows of the assumptions
  pub search_tells : ((k a : ℕ) → slice_get c.assumptions k ≡ Some a → a < length c.formulas)
      → first_failing (row_says (with_rows r c.formulas words)) (r.stem + r.loop) 0 c.assumptions
      ≡ first_failing (true_at c r) (r.stem + r.loop) 0 c.assumptions
  search_tells entered =
      first_failing_same (row_says (with_rows r c.formulas words)) (true_at c r) (r.stem + r.loop) 0 c.assumptions
      (λ k a is j lt. row_along r c.formulas words a j (entered k a is) lt can.short)

-- refute leaves the scratch as long as it was
pub refute_scratch_length : (c : Case) (r : Run) (f i : ℕ) (words : List ℕ) → length (refute_scratch c r f i words) ≡ length words
unfolding refute_scratch
refute_scratch_length c r f i words = by (refute_goes c r f i (length words))
  where
    by : {o : Outcome ℕ} {left : List ℕ → List ℕ} → RefuteGoes c r f i (length words) o left → length (left words) ≡ length words
    by (unjudged e cannot) = refl
    by (full can most) = refl
    by (judged can room v is) = with_rows_length r c.formulas words can.room

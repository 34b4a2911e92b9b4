-- What calls answer and leave, where it is known which of their checks pass.
use Rattle.std.proofs.Common.{◌≡◌, ℕ, ◌+◌, ◌*◌, ◌<◌, ◌≤◌, true, false, ◌&&◌, eqb, List, length, Ok, Err, Result, arith}
use Rattle.std.proofs.lemmas.Bool.Decides.{nat_tests}
use Rattle.refusals.specs.declared.Refusal.{Refusal}
use Rattle.refusals.specs.declared.Refusal.TheVariants.{NotEntered, AssumptionsFull, LineNotHeld, LinesFull, RunTooLong, PastRun, ScratchTooShort, RefutationsFull}
use Rattle.logic.specs.Run.{Run}
use Rattle.calculus.specs.declared.verdict.Verdict.{Verdict}
use Rattle.calculus.specs.Pages.{Page}
use Rattle.row_writer.specs.RowsAlong.{with_rows}
use Rattle.lists.specs.Adding.{first_like, add_answer, add_after}
use Rattle.model.specs.declared.line.Line.{Line}
use Rattle.model.specs.Case.{Case}
use Rattle.model.specs.Calls.{unchanged, assume}
use Rattle.model.specs.Lines.{place_held, line_verdict, line_by, line}
use Rattle.model.specs.Judging.{check, judge, held_by, refute, refute_scratch}

module _ (c : Case) where
  module _ (f : ℕ) where
    pub assume_unknown : length c.formulas ≤ f → assume c f ≡ unchanged c (Err NotEntered)
    unfolding assume
    assume_unknown past = grind (arith, nat_tests)

    pub assume_known : f < length c.formulas → assume c f ≡ record {
      answer = add_answer 16 AssumptionsFull c.assumptions (first_like eqb c.assumptions f);
      after = record c { assumptions = add_after 16 c.assumptions f (first_like eqb c.assumptions f) };
    }
    unfolding assume
    assume_known known = grind (arith, nat_tests)

  module _ (page : Page) (l : Line) where
    pub line_unknown : length c.formulas ≤ l.formula → line c page l ≡ unchanged c (Err NotEntered)
    unfolding line
    line_unknown past = grind (arith, nat_tests)

    module _ (known : l.formula < length c.formulas) where
      pub line_unplaced : (place_held c l.first && place_held c l.second) ≡ false → line c page l ≡ unchanged c (Err LineNotHeld)
      unfolding line
      line_unplaced unplaced = grind (arith, nat_tests)

      module _ (placed : (place_held c l.first && place_held c l.second) ≡ true) where
        pub line_full : 512 ≤ length c.lines → line c page l ≡ unchanged c (Err LinesFull)
        unfolding line
        line_full full = grind (arith, nat_tests)

        pub line_judged_as : length c.lines < 512 → (v : Verdict) → line_verdict c page l ≡ v → line c page l ≡ line_by c l v
        unfolding line
        line_judged_as room v is = grind (arith, nat_tests)

  module _ (r : Run) (f i : ℕ) where
    module _ (n : ℕ) where
      pub check_unknown : length c.formulas ≤ f → check c r f i n ≡ Err NotEntered
      check_unknown past = grind (arith, nat_tests)

      module _ (known : f < length c.formulas) where
        pub check_long : 256 < r.stem + r.loop → check c r f i n ≡ Err RunTooLong
        check_long long = grind (arith, nat_tests)

        module _ (short : r.stem + r.loop ≤ 256) where
          pub check_past : r.stem + r.loop ≤ i → check c r f i n ≡ Err PastRun
          check_past past = grind (arith, nat_tests)

          module _ (within : i < r.stem + r.loop) where
            pub check_short : n < 4 * length c.formulas → check c r f i n ≡ Err ScratchTooShort
            check_short few = grind (arith, nat_tests)

            pub check_passes : 4 * length c.formulas ≤ n → check c r f i n ≡ Ok tt
            check_passes enough = grind (arith, nat_tests)

    module _ (full : 64 ≤ length c.refutations) where
      pub refute_full : (n : ℕ) → check c r f i n ≡ Ok tt → refute c r f i n ≡ unchanged c (Err RefutationsFull)
      unfolding refute
      refute_full n passed = grind (arith, nat_tests)

      pub scratch_full : (words : List ℕ) → check c r f i (length words) ≡ Ok tt → refute_scratch c r f i words ≡ words
      unfolding refute_scratch
      scratch_full words passed = grind (arith, nat_tests)

    module _ (room : length c.refutations < 64) where
      pub refute_judged : (n : ℕ) → check c r f i n ≡ Ok tt → (v : Result (Unit {0}) Refusal) → judge c r f i ≡ v → refute c r f i n ≡ held_by c f i v
      unfolding refute
      refute_judged n passed v is = grind (arith, nat_tests)

      pub scratch_judged : (words : List ℕ) → check c r f i (length words) ≡ Ok tt → refute_scratch c r f i words ≡ with_rows r c.formulas words
      unfolding refute_scratch
      scratch_judged words passed = grind (arith, nat_tests)

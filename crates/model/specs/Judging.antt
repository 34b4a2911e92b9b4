-- What truth and refute answer, and what they leave of the case and of the scratch words.
use Rattle.std.specs.Prelude.{ℕ, ◌+◌, ◌*◌, Bool, if◌then◌else◌, List, [], ◌∷◌, ◌++◌, length, Some, None, Ok, Err, Option, Result, nat_le, nat_lt}
use Rattle.refusals.specs.declared.Refusal.{Refusal}
use Rattle.refusals.specs.declared.Refusal.TheVariants.{NotEntered, RunTooLong, PastRun, ScratchTooShort, AssumptionFalse, FormulaTrue, RefutationsFull}
use Rattle.logic.specs.Run.{Run}
use Rattle.logic.specs.Decide as decide
use Rattle.formulas.specs.Forming.{numbered}
use Rattle.row_writer.specs.RowsAlong.{with_rows}
use Rattle.row_writer.specs.Searching.{first_failing}
use Rattle.model.specs.Case.{Case}
use Rattle.model.specs.Calls.{Outcome, unchanged}

-- the checks that truth and refute share, in their order: n is the number of scratch words
abbrev pub check : Case → Run → ℕ → ℕ → ℕ → Result (Unit {0}) Refusal
check c r f i n =
    if nat_le (length c.formulas) f then Err NotEntered
    else if nat_lt 256 (r.stem + r.loop) then Err RunTooLong
    else if nat_le (r.stem + r.loop) i then Err PastRun
    else if nat_lt n (4 * length c.formulas) then Err ScratchTooShort
    else Ok tt

-- what comes after the checks: where one of them refuses, the case stays as it is, and so do the scratch words, below
abbrev pub once_checked : {A : Type 0} → Case → Result (Unit {0}) Refusal → Outcome A → Outcome A
once_checked c (Ok done) rest = rest
once_checked c (Err e) rest = unchanged c (Err e)

-- the scratch words after the checks
abbrev pub words_once_checked : List ℕ → Result (Unit {0}) Refusal → List ℕ → List ℕ
words_once_checked words (Ok done) rest = rest
words_once_checked words (Err e) rest = words

-- whether the formula with a number is true at a position of a run
abbrev pub true_at : Case → Run → ℕ → ℕ → Bool
true_at c r f i = decide.truth r (numbered c.formulas f) i

-- the truth of a formula at a position of a run
unfoldable pub truth : Case → Run → ℕ → ℕ → ℕ → Outcome Bool
truth c r f i n = once_checked c (check c r f i n) (unchanged c (Ok (true_at c r f i)))

-- the scratch words then hold the rows of all formulas
unfoldable pub truth_scratch : Case → Run → ℕ → ℕ → List ℕ → List ℕ
truth_scratch c r f i words = words_once_checked words (check c r f i (length words)) (with_rows r c.formulas words)

-- a run is no refutation if an assumption is false somewhere, or else if the formula is true at the position
abbrev pub judged_by : Option (ℕ × ℕ) → Bool → Result (Unit {0}) Refusal
judged_by (Some x) b = Err (AssumptionFalse x.0 x.1)
judged_by None b = if b then Err FormulaTrue else Ok tt

-- whether a run refutes a formula at a position
abbrev pub judge : Case → Run → ℕ → ℕ → Result (Unit {0}) Refusal
judge c r f i = judged_by (first_failing (true_at c r) (r.stem + r.loop) 0 c.assumptions) (true_at c r f i)

-- the refutation is held if the run is one
abbrev pub held_by : Case → ℕ → ℕ → Result (Unit {0}) Refusal → Outcome ℕ
held_by c f i (Ok done) = record {
  answer = Ok (length c.refutations);
  after = record c { refutations = c.refutations ++ record { formula = f; position = i } ∷ [] };
}
held_by c f i (Err e) = unchanged c (Err e)

-- a case holds 64 refutations: a formula is judged if there is room for one more
abbrev pub with_room : Case → Run → ℕ → ℕ → Outcome ℕ
with_room c r f i =
    if nat_le 64 (length c.refutations) then unchanged c (Err RefutationsFull)
    else held_by c f i (judge c r f i)

-- the scratch words then: without room they stay as they are
abbrev pub words_with_room : Case → Run → List ℕ → List ℕ
words_with_room c r words =
    if nat_le 64 (length c.refutations) then words
    else with_rows r c.formulas words

-- a formula is refuted at a position of a run
unfoldable pub refute : Case → Run → ℕ → ℕ → ℕ → Outcome ℕ
refute c r f i n = once_checked c (check c r f i n) (with_room c r f i)

-- the scratch words then hold the rows of all formulas, unless there was no room for the refutation
unfoldable pub refute_scratch : Case → Run → ℕ → ℕ → List ℕ → List ℕ
refute_scratch c r f i words = words_once_checked words (check c r f i (length words)) (words_with_room c r words)

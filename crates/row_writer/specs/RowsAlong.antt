-- The rows of formulas along a run, and the words that hold them.
use Rattle.std.specs.Prelude.{ℕ, ◌+◌, ◌*◌, Bool, cond, ◌&&◌, List, [], ◌∷◌, ◌++◌, length, drop, nat_le, slice_index}
use Rattle.logic.specs.Formula.{Formula}
use Rattle.logic.specs.Run.{Run}
use Rattle.logic.specs.Decide.{truth}
use Rattle.rows.specs.Row.{bit, row_up_to}

-- the row of a formula: its truth at each position up to the loop's end, and false after that
unfoldable pub truth_row : Run → Formula → List ℕ
truth_row r A = row_up_to (r.stem + r.loop) (truth r A)

-- the rows of formulas, one after another
unfoldable pub rows_along : Run → List Formula → List ℕ
rows_along r [] = []
rows_along r (A ∷ As) = truth_row r A ++ rows_along r As

-- whether a run has room in rows, and the rows have room in this many words
abbrev pub rows_fit : Run → List Formula → ℕ → Bool
rows_fit r fs words = nat_le (r.stem + r.loop) 256 && nat_le (4 * length fs) words

-- the words once the rows are written to their front: what lies after stays
unfoldable pub with_rows : Run → List Formula → List ℕ → List ℕ
with_rows r fs words = rows_along r fs ++ drop (4 * length fs) words

-- and where there is no room, all stays
abbrev pub rows_after : Run → List Formula → List ℕ → List ℕ
rows_after r fs words = cond (rows_fit r fs (length words)) (with_rows r fs words) words

-- the row with a number, where words that are not there are 0
abbrev pub row_at : List ℕ → ℕ → List ℕ
row_at words n = slice_index words (4 * n) ∷ slice_index words (4 * n + 1) ∷ slice_index words (4 * n + 2) ∷ slice_index words (4 * n + 3) ∷ []

-- what it says of a position
unfoldable pub row_says : List ℕ → ℕ → ℕ → Bool
row_says words n i = bit (row_at words n) i

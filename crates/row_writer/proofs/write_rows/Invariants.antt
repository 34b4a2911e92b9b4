-- The rows of the formulas that the loop has passed are written, and what lies after them is as it was.
use Rattle.std.proofs.Common.{◌≡◌, take}
use Rattle.formulas.specs.Listed.{formulas_of}
use Rattle.row_writer.specs.RowsAlong.{with_rows}
use Rattle.row_writer.proofs.write_rows.Given as goal

abbrev pub invariant-loop-number : goal.invariant-loop-number
invariant-loop-number g l = l.words ≡ with_rows (g.R.RunSource.meaning l.source) (take l.number (formulas_of l.formulas)) l.initial.words

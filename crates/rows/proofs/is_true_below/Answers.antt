-- Nothing is missing below the position, and rows end at 256.
use Rattle.std.proofs.Common.{sym, ◌∙◌, arith, rules}
use Rattle.std.proofs.lemmas.Bool.{lt-leb}
use Rattle.rows.specs.Row.{bit}
use Rattle.rows.proofs.Rows.{bit_past, true_from_false}
use Rattle.rows.proofs.Steps.{below_row}
use Rattle.rows.proofs.is_true_below.Goals as goal

pub returns-then-positions-le-POSITIONS : goal.returns-then-positions-le-POSITIONS
returns-then-positions-le-POSITIONS c =
    below_row c.args.row c.mask.result c.minus.result c.args.positions c.end.result (omega arith) c.mask.ensures c.minus.ensures c.end.ensures

pub returns-else-positions-le-POSITIONS : goal.returns-else-positions-le-POSITIONS
returns-else-positions-le-POSITIONS c =
    lt-leb c.args.positions 256 (omega arith)
    ∙ sym (true_from_false (bit c.args.row) 0 c.args.positions 256 (omega arith) (omega arith) (bit_past c.args.row (search rules) 256 (omega arith)))

-- The row that is loaded says what the words say.
use Rattle.std.proofs.Common.{ap, ◌∙◌}
use Rattle.rows.specs.Row.{bit, true_from}
use Rattle.row_writer.specs.RowsAlong.{row_says}
use Rattle.row_writer.proofs.searching.is_never_false.Goals as goal

pub returns : goal.returns
unfolding row_says
returns c = c.is_true_below.ensures ∙ ap (λ row. true_from c.args.positions 0 (bit row)) c.load.ensures

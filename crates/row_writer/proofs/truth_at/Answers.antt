-- The row that is loaded says what the words say.
use Rattle.std.proofs.Common.{ap, ◌∙◌}
use Rattle.rows.specs.Row.{bit}
use Rattle.row_writer.proofs.RowsAlong.{row_at_says}
use Rattle.row_writer.proofs.truth_at.Goals as goal

pub returns : goal.returns
returns c = c.bit_at.ensures ∙ ap (λ row. bit row c.args.position) c.load.ensures ∙ row_at_says c.args.words.now c.args.formula c.args.position

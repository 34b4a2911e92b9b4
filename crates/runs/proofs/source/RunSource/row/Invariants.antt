-- The row has what the source says of the positions that the loop has passed.
use Rattle.std.proofs.Common.{◌≡◌}
use Rattle.rows.specs.Row.{row_up_to}
use Rattle.runs.specs.SourceSays.{source_says}
use Rattle.runs.proofs.source.RunSource.row.Given as goal

abbrev pub invariant-loop-position : goal.invariant-loop-position
invariant-loop-position g l = l.row ≡ row_up_to l.position (source_says (g.Self.RunSource.meaning l.self) l.atom)

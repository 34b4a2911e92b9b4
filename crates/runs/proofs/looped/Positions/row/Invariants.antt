-- The row has what is true at the positions that the loop has passed.
use Rattle.std.proofs.Common.{◌≡◌}
use Rattle.rows.specs.Row.{row_up_to}
use Rattle.runs.proofs.looped.Positions.row.Given as goal

abbrev pub invariant-loop-position : goal.invariant-loop-position
invariant-loop-position g l = l.row ≡ row_up_to l.position (g.Self.Positions.truths l.self l.atom)

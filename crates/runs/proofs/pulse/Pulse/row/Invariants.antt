-- What is filled is whole periods.
use Rattle.std.proofs.Common.{◌≡◌, ℕ, ◌-◌, ◌*◌, ◌<◌}
use Rattle.rows.specs.Row.{row_of}
use Rattle.runs.proofs.Doubling.{widths}
use Rattle.runs.proofs.pulse.Pulse.row.Given as goal

abbrev pub invariant-loop-filled : goal.invariant-loop-filled
invariant-loop-filled l = (0 < l.filled) × ((m : ℕ) × (l.filled ≡ m * l.self.period)) × (l.widths ≡ row_of (widths l.self.period l.self.width l.filled))

abbrev pub decreases-loop-filled : goal.decreases-loop-filled
decreases-loop-filled l = 256 - l.filled

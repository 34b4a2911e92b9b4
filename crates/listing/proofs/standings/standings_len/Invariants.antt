-- So far the lines of the formulas below the next are measured.
use Rattle.std.proofs.Common.{◌≡◌, ◌*◌, ◌≤◌, length}
use Rattle.cases.specs.Model.{sealed}
use Rattle.listing.specs.Listing.{standing_lines_to}
use Rattle.listing.specs.declared.text.TheConstants.{TEXT_MOST}
use Rattle.listing.proofs.standings.standings_len.Given as goal

abbrev pub invariant-loop-number : goal.invariant-loop-number
invariant-loop-number l = record { measured : l.len ≡ length (standing_lines_to (sealed l.case) l.number); within : l.len ≤ TEXT_MOST * l.number }

-- So far the lines of the formulas below the next are copied.
use Rattle.std.proofs.Common.{◌≡◌, length, take}
use Rattle.cases.specs.Model.{sealed}
use Rattle.listing.specs.Listing.{standing_lines_to}
use Rattle.listing.proofs.standings.copy_standings.Given as goal

abbrev pub invariant-loop-number : goal.invariant-loop-number
invariant-loop-number l = record {
  size : length l.buffer ≡ length l.initial.buffer;
  end : l.at ≡ length (standing_lines_to (sealed l.case) l.number);
  copied : take l.at l.buffer ≡ standing_lines_to (sealed l.case) l.number;
}

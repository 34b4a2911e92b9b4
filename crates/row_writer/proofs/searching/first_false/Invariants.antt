-- Nothing is found as long as the search goes on: what is left of it gives what all of it gives.
use Rattle.std.proofs.Common.{◌≡◌, ◌-◌, drop, None}
use Rattle.row_writer.specs.RowsAlong.{row_says}
use Rattle.row_writer.specs.Searching.{first_false_from, first_failing}
use Rattle.row_writer.proofs.searching.first_false.Given as goal

abbrev pub invariant-loop-position : goal.invariant-loop-position
invariant-loop-position l =
    (l.found ≡ None)
    × (first_false_from l.positions 0 (row_says l.words l.formula)
    ≡ first_false_from (l.positions - l.position) l.position (row_says l.words l.formula))

abbrev pub invariant-search : goal.invariant-search
invariant-search l =
    (l.found ≡ None)
    × (first_failing (row_says l.words) l.positions 0 l.formulas
    ≡ first_failing (row_says l.words) l.positions l.place (drop l.place l.formulas))

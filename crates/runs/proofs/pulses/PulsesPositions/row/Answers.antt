-- The pulse of the atom makes its row, and without one the atom is never true.
use Rattle.std.proofs.Common.{sym, ap, ap₂, ◌∙◌, ◌&&◌, ltb}
use Rattle.std.proofs.Math.Bool.{and-false}
use Rattle.runs.specs.Pulses.{on}
use Rattle.rows.proofs.Rows.{said, row_of_same, empty_row}
use Rattle.runs.proofs.Finding.{found_turns, pulsed_one, pulsed_none}
use Rattle.runs.proofs.pulses.PulsesPositions.row.Goals as goal

pub row-requires : goal.row-requires
row-requires c = found_turns c.requires.fits.0 _ c.requires.fits.1 _ c.in-Some.pulse (rw c.in-Some.is at c.of_atom.ensures)

pub returns-in-Some : goal.returns-in-Some
returns-in-Some c =
    c.and.ensures
    ∙ row_of_same _ _
    (λ i h. ap₂ (λ x y. x && y) (said c.mask.result (λ i. ltb i c.args.end) c.mask.ensures i h)
    (said c.row.result (on c.in-Some.pulse) c.row.ensures i h
    ∙ pulsed_one c.requires.fits.0 _ c.requires.fits.1 _ i c.in-Some.pulse (rw c.in-Some.is at c.of_atom.ensures)))

pub returns-in-None : goal.returns-in-None
returns-in-None c =
    empty_row _
    (λ i h. ap (λ b. ltb i c.args.end && b) (sym (pulsed_none c.requires.fits.0 _ c.requires.fits.1 c.args.atom i (rw c.in-None.is at c.of_atom.ensures)))
    ∙ and-false (ltb i c.args.end))

-- `is_true` meets its contract: the pulse of the atom decides, and without one the atom is never true.
use Rattle.std.proofs.Common.{◌<◌, rules, tests}
use Rattle.runs.proofs.Finding.{found_turns, pulsed_found}
use Rattle.runs.proofs.pulses.PulsesPositions.is_true.Goals as goal

pub is_some_and-requires : goal.is_some_and-requires
is_some_and-requires c = λ e is.
    let turns : 0 < e.period = found_turns c.requires.fits.0 _ c.requires.fits.1 _ e (rw is at c.of_atom.ensures) in
    search rules

pub returns : goal.returns
returns c = pulsed_found c.requires.fits.0 _ c.requires.fits.1 _ _ _ _ c.of_atom.ensures c.is_some_and.ensures (λ e shown. search (rules, tests))

-- `of_atom` meets its contract: the search is by the atoms, which rise.
use Rattle.std.proofs.Common.{rules, [], get_or}
use Rattle.std.specs.Option.{option_map}
use Rattle.std.specs.Result.{result_ok}
use Rattle.std.proofs.lemmas.List.Sorted.{answers_always}
use Rattle.runs.specs.Pulses.{pulse_of, pulses_of, FindsPulse}
use Rattle.runs.proofs.Finding.{atom_in, searched}
use Rattle.runs.proofs.Pulsing.{rise_in_order}
use Rattle.runs.proofs.pulses.Pulses.of_atom.Goals as goal
use Rattle.runs.proofs.pulses.Pulses.of_atom.Goals.{After-binary_search_by_key}

-- what the search found
ended : (c : After-binary_search_by_key) → FindsPulse (pulses_of c.args.self.now.0.now) c.args.atom (option_map (λ k. pulse_of (get_or c.args.self.now.0.now k [])) (result_ok c.binary_search_by_key.result))
ended c =
    let fits = c.requires in
    let facts = c.binary_search_by_key.ensures in
    rw (← c.from.ensures) (searched c.args.self.now.0.now (rise_in_order fits.0 _ fits.1) _ _ facts.bound (facts.position atom_in (answers_always _ _ _ (λ f a r g called. search rules))))

pub returns-in_err-place : goal.returns-in_err-place
returns-in_err-place c = rw c.from_residual.ensures (rw (← c.in_err-place.ensures.value) at (ended (goal.at.returns-in_err-place c).After-binary_search_by_key))

pub returns : goal.returns
returns c = rw c.from-2.ensures (rw (← c.in_ok-place.ensures.value) at (ended (goal.at.returns c).After-binary_search_by_key))

-- The theorem is `turns`.
use Rattle.logic.proofs.Periodic.{turns}
use Rattle.logic.proofs.truth_repeats.Goals as goal

pub returns : goal.returns
returns c = turns

-- The theorem is `meanings`.
use Rattle.logic.proofs.Meanings.{meanings}
use Rattle.logic.proofs.abbreviations_mean.Goals as goal

pub returns : goal.returns
returns c = meanings

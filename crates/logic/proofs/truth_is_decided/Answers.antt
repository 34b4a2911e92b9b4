-- The theorem is `decides`.
use Rattle.logic.proofs.Decided.{decides}
use Rattle.logic.proofs.truth_is_decided.Goals as goal

pub returns : goal.returns
returns c = decides

-- Word by word.
use Rattle.std.proofs.Common.{rules}
use Rattle.tautologies.proofs.evaluating.implied.Goals as goal

pub returns : goal.returns
returns c = λ w h. search rules

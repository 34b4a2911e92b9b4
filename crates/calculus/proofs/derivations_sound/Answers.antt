-- The theorem is `derivations_sound` of Sound.
use Rattle.calculus.proofs.derivations_sound.Goals as goal
use Rattle.calculus.proofs.Sound.{derivations_sound}

pub returns : goal.returns
returns c = derivations_sound

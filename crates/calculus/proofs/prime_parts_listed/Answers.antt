-- The theorem is `prime_parts_listed` of Parts.
use Rattle.calculus.proofs.prime_parts_listed.Goals as goal
use Rattle.calculus.proofs.Parts.{prime_parts_listed}

pub returns : goal.returns
returns c = prime_parts_listed

-- The theorem is `rules_keep_law` of Lawful.
use Rattle.calculus.proofs.rules_keep_law.Goals as goal
use Rattle.calculus.proofs.Lawful.{rules_keep_law}

pub returns : goal.returns
returns c = rules_keep_law

-- The program's page gives the verdicts of the table, by computation.
use Rattle.std.proofs.Common.{refl}
use Rattle.std.specs.List.{AllByRecursion}
use Rattle.calculus.specs.Published.{published}
use Rattle.calculus.specs.Derived.{derived}
use Rattle.worked.specs.Verdicts.{IsGiven, verdicts, VerdictsGiven}
use Rattle.worked.proofs.Together.{◌also◌, all}

one_by_one : AllByRecursion IsGiven verdicts
unfolding published derived
one_by_one = refl also refl also refl also refl also refl also refl also refl also refl also refl also refl also refl also refl also refl also refl also refl also refl also refl also refl also refl also refl also refl also refl also refl also refl also refl also refl also refl also refl also refl also refl also refl also refl also refl also tt

pub verdicts_given : VerdictsGiven
verdicts_given = all IsGiven verdicts one_by_one

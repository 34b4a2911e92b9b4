-- The numbers of the table, by computation.
use Rattle.std.proofs.Common.{refl}
use Rattle.std.specs.List.{AllByRecursion}
use Rattle.worked.specs.Numbers.{IsNumbered, numbers, NumbersTold}
use Rattle.worked.proofs.Together.{◌also◌, all}

one_by_one : AllByRecursion IsNumbered numbers
one_by_one = refl also refl also refl also refl also refl also refl also refl also refl also refl also refl also refl also refl also refl also refl also refl also refl also refl also refl also refl also refl also refl also refl also refl also refl also refl also refl also tt

pub numbers_told : NumbersTold
numbers_told = all IsNumbered numbers one_by_one

-- The truths of the tables, by computation.
use Rattle.std.proofs.Common.{refl}
use Rattle.std.specs.List.{AllByRecursion}
use Rattle.runs.specs.Tables.{table_check, table_run}
use Rattle.runs.specs.Pulses.{pulse_check, pulse_run}
use Rattle.worked.specs.Truths.{IsTold, truths, IsToldAlong, truths_along, TruthsTold}
use Rattle.worked.proofs.Together.{◌also◌, all}

one_by_one : AllByRecursion IsTold truths
unfolding table_check table_run pulse_check pulse_run
one_by_one = refl also refl also refl also refl also refl also refl also refl also refl also refl also refl also refl also refl also refl also refl also refl also refl also refl also refl also refl also refl also refl also refl also refl also refl also refl also refl also refl also refl also refl also refl also tt

along_each : AllByRecursion IsToldAlong truths_along
unfolding table_check table_run pulse_check pulse_run
along_each = refl also refl also refl also refl also refl also refl also refl also refl also refl also refl also tt

pub truths_told : TruthsTold
truths_told = (all IsTold truths one_by_one, all IsToldAlong truths_along along_each)

-- The rows of the table hold, by computation.
use Rattle.std.proofs.Common.{refl}
use Rattle.std.specs.List.{AllByRecursion}
use Rattle.calculus.specs.Published.{published}
use Rattle.calculus.specs.Derived.{derived}
use Rattle.runs.specs.Tables.{table_check, table_run}
use Rattle.runs.specs.Pulses.{pulse_check, pulse_run}
use Rattle.formulas.specs.Forming.{form_answer, form_after}
use Rattle.row_writer.specs.Searching.{first_false_from, first_failing}
use Rattle.model.specs.Calls as calls
use Rattle.model.specs.Lines as lines
use Rattle.model.specs.Judging as judging
use Rattle.worked.specs.Asking.{RowHolds}
use Rattle.worked.proofs.Together.{◌also◌, all}
use Rattle.worked.specs.Table.{table, limits, WorkedExamples}

one_by_one : AllByRecursion RowHolds table
unfolding calls.form calls.assume form_answer form_after published derived lines.line judging.truth judging.refute table_check table_run pulse_check pulse_run first_false_from first_failing
one_by_one =
    (refl also tt)
    also (refl also tt)
    also (refl also tt)
    also (refl also tt)
    also (refl also tt)
    also (refl also refl also tt)
    also (refl also tt)
    also (refl also tt)
    also (refl also refl also tt)
    also (refl also refl also refl also refl also refl also tt)
    also tt

limits_hold : AllByRecursion RowHolds limits
unfolding calls.form calls.assume form_answer form_after published derived lines.line judging.truth judging.refute table_check table_run pulse_check pulse_run first_false_from first_failing
limits_hold =
    (refl also refl also tt)
    also (refl also refl also refl also refl also tt)
    also tt

pub worked_examples : WorkedExamples
worked_examples = (all RowHolds table one_by_one, all RowHolds limits limits_hold)

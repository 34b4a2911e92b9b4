-- The files of the table are listed so, by computation.
use Rattle.std.proofs.Common.{refl}
use Rattle.std.specs.Fmt.{digits}
use Rattle.std.specs.List.{AllByRecursion}
use Rattle.formulas.specs.Forming.{form_answer, form_after}
use Rattle.calculus.specs.Published.{published}
use Rattle.calculus.specs.Derived.{derived}
use Rattle.runs.specs.Tables.{table_check, table_run}
use Rattle.runs.specs.Pulses.{pulse_check, pulse_run}
use Rattle.row_writer.specs.Searching.{first_false_from, first_failing}
use Rattle.model.specs.Calls as calls
use Rattle.model.specs.Lines as lines
use Rattle.model.specs.Judging as judging
use Rattle.listing.specs.Listing.{line_of_counts, line_of_standing, standing_lines_to, line_of_ending}
use Rattle.checker.specs.Checked.{checked}
use Rattle.files.specs.Reading.{front, body}
use Rattle.records.specs.Records.{records}
use Rattle.worked.proofs.Together.{◌also◌, all}
use Rattle.worked.specs.Files.{IsListed, files, limit_files, sixteen_assumptions, seventeen_assumptions, twelve_prime_parts, thirteen_prime_parts, last_position, behind_the_last, one_position_too_many, one_line_too_many, one_formula_too_many, high_formula, high_line, FilesListed}

one_by_one : AllByRecursion IsListed files
unfolding calls.form calls.assume form_answer form_after published derived lines.line judging.truth judging.refute table_check table_run pulse_check pulse_run first_false_from first_failing line_of_counts line_of_standing standing_lines_to line_of_ending checked front body records digits
one_by_one = refl also refl also refl also refl also refl also refl also refl also refl also refl also refl also refl also refl also refl also refl also refl also refl also refl also refl also refl also refl also refl also refl also refl also refl also refl also refl also refl also refl also refl also refl also refl also refl also tt

sixteen_assumptions_listed : IsListed sixteen_assumptions
unfolding calls.form calls.assume form_answer form_after published derived lines.line judging.truth judging.refute table_check table_run pulse_check pulse_run first_false_from first_failing line_of_counts line_of_standing standing_lines_to line_of_ending checked front body records digits sixteen_assumptions
sixteen_assumptions_listed = refl

seventeen_assumptions_listed : IsListed seventeen_assumptions
unfolding calls.form calls.assume form_answer form_after published derived lines.line judging.truth judging.refute table_check table_run pulse_check pulse_run first_false_from first_failing line_of_counts line_of_standing standing_lines_to line_of_ending checked front body records digits seventeen_assumptions
seventeen_assumptions_listed = refl

twelve_prime_parts_listed : IsListed twelve_prime_parts
unfolding calls.form calls.assume form_answer form_after published derived lines.line judging.truth judging.refute table_check table_run pulse_check pulse_run first_false_from first_failing line_of_counts line_of_standing standing_lines_to line_of_ending checked front body records digits twelve_prime_parts
twelve_prime_parts_listed = refl

thirteen_prime_parts_listed : IsListed thirteen_prime_parts
unfolding calls.form calls.assume form_answer form_after published derived lines.line judging.truth judging.refute table_check table_run pulse_check pulse_run first_false_from first_failing line_of_counts line_of_standing standing_lines_to line_of_ending checked front body records digits thirteen_prime_parts
thirteen_prime_parts_listed = refl

last_position_listed : IsListed last_position
unfolding calls.form calls.assume form_answer form_after published derived lines.line judging.truth judging.refute table_check table_run pulse_check pulse_run first_false_from first_failing line_of_counts line_of_standing standing_lines_to line_of_ending checked front body records digits last_position
last_position_listed = refl

behind_the_last_listed : IsListed behind_the_last
unfolding calls.form calls.assume form_answer form_after published derived lines.line judging.truth judging.refute table_check table_run pulse_check pulse_run first_false_from first_failing line_of_counts line_of_standing standing_lines_to line_of_ending checked front body records digits behind_the_last
behind_the_last_listed = refl

one_position_too_many_listed : IsListed one_position_too_many
unfolding calls.form calls.assume form_answer form_after published derived lines.line judging.truth judging.refute table_check table_run pulse_check pulse_run first_false_from first_failing line_of_counts line_of_standing standing_lines_to line_of_ending checked front body records digits one_position_too_many
one_position_too_many_listed = refl

one_line_too_many_listed : IsListed one_line_too_many
unfolding calls.form calls.assume form_answer form_after published derived lines.line judging.truth judging.refute table_check table_run pulse_check pulse_run first_false_from first_failing line_of_counts line_of_standing standing_lines_to line_of_ending checked front body records digits one_line_too_many
one_line_too_many_listed = refl

one_formula_too_many_listed : IsListed one_formula_too_many
unfolding calls.form calls.assume form_answer form_after published derived lines.line judging.truth judging.refute table_check table_run pulse_check pulse_run first_false_from first_failing line_of_counts line_of_standing standing_lines_to line_of_ending checked front body records digits one_formula_too_many
one_formula_too_many_listed = refl

high_formula_listed : IsListed high_formula
unfolding calls.form calls.assume form_answer form_after published derived lines.line judging.truth judging.refute table_check table_run pulse_check pulse_run first_false_from first_failing line_of_counts line_of_standing standing_lines_to line_of_ending checked front body records digits high_formula
high_formula_listed = refl

high_line_listed : IsListed high_line
unfolding calls.form calls.assume form_answer form_after published derived lines.line judging.truth judging.refute table_check table_run pulse_check pulse_run first_false_from first_failing line_of_counts line_of_standing standing_lines_to line_of_ending checked front body records digits high_line
high_line_listed = refl

each_limit : AllByRecursion IsListed limit_files
each_limit = sixteen_assumptions_listed also seventeen_assumptions_listed also twelve_prime_parts_listed also thirteen_prime_parts_listed also last_position_listed also behind_the_last_listed also one_position_too_many_listed also one_line_too_many_listed also one_formula_too_many_listed also high_formula_listed also high_line_listed also tt

pub files_listed : FilesListed
files_listed = (all IsListed files one_by_one, all IsListed limit_files each_limit)

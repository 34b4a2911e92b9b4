-- `try_from` meets its contract: the words are those of the bytes after the stem and the loop.
use Rattle.std.proofs.Common.{◌≡◌, length, Ok, ap, ap₂, sym, ◌∙◌, arith}
use Rattle.std.proofs.lemmas.List.Edits.{length-between}
use Rattle.std.specs.Simd.{first_chunks}
use Rattle.std.proofs.lemmas.Slice.{between_to_end}
use Rattle.std.proofs.lemmas.Bool.Decides.{nat_tests}
use Rattle.runs.specs.Tables.{table_check, words_say}
use Rattle.runs.proofs.Checks.{looped_same, run_given, table_passed_run}
use Rattle.runs.proofs.table.TableRunTryFromRefSliceU8.try_from.Goals as goal

pub returns : goal.returns
unfolding table_check
returns c =
    let bytes = c.args.bytes.now in
    let rest = length-between bytes 4 (length bytes) (omega arith) in
    let passes : table_check bytes ≡ Ok tt = grind (arith, nat_tests) in
    run_given (table_check bytes) passes
    (looped_same (omega arith) (omega arith)
    (ap words_say (c.as_chunks.ensures.front ∙ ap₂ (first_chunks 4) (omega (arith, ap length (between_to_end bytes 4 (length bytes) (omega arith)))) (between_to_end bytes 4 (length bytes) (omega arith))))
    ∙ sym (table_passed_run bytes passes))

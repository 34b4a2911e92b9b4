-- `TableRun::new` meets its contract: bytes that give no table run give the silent run.
use Rattle.std.proofs.Common.{ap, ◌∙◌, sym}
use Rattle.runs.specs.Meanings.{table_meaning}
use Rattle.runs.specs.Tables.{table_check, table_run, words_say}
use Rattle.runs.proofs.Checks.{looped_same, run_or, table_failed_run}
use Rattle.runs.proofs.table.TableRun.new.Goals as goal

pub returns-clause-run : goal.returns-clause-run
returns-clause-run c =
    let bytes = c.args.bytes.now in
    let silent = c.of_one_position in
    ap table_meaning c.unwrap_or.ensures
    ∙ run_or (table_check bytes) (table_run bytes) table_meaning c.try_from.result silent.result c.try_from.ensures
    (λ e failed. looped_same silent.ensures.stem silent.ensures.loops (ap (λ words. words_say words.0.now) silent.ensures.positions) ∙ sym (table_failed_run bytes e failed))

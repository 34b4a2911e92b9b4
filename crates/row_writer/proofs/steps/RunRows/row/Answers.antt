-- Each kind of entry has its row by the rows of its parts.
use Rattle.std.proofs.Common.{sym, refl, ap, ◌∙◌}
use Rattle.rows.proofs.Rows.{empty_row}
use Rattle.row_writer.specs.Steps.{entry_row}
use Rattle.row_writer.proofs.steps.RunRows.row.Goals as goal

pub returns-in-False : goal.returns-in-False
returns-in-False g c = empty_row _ (λ i h. refl) ∙ ap (entry_row (g.R.RunSource.meaning c.args.self.now.source.now) c.args.words.now) (sym c.in-False.is)

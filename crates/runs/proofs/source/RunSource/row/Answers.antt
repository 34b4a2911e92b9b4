-- The row grows by one position at a time.
use Rattle.std.proofs.Common.{◌&&◌, ap, ◌∙◌, arith}
use Rattle.std.proofs.lemmas.Bool.{lt-ltb}
use Rattle.rows.proofs.Rows.{empty_row, row_of_same}
use Rattle.runs.specs.SourceSays.{source_says}
use Rattle.runs.proofs.Growing.{none_yet, one_more}
use Rattle.runs.proofs.source.RunSource.row.Goals as goal

pub loop-position-init : goal.loop-position-init
loop-position-init g c = empty_row _ (none_yet (source_says (g.Self.RunSource.meaning c.args.self.now) c.args.atom))

pub loop-position-preserved : goal.loop-position-preserved
loop-position-preserved g c =
    one_more (source_says (g.Self.RunSource.meaning c.args.self.now) c.args.atom) c.loop-position.position c.loop-position.row _ c.says.result c.loop-position.invariant c.says.ensures c.put-more.ensures

pub returns : goal.returns
returns g c =
    c.loop-position.invariant
    ∙ row_of_same _ _ (λ j h. ap (λ b. b && source_says (g.Self.RunSource.meaning c.args.self.now) c.args.atom j) (lt-ltb j c.loop-position.position (omega arith)))

-- What the row says, or the one position more.
use Rattle.std.proofs.Common.{◌&&◌, ◌||◌, eqb, ap, ◌∙◌}
use Rattle.rows.specs.Row.{bit}
use Rattle.rows.proofs.Rows.{said, row_of_same}
use Rattle.rows.proofs.put.Goals as goal

pub returns : goal.returns
returns c =
    c.or.ensures ∙ row_of_same _ _
    (λ j h. ap (λ x. bit c.args.row j || x) (said c.only_at.result (λ j. c.args.truth && eqb j c.args.position) c.only_at.ensures j h))

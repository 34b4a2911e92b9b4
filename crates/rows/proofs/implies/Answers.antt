-- Up to the loop's end, and not where `a` is true and `b` is not.
use Rattle.std.proofs.Common.{◌+◌}
use Rattle.rows.proofs.Steps.{implies_row}
use Rattle.rows.proofs.implies.Goals as goal

pub returns : goal.returns
returns c =
    let l = c.args.lasso in
    implies_row c.args.a c.args.b l.all c.minus.result c.minus-2.result (l.stem + l.loop_length) l.whole c.minus.ensures c.minus-2.ensures

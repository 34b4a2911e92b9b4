-- The last word that is not 0 has the last position.
use Rattle.std.proofs.Common.{◌-◌, arith}
use Rattle.rows.proofs.Rows.{ends_in, ends_at_start}
use Rattle.rows.proofs.words.end.Goals as goal

pub returns-then-row-index-ne0 : goal.returns-then-row-index-ne0
returns-then-row-index-ne0 c =
    ends_in c.args.row (c.loop-index.index - 1) (omega arith) (omega arith) (omega arith) (λ j h. c.loop-index.invariant j (omega arith))

pub returns : goal.returns
returns c = ends_at_start c.args.row (λ j. c.loop-index.invariant j (omega arith))

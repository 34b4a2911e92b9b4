-- Word by word, the ones that are left.
use Rattle.std.proofs.Common.{◌-◌, ◌*◌, rules}
use Rattle.rows.specs.Row.{low_ones}
use Rattle.rows.proofs.Rows.{made_row, says_ones}
use Rattle.rows.proofs.words.mask.Goals as goal

pub returns : goal.returns
returns c =
    made_row c.from_fn.result (λ k. low_ones (c.args.n - 64 * k)) c.from_fn.ensures.items.long (λ k h. search rules) (λ k h. says_ones k c.args.n)

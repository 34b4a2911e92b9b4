-- One bit is set in its word, or none where there is nothing to place or no place for it.
use Rattle.std.proofs.Common.{◌/◌, ◌%◌, ◌*◌, ◌^◌, cond, ◌&&◌, eqb, rules}
use Rattle.rows.proofs.Rows.{made_row, says_only_at}
use Rattle.rows.proofs.words.only_at.Goals as goal

pub returns : goal.returns
returns c =
    made_row c.from_fn.result (λ k. cond (c.args.truth && eqb k (c.args.position / 64)) ((1 * 2 ^ (c.args.position % 64)) % 2 ^ 64) 0)
    c.from_fn.ensures.items.long (λ k h. search rules) (λ k h. says_only_at c.args.truth c.args.position k)

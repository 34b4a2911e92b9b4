-- Each word takes its top bit from the word above.
use Rattle.std.proofs.Common.{◌+◌, ◌*◌, ◌/◌, ◌%◌, ◌^◌, get_or, rules}
use lib.Bits.{bit_or}
use Rattle.rows.proofs.Rows.{made_row, says_earlier}
use Rattle.rows.proofs.words.earlier.Goals as goal

pub returns : goal.returns
returns c =
    made_row c.from_fn.result (λ k. bit_or (get_or c.args.a k 0 / 2) ((get_or c.args.a (k + 1) 0 * 2 ^ 63) % 2 ^ 64)) c.from_fn.ensures.items.long
    (λ k h. search rules) (λ k h. says_earlier c.args.a k (search rules))

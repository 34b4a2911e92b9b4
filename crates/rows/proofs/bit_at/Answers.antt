-- The bit is in its word, and no word stands after the last.
use Rattle.std.proofs.Common.{◌≡◌, ◌/◌, ◌%◌, ◌^◌, eqb, get_or, ap, ◌∙◌, rules}
use lib.Bits.{and_mask}
use Rattle.rows.specs.Row.{bit, testBit}
use Rattle.rows.proofs.bit_at.Goals as goal

-- `x & 1` is `x % 2`
pub returns : goal.returns
unfolding bit testBit
returns c =
    let word : c.unwrap_or-word.result ≡ get_or c.args.row (c.args.position / 64) 0 = search rules in
    ap (λ w. eqb w 1) (and_mask (c.unwrap_or-word.result / 2 ^ (c.args.position % 64)) 1) ∙ ap (λ w. eqb (w / 2 ^ (c.args.position % 64) % 2) 1) word

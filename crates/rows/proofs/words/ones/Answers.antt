-- A word of ones is one less than a power of two.
use Rattle.std.proofs.Common.{◌-◌, sym, ap, ◌∙◌, arith}
use Rattle.std.proofs.lemmas.Nat.{one_shl}
use Rattle.std.proofs.lemmas.Bool.{lt-ltb}
use Rattle.rows.specs.Row.{testBit, low_ones}
use Rattle.rows.proofs.Bits.{is_pack, bit_ones}
use Rattle.rows.proofs.words.ones.Goals as goal

pub returns-then-n-lt-BITS : goal.returns-then-n-lt-BITS
unfolding low_ones
returns-then-n-lt-BITS c =
    is_pack 64 _ _ (omega arith)
    (λ i h. ap (λ x. testBit (x - 1) i) (one_shl c.args.n 64 (omega arith)) ∙ bit_ones c.args.n i)

pub returns-else-n-lt-BITS : goal.returns-else-n-lt-BITS
unfolding low_ones
returns-else-n-lt-BITS c =
    is_pack 64 _ _ (omega arith) (λ i h. bit_ones 64 i ∙ lt-ltb i 64 h ∙ sym (lt-ltb i c.args.n (omega arith)))

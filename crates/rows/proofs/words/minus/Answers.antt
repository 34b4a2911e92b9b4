-- Word by word, what is in the first and not in the second.
use Rattle.std.proofs.Common.{rules}
use Rattle.rows.proofs.Rows.{combined, bitwise_minus}
use Rattle.rows.proofs.words.minus.Goals as goal

pub returns : goal.returns
returns c = combined bitwise_minus c.args.a c.args.b c.from_fn.result (λ k h. search rules) (λ k h. search rules) c.from_fn.ensures.items.long (λ k h. search rules)

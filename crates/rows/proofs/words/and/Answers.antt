-- Word by word, what is common to both.
use Rattle.std.proofs.Common.{rules}
use Rattle.rows.proofs.Rows.{combined, bitwise_and}
use Rattle.rows.proofs.words.and.Goals as goal

pub returns : goal.returns
returns c = combined bitwise_and c.args.a c.args.b c.from_fn.result (λ k h. search rules) (λ k h. search rules) c.from_fn.ensures.items.long (λ k h. search rules)

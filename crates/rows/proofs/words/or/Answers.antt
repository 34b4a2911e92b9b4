-- Word by word, what is in either.
use Rattle.std.proofs.Common.{rules}
use Rattle.rows.proofs.Rows.{combined, bitwise_or}
use Rattle.rows.proofs.words.or.Goals as goal

pub returns : goal.returns
returns c = combined bitwise_or c.args.a c.args.b c.from_fn.result (λ k h. search rules) (λ k h. search rules) c.from_fn.ensures.items.long (λ k h. search rules)

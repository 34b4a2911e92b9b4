-- Each word comes of two words below it.
use Rattle.std.proofs.Common.{ℕ, ◌-◌, ◌/◌, ◌%◌, ◌&&◌, leb, subst, arith, rules}
use Rattle.rows.specs.Row.{bit, word_moved}
use Rattle.rows.proofs.Rows.{Says, made_row}
use Rattle.rows.proofs.Moving.{says_later}
use Rattle.rows.proofs.words.later.Goals as goal

pub returns : goal.returns
returns c =
    let words : ℕ = c.args.places / 64 in
    let bits : ℕ = c.args.places % 64 in
    made_row c.from_fn.result (word_moved c.args.a words bits) c.from_fn.ensures.items.long
    (λ k h. search (rules, c.from_fn.ensures.items.at))
    (λ k h. subst (λ n. Says (word_moved c.args.a words bits k) k (λ i. leb n i && bit c.args.a (i - n))) (omega arith) (says_later c.args.a (λ j. search rules) words bits k (omega arith)))

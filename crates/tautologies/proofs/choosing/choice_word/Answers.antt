-- A mask, or all or nothing.
use Rattle.std.proofs.Common.{◌^◌, ◌-◌, ◌/◌, ◌%◌}
use Rattle.std.proofs.lemmas.Bool.{eq-eqb, ne_eqb}
use Rattle.rows.specs.Row.{testBit}
use Rattle.tautologies.proofs.Choices.{low_word, all_word, none_word}
use Rattle.tautologies.proofs.choosing.choice_word.Goals as goal

pub returns-then-part-lt6 : goal.returns-then-part-lt6
returns-then-part-lt6 c = low_word c.args.word c.args.part c.if-part-lt6.true

pub returns-then-word-part-eq1 : goal.returns-then-word-part-eq1
unfolding testBit
returns-then-word-part-eq1 c =
    all_word c.args.word c.args.part c.if-part-lt6.false (eq-eqb (c.args.word / 2 ^ (c.args.part - 6) % 2) 1 c.if-word-part-eq1.true)

pub returns-else-word-part-eq1 : goal.returns-else-word-part-eq1
unfolding testBit
returns-else-word-part-eq1 c =
    none_word c.args.word c.args.part c.if-part-lt6.false (ne_eqb (c.args.word / 2 ^ (c.args.part - 6) % 2) 1 c.if-word-part-eq1.false)

-- One row more at each turn.
use Rattle.std.proofs.Common.{◌≡◌, ℕ, length, set, ◌+◌, ◌<◌, ◌∙◌, subst, sym, inl, inr, arith, length-set}
use Rattle.std.proofs.lemmas.Bool.{cases_eq}
use Rattle.tautologies.specs.Planning.{word_at}
use Rattle.tautologies.specs.Choosing.{choice_word_of}
use Rattle.tautologies.proofs.Filling.{word_same, word_other}
use Rattle.tautologies.proofs.evaluating.choose.Goals as goal

pub loop-part-preserved : goal.loop-part-preserved
loop-part-preserved g c =
    let rows = c.loop-part.rows in
    let n : ℕ = c.loop-part.part in
    let row = c.choices.result in
    let room : n < length rows = omega (arith, c.loop-part.invariant.long, c.requires.room, c.loop-part-test.true) in
    record {
      long = length-set rows n row ∙ c.loop-part.invariant.long;
      parts = λ k w before h. elim (cases_eq k n) [
        | inl e ↦ subst (λ (m : ℕ). word_at (set rows n row) m w ≡ choice_word_of (c.args.first + w) m) (sym e) (word_same rows n w row room ∙ c.choices.ensures w h)
        | inr ne ↦ word_other rows n k w row ne ∙ c.loop-part.invariant.parts k w (omega (arith, ne)) h
      ];
      others = λ p w behind. word_other rows n p w row (λ e. omega arith) ∙ c.loop-part.invariant.others p w (omega arith);
    }

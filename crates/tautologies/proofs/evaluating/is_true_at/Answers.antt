-- Pass by pass, a row that is not full refutes, and full rows leave no choice.
use Rattle.std.proofs.Common.{◌≡◌, ℕ, ◌+◌, ◌*◌, ◌<◌, ◌∙◌, inl, inr, arith}
use Rattle.std.proofs.lemmas.Bool.{cases_lt, both_ways}
use Rattle.tautologies.specs.Planning.{word_at}
use Rattle.tautologies.specs.Choosing.{choice_word_of}
use Rattle.tautologies.proofs.Passing.{all_true, one_false}
use Rattle.tautologies.proofs.evaluating.is_true_at.Goals as goal
use Rattle.tautologies.proofs.evaluating.is_true_at.Goals.{After-is_full}
use Rattle.tautologies.proofs.evaluating.is_true_at.Given.{Over}

-- the rows at the end of a pass
module _ (g : Over) (c : After-is_full g) where
  parts : (k w : ℕ) → k < 12 → w < 16 → word_at c.follow.new.rows k w ≡ choice_word_of (16 * c.loop-pass.pass + w) k
  parts k w h hw = c.follow.ensures.others k w (omega arith) ∙ c.choose.ensures.parts k w h hw

  none : (w : ℕ) → word_at c.follow.new.rows 12 w ≡ 0
  none w = c.follow.ensures.others 12 w (omega arith) ∙ c.choose.ensures.others 12 w (omega arith) ∙ c.loop-pass.invariant.none w

pub returns-then-not-is_full : goal.returns-then-not-is_full
returns-then-not-is_full g c =
    let d = (goal.at.returns-then-not-is_full g c).After-is_full in
    one_false c.args.steps.now 16 (16 * c.loop-pass.pass) c.follow.new.rows c.requires.lower (parts g d) (none g d) c.follow.ensures.made c.args.place c.requires.there
    (λ full. both_ways c.is_full.result c.if-not-is_full.true (c.is_full.ensures.1 full))

pub loop-pass-preserved : goal.loop-pass-preserved
loop-pass-preserved g c =
    let d = (goal.at.loop-pass-preserved g c).After-is_full in
    let pass : ℕ = c.loop-pass.pass in
    record {
      none = none g d;
      so_far = λ n before. elim (cases_lt n (1024 * pass)) [
        | inl earlier ↦ c.loop-pass.invariant.so_far n earlier
        | inr here ↦
            all_true c.args.steps.now 16 (16 * pass) c.follow.new.rows c.requires.lower (parts g d) (none g d) c.follow.ensures.made c.args.place c.requires.there
            (c.is_full.ensures.0 c.if-not-is_full.false) n (omega arith) (omega arith)
      ];
    }

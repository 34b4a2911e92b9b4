-- The rows of the parts that the loop has passed are written, and no others.
use Rattle.std.proofs.Common.{length, ◌≡◌, ℕ, ◌+◌, ◌<◌, ◌≤◌}
use Rattle.tautologies.specs.Planning.{word_at}
use Rattle.tautologies.specs.Choosing.{choice_word_of}
use Rattle.tautologies.proofs.evaluating.choose.Given as goal

abbrev pub invariant-loop-part : goal.invariant-loop-part
invariant-loop-part g l = record {
  long : length l.rows ≡ g.row.ROWS;
  parts : (k w : ℕ) → k < l.part → w < 16 → word_at l.rows k w ≡ choice_word_of (l.first + w) k;
  others : (p w : ℕ) → l.part ≤ p → word_at l.rows p w ≡ word_at l.initial.rows p w;
}

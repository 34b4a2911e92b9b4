-- The rows of the steps that the loop has passed are made, and those of parts and of false stay.
use Rattle.std.proofs.Common.{length, ◌≡◌, ℕ, ◌<◌, Some}
use Rattle.std.specs.List.{slice_get}
use Rattle.tautologies.specs.declared.step.Step.{Step}
use Rattle.tautologies.specs.Planning.{Made, word_at}
use Rattle.tautologies.proofs.evaluating.follow.Given as goal

abbrev pub invariant-loop-number : goal.invariant-loop-number
invariant-loop-number g l = record {
  long : length l.rows ≡ g.row.ROWS;
  made : (j : ℕ) (s : Step) → j < l.number → slice_get l.steps j ≡ Some s → Made l.rows 16 j s;
  others : (p w : ℕ) → p < 13 → word_at l.rows p w ≡ word_at l.initial.rows p w;
}

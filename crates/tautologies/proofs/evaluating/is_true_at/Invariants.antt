-- Under the choices of the passes that the loop has passed, the formula is true; and the row of false is empty.
use Rattle.std.proofs.Common.{◌≡◌, ℕ, ◌*◌, ◌<◌, Bool, true}
use Rattle.tautologies.specs.Planning.{Values, word_at}
use Rattle.tautologies.proofs.evaluating.is_true_at.Given as goal

abbrev pub invariant-loop-pass : goal.invariant-loop-pass
invariant-loop-pass g l = record {
  none : (w : ℕ) → word_at l.rows 12 w ≡ 0;
  so_far : (c : ℕ) → c < 1024 * l.pass → (f : ℕ → Bool) × Values l.steps c f × (f l.place ≡ true);
}

-- Each word that was looked at, from the last down, is 0.
use Rattle.std.proofs.Common.{◌≡◌, ℕ, ◌≤◌, get_or}
use Rattle.rows.proofs.words.end.Given as goal

abbrev pub invariant-loop-index : goal.invariant-loop-index
invariant-loop-index l = (j : ℕ) → l.index ≤ j → get_or l.row j 0 ≡ 0

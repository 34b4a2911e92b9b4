-- The places of the parts that the loop has passed are written, and no others.
use Rattle.std.proofs.Common.{◌≡◌, ℕ, ◌<◌, ◌≤◌, ◌≢◌, length, Some}
use Rattle.std.specs.List.{slice_get}
use Rattle.tautologies.specs.Planning.{place_of}
use Rattle.tautologies.proofs.planning.part_places.Given as goal

abbrev pub invariant-loop-place : goal.invariant-loop-place
invariant-loop-place l = record {
  long : length l.places ≡ 1024;
  parts : (k n : ℕ) → k < l.place → slice_get l.parts k ≡ Some n → place_of l.places n ≡ k;
  others : (n : ℕ) → ((k : ℕ) → k < l.place → slice_get l.parts k ≢ Some n) → place_of l.places n ≡ 12;
  small : (n : ℕ) → place_of l.places n ≤ 12;
}

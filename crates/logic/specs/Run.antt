-- Looped runs.
use Rattle.std.specs.Prelude.{◌≡◌, ℕ, ◌+◌, ◌<◌, ◌≤◌, Bool}

-- says a i is the truth of atom a at position i; after the stem, positions that lie one loop apart agree on every atom
pub record Run : Type 0 where
  pub stem : ℕ
  pub loop : ℕ
  pub says : ℕ → ℕ → Bool
  pub turns : 0 < loop
  pub repeats : (a i : ℕ) → stem ≤ i → says a (i + loop) ≡ says a i

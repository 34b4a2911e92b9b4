-- Which atoms a supply makes true.
use Rattle.std.specs.Prelude.{ℕ, Bool, ◌&&◌, ◌==◌, nat_le}

-- atom 0, from a first position on
abbrev pub on_from : ℕ → ℕ → ℕ → Bool
on_from first a i = a == 0 && nat_le first i

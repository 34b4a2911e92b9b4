-- Formulas of linear temporal logic, as trees.
use Rattle.std.specs.Prelude.{ℕ}

-- false, an atom by its number, A → B, ○A (A at the next position), □A (A from here on)
pub data Formula : Type 0 where
  falsum : Formula
  atom : ℕ → Formula
  implies : Formula → Formula → Formula
  next : Formula → Formula
  always : Formula → Formula

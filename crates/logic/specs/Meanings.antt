-- What an implication and the abbreviations mean.
use Rattle.std.specs.Prelude.{ℕ, ◌≤◌, ◌⊎◌, ◌↔◌}
use Rattle.logic.specs.Formula.{Formula, implies}
use Rattle.logic.specs.Abbreviations.{not, or, and, iff, eventually}
use Rattle.logic.specs.Run.{Run}
use Rattle.logic.specs.Truth.{Holds}

-- at each position: an implication by what holds, and then not, or, and, exactly when, and at some position from here on
pub record Meanings (r : Run) (A B : Formula) (i : ℕ) : Type 0 where
  pub implies_means : Holds r (implies A B) i ↔ ((Holds r A i → ⊥) ⊎ Holds r B i)
  pub not_means : Holds r (not A) i ↔ (Holds r A i → ⊥)
  pub or_means : Holds r (or A B) i ↔ (Holds r A i ⊎ Holds r B i)
  pub and_means : Holds r (and A B) i ↔ (Holds r A i × Holds r B i)
  pub iff_means : Holds r (iff A B) i ↔ (Holds r A i ↔ Holds r B i)
  pub eventually_means : Holds r (eventually A) i ↔ ((j : ℕ) × (i ≤ j) × Holds r A j)

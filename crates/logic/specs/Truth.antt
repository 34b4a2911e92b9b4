-- What holds at a position of a run.
use Rattle.std.specs.Prelude.{◌≡◌, ℕ, ◌+◌, ◌≤◌, true}
use Rattle.logic.specs.Formula.{Formula, falsum, atom, implies, next, always}
use Rattle.logic.specs.Run.{Run}

abbrev pub Holds : Run → Formula → ℕ → Type 0
Holds r falsum i = ⊥
Holds r (atom a) i = r.says a i ≡ true
Holds r (implies A B) i = Holds r A i → Holds r B i
Holds r (next A) i = Holds r A (i + 1)
Holds r (always A) i = (j : ℕ) → i ≤ j → Holds r A j

-- at every position
abbrev pub Throughout : Run → Formula → Type 0
Throughout r A = (i : ℕ) → Holds r A i

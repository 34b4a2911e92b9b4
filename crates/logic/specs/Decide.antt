-- Whether a formula holds at a position, as a computed answer.
use Rattle.std.specs.Prelude.{ℕ, zero, suc, ◌+◌, ◌-◌, Bool, true, false, not, ◌&&◌, ◌||◌}
use Rattle.logic.specs.Formula.{Formula, falsum, atom, implies, next, always}
use Rattle.logic.specs.Run.{Run}

-- p at the n positions from i on
abbrev pub all_from : ℕ → ℕ → (ℕ → Bool) → Bool
all_from zero i p = true
all_from (suc n) i p = p i && all_from n (i + 1) p

-- `always` looks from i to the end of the first whole loop, which ends below max i stem + loop
abbrev pub truth : Run → Formula → ℕ → Bool
truth r falsum i = false
truth r (atom a) i = r.says a i
truth r (implies A B) i = not (truth r A i) || truth r B i
truth r (next A) i = truth r A (i + 1)
truth r (always A) i = all_from ((r.stem - i) + r.loop) i (truth r A)

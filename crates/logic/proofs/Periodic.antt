-- What holds repeats with the loop.
use Rattle.std.proofs.Common.{◌≡◌, ℕ, zero, suc, ◌+◌, ◌*◌, ◌≤◌, ◌↔◌, sym, ◌∙◌, add-zero, suc-mul, zero-mul, arith}
use mathlib.Core.Logic.Iff
use Rattle.logic.specs.Formula.{Formula, falsum, atom, implies, next, always}
use Rattle.logic.specs.Run.{Run}
use Rattle.logic.specs.Truth.{Holds}

pub turn : (r : Run) (A : Formula) (i : ℕ) → r.stem ≤ i → Holds r A (i + r.loop) ↔ Holds r A i
turn r falsum i s = Iff.rfl
turn r (atom a) i s = (λ h. sym (r.repeats a i s) ∙ h, λ h. r.repeats a i s ∙ h)
turn r (implies A B) i s = (λ f a. (turn r B i s).0 (f ((turn r A i s).1 a)), λ f a. (turn r B i s).1 (f ((turn r A i s).0 a)))
turn r (next A) i s = let e : (i + r.loop) + 1 ≡ (i + 1) + r.loop = omega arith in rw e (turn r A (i + 1) (omega arith))
turn r (always A) i s = (λ h j le. (turn r A j (omega arith)).0 (h (j + r.loop) (omega arith)), λ h j le. h j (omega arith))

pub turns : (r : Run) (A : Formula) (k i : ℕ) → r.stem ≤ i → Holds r A (i + k * r.loop) ↔ Holds r A i
turns r A zero i s = rw (zero-mul, add-zero) Iff.rfl
turns r A (suc k) i s =
    let e : i + suc k * r.loop ≡ (i + k * r.loop) + r.loop = omega (arith, suc-mul k r.loop) in
    rw e (Iff.trans (turn r A (i + k * r.loop) (omega arith)) (turns r A k i s))

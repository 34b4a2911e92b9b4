-- `truth` computes what holds, so what holds is decided.
use Rattle.std.proofs.Common.{◌≡◌, ℕ, zero, suc, ◌+◌, ◌-◌, ◌<◌, ◌≤◌, Bool, true, false, not, ◌||◌, ◌↔◌, sym, refl, ◌∙◌, ⊎_elim, arith}
use mathlib.Core.Logic.Iff
use mathlib.Core.Bool.{false≢true}
use Rattle.std.proofs.lemmas.Bool.{cases_lt, cases_eq, and_parts, and_from}
use Rattle.logic.specs.Formula.{Formula, falsum, atom, implies, next, always}
use Rattle.logic.specs.Run.{Run}
use Rattle.logic.specs.Truth.{Holds, Throughout}
use Rattle.logic.specs.Decide.{truth, all_from}
use Rattle.logic.proofs.Periodic.{turn}

-- what holds up to the end of the first whole loop holds for ever
window : (r : Run) (A : Formula) (i : ℕ) → ((j : ℕ) → i ≤ j → j < i + ((r.stem - i) + r.loop) → Holds r A j)
    → (n j : ℕ) → j < n → i ≤ j → Holds r A j
window r A i h zero j lt le = absurd (omega arith)
window r A i h (suc n) j lt le = ⊎_elim (h j le)
    (λ far.
    let e : j ≡ (j - r.loop) + r.loop = omega arith in
    rw e ((turn r A (j - r.loop) (omega arith)).1 (window r A i h n (j - r.loop) (omega arith) (omega arith))))
    (cases_lt j (i + ((r.stem - i) + r.loop)))

all_from_true : (n i : ℕ) (p : ℕ → Bool) → (all_from n i p ≡ true) ↔ ((j : ℕ) → i ≤ j → j < i + n → p j ≡ true)
all_from_true zero i p = (λ _ j le lt. absurd (omega arith), λ _. refl)
all_from_true (suc n) i p = (
  λ e j le lt.
      let (here, rest) = and_parts (p i) (all_from n (i + 1) p) e in
      ⊎_elim (λ at. rw (← at) here) (λ ne. (all_from_true n (i + 1) p).0 rest j (omega arith) (omega arith)) (cases_eq i j),
  λ h. and_from (p i) (all_from n (i + 1) p) (h i (omega arith) (omega arith))
      ((all_from_true n (i + 1) p).1 λ j le lt. h j (omega arith) (omega arith)),
)

implies_true : (a b : Bool) → ((not a || b) ≡ true) ↔ (a ≡ true → b ≡ true)
implies_true true b = (λ h _. h, λ f. f refl)
implies_true false b = (λ _ e. absurd (false≢true e), λ _. refl)

pub decides : (r : Run) (A : Formula) (i : ℕ) → (truth r A i ≡ true) ↔ Holds r A i
decides r falsum i = (false≢true, λ h. absurd h)
decides r (atom a) i = Iff.rfl
decides r (implies A B) i = Iff.trans (implies_true (truth r A i) (truth r B i))
    (λ f a. (decides r B i).0 (f ((decides r A i).1 a)), λ f a. (decides r B i).1 (f ((decides r A i).0 a)))
decides r (next A) i = decides r A (i + 1)
decides r (always A) i = Iff.trans (all_from_true ((r.stem - i) + r.loop) i (truth r A))
    (λ h j le. window r A i (λ k a b. (decides r A k).0 (h k a b)) (suc j) j (omega arith) le, λ h j le lt. (decides r A j).1 (h j le))

-- what is true up to the end of the loop holds throughout
pub throughout : (r : Run) (A : Formula) → ((j : ℕ) → j < r.stem + r.loop → truth r A j ≡ true) → Throughout r A
throughout r A below i = window r A 0 (λ j le lt. (decides r A j).0 (below j (omega arith))) (suc i) i (omega arith) (omega arith)

pub fails : (r : Run) (A : Formula) (i : ℕ) → truth r A i ≡ false → Holds r A i → ⊥
fails r A i e h = false≢true (sym e ∙ (decides r A i).1 h)

-- The axioms and rules of the calculus, and those that are derived in it, each on any run.
use Rattle.std.proofs.Common.{◌≡◌, ℕ, ◌+◌, not, ◌||◌, sym, refl, ◌∙◌, ap₂, arith}
use Rattle.std.proofs.Math.Numerals.{add-one}
use Rattle.std.proofs.Math.Decide.{le_ind}
use Rattle.logic.specs.Formula.{Formula, falsum, atom, implies, next, always}
use Rattle.logic.specs.Abbreviations.{eventually}
use Rattle.logic.specs.Run.{Run}
use Rattle.logic.specs.Truth.{Holds, Throughout}
use Rattle.logic.specs.Decide.{truth}
use Rattle.logic.proofs.Decided.{decides}
use Rattle.calculus.specs.Tautology.{eval, Tautology}
use Rattle.calculus.specs.Rules.{Ltl1, Ltl2, Ltl3}

-- what is true at a position is one choice of truth
eval_truth : (r : Run) (i : ℕ) (A : Formula) → eval (λ X. truth r X i) A ≡ truth r A i
eval_truth r i falsum = refl
eval_truth r i (atom a) = refl
eval_truth r i (implies A B) = ap₂ (λ a b. not a || b) (eval_truth r i A) (eval_truth r i B)
eval_truth r i (next A) = refl
eval_truth r i (always A) = refl

pub taut : (A : Formula) → Tautology A → (r : Run) → Throughout r A
taut A t r i = (decides r A i).0 (sym (eval_truth r i A) ∙ t (λ X. truth r X i))

module _ (r : Run) (A : Formula) where
  pub ltl1 : Throughout r (Ltl1 A)
  ltl1 i k = k (λ x. x) (λ x. x)

  pub ltl3 : Throughout r (Ltl3 A)
  ltl3 i h k = k (h i (omega arith)) (λ j le. h j (omega arith))

  pub nex : Throughout r A → Throughout r (next A)
  nex a i = a (i + 1)

  pub alw : Throughout r A → Throughout r (always A)
  alw a i j le = a j

module _ (r : Run) (A B : Formula) where
  pub ltl2 : Throughout r (Ltl2 A B)
  ltl2 i f a = f a

  pub mp : Throughout r A → Throughout r (implies A B) → Throughout r B
  mp a f i = f i (a i)

  pub ind : Throughout r (implies A B) → Throughout r (implies A (next A)) → Throughout r (implies A (always B))
  ind f step i a j le = f j (le_ind (Holds r A) a (λ k _ h. rw (← add-one) (step k h)) j le)

  pub som : Throughout r (implies A (next B)) → Throughout r (implies A (eventually B))
  som f i a never = never (i + 1) (omega arith) (f i a)

pub ind1 : (r : Run) (A : Formula) → Throughout r (implies A (next A)) → Throughout r (implies A (always A))
ind1 r A = ind r A A (λ i a. a)

pub chain : (r : Run) (A B C : Formula) → Throughout r (implies A (eventually B)) → Throughout r (implies B (eventually C)) → Throughout r (implies A (eventually C))
chain r A B C f g i a never = f i a λ j le b. g j b λ k le'. never k (omega arith)

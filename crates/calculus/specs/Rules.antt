-- The standard axiom system of linear temporal logic: its axioms and rules, and those that are derived in it.
use Rattle.std.specs.Prelude.{ℕ, Some, None, Option}
use Rattle.logic.specs.Formula.{Formula, implies, next, always}
use Rattle.logic.specs.Abbreviations.{not, and, iff, eventually}
use Rattle.calculus.specs.Tautology.{Tautology}

-- ¬○A ↔ ○¬A
abbrev pub Ltl1 : Formula → Formula
Ltl1 A = iff (not (next A)) (next (not A))

-- ○(A → B) → (○A → ○B)
abbrev pub Ltl2 : Formula → Formula → Formula
Ltl2 A B = implies (next (implies A B)) (implies (next A) (next B))

-- □A → (A ∧ ○□A)
abbrev pub Ltl3 : Formula → Formula
Ltl3 A = implies (always A) (and A (next (always A)))

-- the rule with a number gives a conclusion from a first and a second premise; one that it does not use is missing
pub data Gives : ℕ → Formula → Option Formula → Option Formula → Type 0 where
  taut : (A : Formula) → Tautology A → Gives 1 A None None
  ltl1 : (A : Formula) → Gives 2 (Ltl1 A) None None
  ltl2 : (A B : Formula) → Gives 3 (Ltl2 A B) None None
  ltl3 : (A : Formula) → Gives 4 (Ltl3 A) None None
  mp : (A B : Formula) → Gives 5 B (Some A) (Some (implies A B))
  nex : (A : Formula) → Gives 6 (next A) (Some A) None
  ind : (A B : Formula) → Gives 7 (implies A (always B)) (Some (implies A B)) (Some (implies A (next A)))

-- the same for the derived rules
pub data DerivedGives : ℕ → Formula → Option Formula → Option Formula → Type 0 where
  alw : (A : Formula) → DerivedGives 16 (always A) (Some A) None
  ind1 : (A : Formula) → DerivedGives 17 (implies A (always A)) (Some (implies A (next A))) None
  som : (A B : Formula) → DerivedGives 18 (implies A (eventually B)) (Some (implies A (next B))) None
  chain : (A B C : Formula) → DerivedGives 19 (implies A (eventually C)) (Some (implies A (eventually B))) (Some (implies B (eventually C)))

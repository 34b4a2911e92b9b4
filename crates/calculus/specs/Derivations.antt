-- Derivations in the axiom system, with the rules that are derived in it.
use Rattle.std.specs.Prelude.{◌≡◌, ℕ, ◌<◌, List, Some, None, Option}
use Rattle.std.specs.List.{slice_get}
use Rattle.logic.specs.Formula.{Formula}
use Rattle.calculus.specs.Rules.{Gives, DerivedGives}

-- a line: a rule, a formula, and two places, each an earlier line's number or empty
pub record DerivationLine : Type 0 where
  pub rule : ℕ
  pub formula : Formula
  pub first : Option ℕ
  pub second : Option ℕ

-- for line n, a place is empty and there is no premise, or it is the number of an earlier line and the premise is its formula
pub data PremiseOf (steps : List DerivationLine) (n : ℕ) : Option ℕ → Option Formula → Type 0 where
  no_premise : PremiseOf steps n None None
  on_earlier : (k : ℕ) (s : DerivationLine) → k < n → slice_get steps k ≡ Some s → PremiseOf steps n (Some k) (Some s.formula)

-- line n is an assumption, by rule 0, or its rule, which may be a derived one, gives it from the lines at its places
pub data Justified (assumptions : List Formula) (steps : List DerivationLine) (n : ℕ) (s : DerivationLine) : Type 0 where
  by_assumption : s.rule ≡ 0 → s.first ≡ None → s.second ≡ None → (k : ℕ) → slice_get assumptions k ≡ Some s.formula → Justified assumptions steps n s
  by_rule : (P Q : Option Formula) → PremiseOf steps n s.first P → PremiseOf steps n s.second Q → Gives s.rule s.formula P Q → Justified assumptions steps n s
  by_derived_rule : (P Q : Option Formula) → PremiseOf steps n s.first P → PremiseOf steps n s.second Q → DerivedGives s.rule s.formula P Q → Justified assumptions steps n s

pub record Derivation : Type 0 where
  pub assumptions : List Formula
  pub steps : List DerivationLine
  pub justified : (n : ℕ) (s : DerivationLine) → slice_get steps n ≡ Some s → Justified assumptions steps n s

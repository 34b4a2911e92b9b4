-- Sameness of formulas is equality.
use Rattle.std.proofs.Common.{◌≡◌, true, sym, refl, ap, ap₂}
use mathlib.Core.Bool.{false≢true}
use Rattle.std.proofs.lemmas.Bool.{eqb-true, eq-eqb, and_parts, and_from}
use Rattle.lists.proofs.Places.{IsEquality}
use Rattle.logic.specs.Formula.{Formula, falsum, atom, implies, next, always}
use Rattle.logic.specs.Same.{same}

pub same_true : (A X : Formula) → same A X ≡ true → A ≡ X
same_true falsum falsum e = refl
same_true (atom a) (atom b) e = ap atom (sym (eqb-true b a e))
same_true (implies A A') (implies B B') e = let (p, q) = and_parts (same A B) (same A' B') e in ap₂ implies (same_true A B p) (same_true A' B' q)
same_true (next A) (next B) e = ap next (same_true A B e)
same_true (always A) (always B) e = ap always (same_true A B e)
same_true A X e = absurd (false≢true e)

pub same_refl : (A : Formula) → same A A ≡ true
same_refl falsum = refl
same_refl (atom a) = eq-eqb a a refl
same_refl (implies A B) = and_from (same A A) (same B B) (same_refl A) (same_refl B)
same_refl (next A) = same_refl A
same_refl (always A) = same_refl A

pub same_tells : IsEquality same
same_tells = record { sound = same_true; itself = same_refl }

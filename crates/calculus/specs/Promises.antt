-- What is promised of prime parts, of the rules, of the two pages, and of derivations.
use Rattle.std.specs.Prelude.{◌≡◌, ℕ, ◌<◌, ◌≤◌, Bool, ◌⊎◌, ◌↔◌, length, None, Option, ◌≢◌}
use Rattle.logic.specs.Formula.{Formula}
use Rattle.logic.specs.Run.{Run}
use Rattle.logic.specs.Truth.{Throughout}
use Rattle.lists.specs.Adding.{Distinct, Member}
use Rattle.calculus.specs.declared.verdict.Verdict.TheVariants.{Admitted, BeyondLimit}
use Rattle.calculus.specs.Tautology.{eval}
use Rattle.calculus.specs.PrimeParts.{PrimePart, prime_parts}
use Rattle.calculus.specs.Rules.{Gives, DerivedGives}
use Rattle.calculus.specs.Pages.{Given, Verdicts}
use Rattle.calculus.specs.Published.{published}
use Rattle.calculus.specs.Derived.{derived}
use Rattle.calculus.specs.Derivations.{DerivationLine, Derivation}

-- the prime parts of a formula are listed, each once
abbrev pub PrimePartsListed : Type 0
PrimePartsListed = (X : Formula) → Distinct (prime_parts X) × ((P : Formula) → Member (prime_parts X) P ↔ PrimePart X P)

-- choices of truth that agree on a formula's prime parts give it the same truth
abbrev pub PrimePartsMatter : Type 0
PrimePartsMatter = (A : Formula) (v w : Formula → Bool) → ((P : Formula) → PrimePart A P → v P ≡ w P) → eval v A ≡ eval w A

-- on every run on which the given premises of a rule hold throughout, its conclusion does
abbrev pub RulesKeepLaw : Type 0
RulesKeepLaw = (rule : ℕ) (X : Formula) (P Q : Option Formula) → Gives rule X P Q ⊎ DerivedGives rule X P Q → (r : Run) → Given r P → Given r Q → Throughout r X

-- on every run on which the assumptions of a derivation hold throughout, the formula of each of its lines does
abbrev pub DerivationsSound : Type 0
DerivationsSound = (D : Derivation) (r : Run) → ((A : Formula) → Member D.assumptions A → Throughout r A) → (s : DerivationLine) → Member D.steps s → Throughout r s.formula

-- the published page admits exactly what the axioms and rules give, a tautology if it has at most twelve prime parts
abbrev pub PublishedExact : Type 0
PublishedExact = (rule : ℕ) (X : Formula) (P Q : Option Formula)
    → (published rule X P Q ≡ Admitted) ↔ (Gives rule X P Q × (rule ≡ 1 → length (prime_parts X) ≤ 12))

-- it says that its limit is passed exactly where rule 1 is asked for a formula of more than twelve prime parts, without premises
abbrev pub PublishedLimit : Type 0
PublishedLimit = (rule : ℕ) (X : Formula) (P Q : Option Formula)
    → (published rule X P Q ≡ BeyondLimit) ↔ ((rule ≡ 1) × (P ≡ None) × (Q ≡ None) × (12 < length (prime_parts X)))

-- the derived page admits by its rules exactly what they give and is never beyond its limit there, and says of all others what the page below says
abbrev pub DerivedExact : Type 0
DerivedExact = (below : Verdicts) (rule : ℕ) (X : Formula) (P Q : Option Formula)
    → (16 ≤ rule → rule ≤ 19 → ((derived below rule X P Q ≡ Admitted) ↔ DerivedGives rule X P Q) × (derived below rule X P Q ≢ BeyondLimit))
    × ((16 ≤ rule → rule ≤ 19 → ⊥) → derived below rule X P Q ≡ below rule X P Q)

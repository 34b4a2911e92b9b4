-- The prime parts of a formula, and its truth under all choices of truth for them.
use Rattle.std.specs.Prelude.{◌≡◌, Bool, true, false, ◌&&◌, if◌then◌else◌, ◌⊎◌, List, [], ◌∷◌, ◌++◌, is_some}
use Rattle.logic.specs.Formula.{Formula, falsum, atom, implies, next, always}
use Rattle.logic.specs.Same.{same}
use Rattle.lists.specs.Adding.{first_like}
use Rattle.calculus.specs.Tautology.{eval}

-- P is a prime part of a formula: an atom, or with ○ or □ on top, and reached by going down through implications only
abbrev pub PrimePart : Formula → Formula → Type 0
PrimePart falsum P = ⊥
PrimePart (atom a) P = atom a ≡ P
PrimePart (implies A B) P = PrimePart A P ⊎ PrimePart B P
PrimePart (next A) P = next A ≡ P
PrimePart (always A) P = always A ≡ P

-- a list with one more formula at its end, unless it is there
abbrev pub add : List Formula → Formula → List Formula
add ps A = if is_some (first_like same ps A) then ps else ps ++ A ∷ []

-- a list with the prime parts of a formula, from left to right
abbrev pub gathered : List Formula → Formula → List Formula
gathered ps falsum = ps
gathered ps (atom a) = add ps (atom a)
gathered ps (implies A B) = gathered (gathered ps A) B
gathered ps (next A) = add ps (next A)
gathered ps (always A) = add ps (always A)

-- the prime parts of a formula, each once
abbrev pub prime_parts : Formula → List Formula
prime_parts A = gathered [] A

-- a choice of truth that is b for P, and else v
abbrev pub put : Formula → Bool → (Formula → Bool) → Formula → Bool
put P b v X = if same P X then b else v X

-- a formula is true whatever the formulas of a list are, and others as v says
abbrev pub every_way : List Formula → Formula → (Formula → Bool) → Bool
every_way [] A v = eval v A
every_way (P ∷ ps) A v = every_way ps A (put P true v) && every_way ps A (put P false v)

-- a formula is true whatever its prime parts are
abbrev pub is_tautology : Formula → Bool
is_tautology A = every_way (prime_parts A) A (λ _. false)

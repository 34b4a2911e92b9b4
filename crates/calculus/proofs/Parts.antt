-- Gathering prime parts: what it keeps, what it adds, and that each part is listed once.
use Rattle.std.proofs.Common.{◌≡◌, ℕ, ◌⊎◌, cond, List, [], ◌∷◌, ◌++◌, length, Some, None, Option, is_some, refl, subst, inl, inr, arith}
use Rattle.std.specs.List.{slice_get}
use Rattle.logic.specs.Formula.{Formula, falsum, atom, implies, next, always}
use Rattle.logic.specs.Same.{same}
use Rattle.lists.specs.Adding.{Distinct, Member, first_like}
use Rattle.lists.proofs.Members.{nth_push, nth_pushed, nth_stays, distinct_push}
use Rattle.lists.proofs.Places.{first_like_is, none_there}
use Rattle.logic.proofs.Same.{same_tells}
use Rattle.calculus.specs.PrimeParts.{PrimePart, add, gathered}
use Rattle.calculus.specs.Promises.{PrimePartsListed}

-- what holds of the list as it is if A is in it, and else of the list with A at its end, holds of the list to which A is added
add_both : (P : List Formula → Type 0) (ps : List Formula) (A : Formula) → (Member ps A → P ps) → ((Member ps A → ⊥) → P (ps ++ A ∷ [])) → P (add ps A)
add_both P ps A there new = by (first_like same ps A) refl
  where
    by : (o : Option ℕ) → first_like same ps A ≡ o → P (cond (is_some o) ps (ps ++ A ∷ []))
    by (Some i) found = there (i, first_like_is same same_tells ps A i found)
    by None found = new (λ is. none_there same same_tells ps A found is.0 is.1)

pub add_has : (ps : List Formula) (A : Formula) → Member (add ps A) A
add_has ps A = add_both (λ qs. Member qs A) ps A (λ is. is) (λ _. (length ps, nth_push ps A))

pub add_keeps : (ps : List Formula) (A X : Formula) (k : ℕ) → slice_get ps k ≡ Some X → slice_get (add ps A) k ≡ Some X
add_keeps ps A X k is = add_both (λ qs. slice_get qs k ≡ Some X) ps A (λ _. is) (λ _. nth_stays ps A k X is)

pub add_only : (ps : List Formula) (A X : Formula) → Member (add ps A) X → Member ps X ⊎ (A ≡ X)
add_only ps A X = add_both (λ qs. Member qs X → Member ps X ⊎ (A ≡ X)) ps A (λ _ is. inl is) (λ _ is. elim (nth_pushed ps A is.0 X is.1) [
  | inl old ↦ inl (is.0, old)
  | inr at ↦ inr at.1
])

pub add_distinct : (ps : List Formula) (A : Formula) → Distinct ps → Distinct (add ps A)
add_distinct ps A distinct = add_both Distinct ps A (λ _. distinct) (λ none. distinct_push ps A distinct (λ k is. none (k, is)))

-- what adding a prime part keeps, gathering keeps
gathered_keeping : (P : List Formula → Type 0) (A : Formula) → ((ps : List Formula) (X : Formula) → PrimePart A X → P ps → P (add ps X)) → (ps : List Formula) → P ps → P (gathered ps A)
gathered_keeping P falsum step ps h = h
gathered_keeping P (atom a) step ps h = step ps (atom a) refl h
gathered_keeping P (implies A B) step ps h =
    gathered_keeping P B (λ qs X p. step qs X (inr p)) (gathered ps A)
    (gathered_keeping P A (λ qs X p. step qs X (inl p)) ps h)
gathered_keeping P (next A) step ps h = step ps (next A) refl h
gathered_keeping P (always A) step ps h = step ps (always A) refl h

-- members keep their numbers
pub gathered_keeps : (ps : List Formula) (A X : Formula) (k : ℕ) → slice_get ps k ≡ Some X → slice_get (gathered ps A) k ≡ Some X
gathered_keeps ps A X k = gathered_keeping (λ qs. slice_get qs k ≡ Some X) A (λ qs B p is. add_keeps qs B X k is) ps

pub gathered_distinct : (ps : List Formula) (A : Formula) → Distinct ps → Distinct (gathered ps A)
gathered_distinct ps A = gathered_keeping Distinct A (λ qs B p distinct. add_distinct qs B distinct) ps

-- each prime part is there afterwards, and nothing else is new
pub gathered_has : (ps : List Formula) (A X : Formula) → PrimePart A X → Member (gathered ps A) X
gathered_has ps falsum X p = absurd p
gathered_has ps (atom a) X p = subst (Member (add ps (atom a))) p (add_has ps (atom a))
gathered_has ps (implies A B) X (inl p) = let is = gathered_has ps A X p in (is.0, gathered_keeps (gathered ps A) B X is.0 is.1)
gathered_has ps (implies A B) X (inr p) = gathered_has (gathered ps A) B X p
gathered_has ps (next A) X p = subst (Member (add ps (next A))) p (add_has ps (next A))
gathered_has ps (always A) X p = subst (Member (add ps (always A))) p (add_has ps (always A))

pub gathered_only : (ps : List Formula) (A X : Formula) → Member (gathered ps A) X → Member ps X ⊎ PrimePart A X
gathered_only ps A X =
    gathered_keeping (λ qs. Member qs X → Member ps X ⊎ PrimePart A X) A
    (λ qs B p only is. elim (add_only qs B X is) [
      | inl old ↦ only old
      | inr at ↦ inr (subst (PrimePart A) at p)
    ]) ps (λ is. inl is)

pub prime_parts_listed : PrimePartsListed
prime_parts_listed X = (
  gathered_distinct [] X (λ i j before within. absurd (omega arith)),
  λ P. (
    λ is. elim (gathered_only [] X P is) [ inl none ↦ absurd (none_empty P none) | inr p ↦ p ],
    gathered_has [] X P,
  ),
)
  where
    none_empty : (P : Formula) → Member [] P → ⊥
    none_empty P is = cc

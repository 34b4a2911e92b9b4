-- To try all choices of truth for the prime parts decides a tautology.
use Rattle.std.proofs.Common.{◌≡◌, zero, suc, Bool, true, false, not, ◌||◌, ◌⊎◌, ◌↔◌, List, [], ◌∷◌, sym, refl, ap, ap₂, ◌∙◌, subst, inl, inr}
use Rattle.std.proofs.lemmas.Bool.{cond_both, and_parts, and_from, false≢true}
use Rattle.logic.specs.Formula.{Formula, falsum, atom, implies, next, always}
use Rattle.logic.specs.Same.{same}
use Rattle.logic.proofs.Same.{same_true, same_refl}
use Rattle.lists.specs.Adding.{Member}
use Rattle.lists.proofs.Members.{some_same, some_not_none}
use Rattle.calculus.specs.Tautology.{eval, Tautology}
use Rattle.calculus.specs.PrimeParts.{PrimePart, prime_parts, put, every_way, is_tautology}
use Rattle.calculus.specs.Promises.{PrimePartsMatter}
use Rattle.calculus.proofs.Parts.{gathered_has}

-- choices that agree on a formula's prime parts agree on it
pub agreed : (A : Formula) (v w : Formula → Bool) → ((X : Formula) → PrimePart A X → w X ≡ v X) → eval w A ≡ eval v A
agreed falsum v w h = refl
agreed (atom a) v w h = h (atom a) refl
agreed (implies A B) v w h = ap₂ (λ a b. not a || b) (agreed A v w (λ X p. h X (inl p))) (agreed B v w (λ X p. h X (inr p)))
agreed (next A) v w h = h (next A) refl
agreed (always A) v w h = h (always A) refl

put_agrees : (P X : Formula) (v w : Formula → Bool) → (P ≡ X) ⊎ (w X ≡ v X) → w X ≡ put P (w P) v X
put_agrees P X v w h = cond_both (same P X) (w P) (v X) (λ b. w X ≡ b)
    (λ e. ap w (sym (same_true P X e)))
    (λ e. elim h [
      | inl is ↦ absurd (false≢true (sym e ∙ subst (λ (Y : Formula). same P Y ≡ true) is (same_refl P)))
      | inr agree ↦ agree
    ])

-- each formula that is not left to try has the truth that it has in w
sooner : (P X : Formula) (ps : List Formula) (v w : Formula → Bool) → Member (P ∷ ps) X ⊎ (w X ≡ v X) → Member ps X ⊎ (w X ≡ put P (w P) v X)
sooner P X ps v w (inl (zero, at)) = inr (put_agrees P X v w (inl (some_same at)))
sooner P X ps v w (inl (suc n, at)) = inl (n, at)
sooner P X ps v w (inr agree) = inr (put_agrees P X v w (inr agree))

pick : (P : Formula) (ps : List Formula) (A : Formula) (v : Formula → Bool) → every_way (P ∷ ps) A v ≡ true → (b : Bool) → every_way ps A (put P b v) ≡ true
pick P ps A v e true = (and_parts (every_way ps A (put P true v)) (every_way ps A (put P false v)) e).0
pick P ps A v e false = (and_parts (every_way ps A (put P true v)) (every_way ps A (put P false v)) e).1

true_anyway : (ps : List Formula) (A : Formula) (v w : Formula → Bool) → every_way ps A v ≡ true
    → ((X : Formula) → PrimePart A X → Member ps X ⊎ (w X ≡ v X)) → eval w A ≡ true
true_anyway [] A v w e h = agreed A v w (λ X p. elim (h X p) [ inl none ↦ absurd (some_not_none (sym none.1)) | inr agree ↦ agree ]) ∙ e
true_anyway (P ∷ ps) A v w e h = true_anyway ps A (put P (w P) v) w (pick P ps A v e (w P)) (λ X p. sooner P X ps v w (h X p))

tried : (ps : List Formula) (A : Formula) (v : Formula → Bool) → Tautology A → every_way ps A v ≡ true
tried [] A v t = t v
tried (P ∷ ps) A v t =
    and_from (every_way ps A (put P true v)) (every_way ps A (put P false v)) (tried ps A (put P true v) t) (tried ps A (put P false v) t)

pub tautology : (A : Formula) → (is_tautology A ≡ true) ↔ Tautology A
tautology A = (λ e w. true_anyway (prime_parts A) A (λ _. false) w e (λ X p. inl (gathered_has [] A X p)), tried (prime_parts A) A (λ _. false))

pub prime_parts_matter : PrimePartsMatter
prime_parts_matter A v w h = agreed A w v h

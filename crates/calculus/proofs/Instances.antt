-- A conclusion and premises are an instance of a schema exactly when formulas in the places of its letters make them.
use Rattle.std.proofs.Common.{◌≡◌, ℕ, true, eqb, Some, None, Option, is_some, sym, refl, ap, ap₂, ◌∙◌, subst}
use Rattle.std.specs.Option.{option_map, option_or, unwrap_or}
use Rattle.std.proofs.lemmas.Bool.{cond_both, eqb-true, eq-eqb, and_parts, and_from, false≢true}
use Rattle.logic.specs.Formula.{Formula, falsum, atom, implies, next, always}
use Rattle.logic.proofs.Same.{same_true, same_refl}
use Rattle.lists.proofs.Members.{some_same}
use Rattle.calculus.specs.Schemas.{RuleSchema, filled, part_at, premise_part, letters_of, same_premise, is_instance}

-- a schema with some formulas in the places of its letters
pub record Filled (s : ℕ → Formula) (h : RuleSchema) (X : Formula) (P Q : Option Formula) : Type 0 where
  pub conclusion : filled s h.conclusion ≡ X
  pub first : option_map (filled s) h.first ≡ P
  pub second : option_map (filled s) h.second ≡ Q

same_premise_true : (P Q : Option Formula) → same_premise P Q ≡ true → P ≡ Q
same_premise_true None None e = refl
same_premise_true (Some X) (Some Y) e = ap Some (same_true X Y e)
same_premise_true P Q e = absurd (false≢true e)

pub of_filled : {s : ℕ → Formula} {h : RuleSchema} {X : Formula} {P Q : Option Formula} (R : Formula → Option Formula → Option Formula → Type 0)
    → Filled s h X P Q → R (filled s h.conclusion) (option_map (filled s) h.first) (option_map (filled s) h.second) → R X P Q
of_filled {s} {h} {X} {P} {Q} R f r =
    subst (λ (Y : Formula). R Y P Q) f.conclusion
    (subst (λ (Y : Option Formula). R (filled s h.conclusion) Y Q) f.first
    (subst (λ (Y : Option Formula). R (filled s h.conclusion) (option_map (filled s) h.first) Y) f.second r))

pub instance_filled : (h : RuleSchema) (X : Formula) (P Q : Option Formula) → is_instance h X P Q ≡ true → Filled (letters_of h X P Q) h X P Q
instance_filled h X P Q e =
    let (conclusion, premises) = and_parts _ _ e in
    let (first, second) = and_parts _ _ premises in
    record { conclusion = same_true _ X conclusion; first = same_premise_true _ P first; second = same_premise_true _ Q second }

-- what is there is X
abbrev Only : Formula → Option Formula → Type 0
Only X o = (Y : Formula) → o ≡ Some Y → Y ≡ X

either : {X : Formula} (o p : Option Formula) → Only X o → Only X p → Only X (option_or o p)
either None p first second = second
either (Some Y) p first second = first

there_first : (o p : Option Formula) → is_some o ≡ true → is_some (option_or o p) ≡ true
there_first None p is = absurd (false≢true is)
there_first (Some X) p is = refl

there_second : (o p : Option Formula) → is_some p ≡ true → is_some (option_or o p) ≡ true
there_second None p is = is
there_second (Some X) p is = refl

unwrapped : {X : Formula} (o : Option Formula) → Only X o → is_some o ≡ true → unwrap_or o falsum ≡ X
unwrapped None only is = absurd (false≢true is)
unwrapped (Some Y) only is = only Y refl

module _ (s : ℕ → Formula) where
  -- the part where a letter stands in a filled formula is what the letter stands for
  part_is : (a : ℕ) (X : Formula) → Only (s a) (part_at a X (filled s X))
  part_is a falsum = λ Y e. cc
  part_is a (atom b) = cond_both (eqb a b) (Some (s b)) None (Only (s a)) (λ is Y e. some_same (sym e) ∙ ap s (sym (eqb-true a b is))) (λ _ Y e. cc)
  part_is a (implies X Y) = either (part_at a X (filled s X)) (part_at a Y (filled s Y)) (part_is a X) (part_is a Y)
  part_is a (next X) = part_is a X
  part_is a (always X) = part_is a X

  premise_part_is : (a : ℕ) (P : Option Formula) → Only (s a) (premise_part a P (option_map (filled s) P))
  premise_part_is a None = λ Y e. cc
  premise_part_is a (Some X) = part_is a X

  -- formulas for the letters of a filled formula make it again if they are the same
  module _ (t : ℕ → Formula) where
    refilled : (X : Formula) → ((a : ℕ) → is_some (part_at a X (filled s X)) ≡ true → t a ≡ s a) → filled t X ≡ filled s X
    refilled falsum alike = refl
    refilled (atom a) alike = alike a (rw (eq-eqb a a refl) refl)
    refilled (implies X Y) alike =
        ap₂ implies (refilled X (λ a is. alike a (there_first (part_at a X (filled s X)) (part_at a Y (filled s Y)) is)))
        (refilled Y (λ a is. alike a (there_second (part_at a X (filled s X)) (part_at a Y (filled s Y)) is)))
    refilled (next X) alike = ap next (refilled X alike)
    refilled (always X) alike = ap always (refilled X alike)

    premise_refilled : (P : Option Formula) → ((a : ℕ) → is_some (premise_part a P (option_map (filled s) P)) ≡ true → t a ≡ s a)
        → same_premise (option_map (filled t) P) (option_map (filled s) P) ≡ true
    premise_refilled None alike = refl
    premise_refilled (Some X) alike = rw (refilled X alike) (same_refl (filled s X))

pub filled_instance : {s : ℕ → Formula} {h : RuleSchema} {X : Formula} {P Q : Option Formula} → Filled s h X P Q → is_instance h X P Q ≡ true
filled_instance {s} {h} f = of_filled (λ X P Q. is_instance h X P Q ≡ true) f itself
  where
    of_conclusion : ℕ → Option Formula
    of_conclusion a = part_at a h.conclusion (filled s h.conclusion)

    of_first : ℕ → Option Formula
    of_first a = premise_part a h.first (option_map (filled s) h.first)

    of_second : ℕ → Option Formula
    of_second a = premise_part a h.second (option_map (filled s) h.second)

    t : ℕ → Formula
    t a = unwrap_or (option_or (of_conclusion a) (option_or (of_first a) (of_second a))) falsum

    alike : (a : ℕ) → is_some (option_or (of_conclusion a) (option_or (of_first a) (of_second a))) ≡ true → t a ≡ s a
    alike a =
        unwrapped _ (either (of_conclusion a) _ (part_is s a h.conclusion) (either (of_first a) (of_second a) (premise_part_is s a h.first) (premise_part_is s a h.second)))

    itself : is_instance h (filled s h.conclusion) (option_map (filled s) h.first) (option_map (filled s) h.second) ≡ true
    itself =
        and_from _ _ (premise_refilled s t (Some h.conclusion) (λ a is. alike a (there_first (of_conclusion a) _ is)))
        (and_from _ _
        (premise_refilled s t h.first (λ a is. alike a (there_second (of_conclusion a) _ (there_first (of_first a) (of_second a) is))))
        (premise_refilled s t h.second (λ a is. alike a (there_second (of_conclusion a) _ (there_second (of_first a) (of_second a) is)))))

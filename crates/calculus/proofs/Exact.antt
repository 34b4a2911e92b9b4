-- The two pages admit exactly what their rules give, and the published page's limit is passed exactly for too many prime parts.
use Rattle.std.proofs.Common.{◌≡◌, ℕ, ◌<◌, ◌≤◌, Bool, true, false, ◌&&◌, eqb, ◌↔◌, List, [], ◌∷◌, length, Some, None, Option, is_none, is_some, sym, refl, ap, ◌∙◌, subst, inl, inr, arith, get_or}
use Rattle.std.specs.Map.{lookup}
use Rattle.std.specs.List.{AllByRecursion}
use Rattle.std.specs.Option.{option_map}
use Rattle.std.proofs.lemmas.Bool.Decides.{nat_tests}
use Rattle.std.proofs.lemmas.Bool.{cases_eq, cond_both, cond-false, ne_eqb, and_parts, eqb-true, eqb-false, false≢true}
use Rattle.logic.specs.Formula.{Formula, falsum}
use Rattle.calculus.specs.declared.verdict.Verdict.{Verdict}
use Rattle.calculus.specs.declared.verdict.Verdict.TheVariants.{Admitted, NotAdmitted, BeyondLimit}
use Rattle.calculus.specs.Tautology.{Tautology}
use Rattle.calculus.specs.PrimeParts.{prime_parts}
use Rattle.calculus.specs.Rules.{Gives, taut, ltl1, ltl2, ltl3, mp, nex, ind, DerivedGives, alw, ind1, som, chain}
use Rattle.calculus.specs.Schemas.{RuleSchema, filled, letters_of, is_instance, admitted_if, by_schema}
use Rattle.calculus.specs.Pages.{Verdicts}
use Rattle.calculus.specs.Published as published_page
use Rattle.calculus.specs.Published.{published_schemas, taut_verdict, published}
use Rattle.calculus.specs.Derived as derived_page
use Rattle.calculus.specs.Derived.{derived_schemas, derived}
use Rattle.calculus.specs.Promises.{PublishedExact, PublishedLimit, DerivedExact}
use Rattle.calculus.proofs.Tautologies.{tautology}
use Rattle.calculus.proofs.Instances.{of_filled, instance_filled, filled_instance}

pub admitted_if_true : (b : Bool) → admitted_if b ≡ Admitted → b ≡ true
admitted_if_true b e = grind (arith, nat_tests)

admitted_if_no_limit : (b : Bool) → admitted_if b ≡ BeyondLimit → ⊥
admitted_if_no_limit b e = grind (arith, nat_tests)

-- a relation of a rule's number, a conclusion and premises, as Gives, has all that a rule's schema makes
abbrev Makes : (ℕ → Formula → Option Formula → Option Formula → Type 0) → ℕ × RuleSchema → Type 0
Makes G r = (s : ℕ → Formula) → G r.0 (filled s r.1.conclusion) (option_map (filled s) r.1.first) (option_map (filled s) r.1.second)

-- one fact, and others after it
infixr 5 ◌also◌
◌also◌ : {X Y : Type 0} → X → Y → X × Y
a also b = (a, b)

module _ (G : ℕ → Formula → Option Formula → Option Formula → Type 0) (rule : ℕ) (X : Formula) (P Q : Option Formula) where
  instance_made : (r : ℕ × RuleSchema) → rule ≡ r.0 → Makes G r → is_instance r.1 X P Q ≡ true → G rule X P Q
  instance_made (k, h) is makes e =
      subst (λ (n : ℕ). G n X P Q) (sym is) (of_filled (G k) (instance_filled h X P Q e) (makes (letters_of h X P Q)))

  -- what a table says of a rule: by an instance, which the relation has, or, of a rule that is not in the table, another verdict
  by_table : (table : List (ℕ × RuleSchema)) → AllByRecursion (Makes G) table → (other : Verdict) (R : Verdict → Type 0)
      → ((b : Bool) → (b ≡ true → G rule X P Q) → R (admitted_if b)) → (AllByRecursion (λ r. rule ≡ r.0 → ⊥) table → R other)
      → R (by_schema (lookup (eqb rule) table) other X P Q)
  by_table [] all other R instances others = others tt
  by_table (r ∷ rs) (makes, all) other R instances others =
      cond_both (eqb rule r.0) (Some r.1) (lookup (eqb rule) rs) (λ o. R (by_schema o other X P Q))
      (λ is. instances (is_instance r.1 X P Q) (instance_made r (eqb-true rule r.0 is) makes))
      (λ no. by_table rs all other R instances (λ absent. others (eqb-false rule r.0 no, absent)))

-- a rule that is given something by a table alone has a schema
listed : (o : Option RuleSchema) (X : Formula) (P Q : Option Formula) → by_schema o NotAdmitted X P Q ≡ Admitted → is_some o ≡ true
listed None X P Q e = cc
listed (Some h) X P Q e = refl

-- a schema with the first formulas of a list for its letters is an instance
pub filled_by : (h : RuleSchema) (Xs : List Formula)
    → let s : ℕ → Formula = λ a. get_or Xs a falsum in admitted_if (is_instance h (filled s h.conclusion) (option_map (filled s) h.first) (option_map (filled s) h.second)) ≡ Admitted
filled_by h Xs = ap admitted_if (filled_instance {s = λ a. get_or Xs a falsum} {h = h} (record { conclusion = refl; first = refl; second = refl }))

-- what the published page says of a formula as a tautology
pub taut_admitted : (X : Formula) → (taut_verdict X ≡ Admitted) ↔ (Tautology X × (length (prime_parts X) ≤ 12))
taut_admitted X = (
  λ e. ((tautology X).0 (grind (arith, nat_tests)), grind (arith, nat_tests)),
  λ (t, few). let is = (tautology X).1 t in grind (arith, nat_tests),
)

pub taut_limit : (X : Formula) → (taut_verdict X ≡ BeyondLimit) ↔ (12 < length (prime_parts X))
taut_limit X = (λ e. grind (arith, nat_tests), λ many. grind (arith, nat_tests))

-- the published page
published_made : AllByRecursion (Makes Gives) published_schemas
published_made =
    (λ s. ltl1 (s 0)) also
    (λ s. ltl2 (s 0) (s 1)) also
    (λ s. ltl3 (s 0)) also
    (λ s. mp (s 0) (s 1)) also
    (λ s. nex (s 0)) also
    (λ s. ind (s 0) (s 1)) also tt

abbrev Within : ℕ → Formula → Type 0
Within rule X = rule ≡ 1 → length (prime_parts X) ≤ 12

published_both : (rule : ℕ) (X : Formula) (P Q : Option Formula) (R : Verdict → Type 0)
    → (rule ≡ 1 → P ≡ None → Q ≡ None → R (taut_verdict X)) → (rule ≡ 1 → R NotAdmitted)
    → ((rule ≡ 1 → ⊥) → (b : Bool) → (b ≡ true → Gives rule X P Q) → R (admitted_if b)) → R (published rule X P Q)
unfolding published
published_both rule X P Q R first refused instances =
    cond_both (eqb rule 1) _ _ R
    (λ is. cond_both (is_none P && is_none Q) _ _ R
    (λ none. let (p, q) = and_parts (is_none P) (is_none Q) none in first (eqb-true rule 1 is) (is_none_true P p) (is_none_true Q q))
    (λ _. refused (eqb-true rule 1 is)))
    (λ no. by_table Gives rule X P Q published_schemas published_made NotAdmitted R (instances (eqb-false rule 1 no)) (λ _. instances (eqb-false rule 1 no) false (λ e. absurd (false≢true e))))
  where
    is_none_true : (P : Option Formula) → is_none P ≡ true → P ≡ None
    is_none_true None e = refl
    is_none_true (Some A) e = absurd (false≢true e)

gives_published : {rule : ℕ} {X : Formula} {P Q : Option Formula} → Gives rule X P Q → Within rule X → published rule X P Q ≡ Admitted
unfolding published
gives_published (taut A t) few = (taut_admitted A).1 (t, few refl)
gives_published (ltl1 A) few = filled_by published_page.ltl1 (A ∷ [])
gives_published (ltl2 A B) few = filled_by published_page.ltl2 (A ∷ B ∷ [])
gives_published (ltl3 A) few = filled_by published_page.ltl3 (A ∷ [])
gives_published (mp A B) few = filled_by published_page.mp (A ∷ B ∷ [])
gives_published (nex A) few = filled_by published_page.nex (A ∷ [])
gives_published (ind A B) few = filled_by published_page.ind (A ∷ B ∷ [])

pub published_exact : PublishedExact
published_exact rule X P Q = (
  published_both rule X P Q (λ v. v ≡ Admitted → Gives rule X P Q × Within rule X)
      (λ is p q e. let t = (taut_admitted X).0 e in (rw (is, p, q) (taut X t.0), λ _. t.1))
      (λ _ e. cc)
      (λ other b gives e. (gives (admitted_if_true b e), λ is. absurd (other is))),
  λ g. gives_published g.0 g.1,
)

-- the numbers of the axioms and rules
pub published_numbers : {k : ℕ} {X : Formula} {P Q : Option Formula} → Gives k X P Q → (1 ≤ k) × (k ≤ 7)
unfolding published
published_numbers {k} {X} {P} {Q} gives = elim (cases_eq k 1) [
  | inl is ↦ (omega arith, omega arith)
  | inr other ↦
      let there = listed (lookup (eqb k) published_schemas) X P Q (sym (cond-false (eqb k 1) _ _ (ne_eqb k 1 other)) ∙ gives_published gives (λ is. absurd (other is))) in
      (grind (arith, nat_tests), grind (arith, nat_tests))
]

abbrev Passed : ℕ → Formula → Option Formula → Option Formula → Type 0
Passed rule X P Q = (rule ≡ 1) × (P ≡ None) × (Q ≡ None) × (12 < length (prime_parts X))

pub published_limit : PublishedLimit
unfolding published
published_limit rule X P Q = (
  published_both rule X P Q (λ v. v ≡ BeyondLimit → Passed rule X P Q)
      (λ is p q e. (is, p, q, (taut_limit X).0 e))
      (λ _ e. cc)
      (λ _ b _ e. absurd (admitted_if_no_limit b e)),
  λ (is, p, q, many). rw (is, p, q) ((taut_limit X).1 many),
)

-- the derived page
derived_made : AllByRecursion (Makes DerivedGives) derived_schemas
derived_made =
    (λ s. alw (s 0)) also
    (λ s. ind1 (s 0)) also
    (λ s. som (s 0) (s 1)) also
    (λ s. chain (s 0) (s 1) (s 2)) also tt

pub derived_both : (below : Verdicts) (rule : ℕ) (X : Formula) (P Q : Option Formula) (R : Verdict → Type 0)
    → ((b : Bool) → (b ≡ true → DerivedGives rule X P Q) → R (admitted_if b)) → ((16 ≤ rule → rule ≤ 19 → ⊥) → R (below rule X P Q))
    → R (derived below rule X P Q)
unfolding derived
derived_both below rule X P Q R instances others =
    by_table DerivedGives rule X P Q derived_schemas derived_made (below rule X P Q) R instances (λ absent. others (λ low high. omega arith))

gives_derived : (below : Verdicts) {rule : ℕ} {X : Formula} {P Q : Option Formula} → DerivedGives rule X P Q → derived below rule X P Q ≡ Admitted
unfolding derived
gives_derived below (alw A) = filled_by derived_page.alw (A ∷ [])
gives_derived below (ind1 A) = filled_by derived_page.ind1 (A ∷ [])
gives_derived below (som A B) = filled_by derived_page.som (A ∷ B ∷ [])
gives_derived below (chain A B C) = filled_by derived_page.chain (A ∷ B ∷ C ∷ [])

derived_others : (below : Verdicts) (rule : ℕ) (X : Formula) (P Q : Option Formula) → (16 ≤ rule → rule ≤ 19 → ⊥) → derived below rule X P Q ≡ below rule X P Q
unfolding derived
derived_others below rule X P Q out =
    let none : lookup (eqb rule) derived_schemas ≡ None = grind (arith, nat_tests) in
    ap (λ o. by_schema o (below rule X P Q) X P Q) none

-- the numbers of the derived rules
pub derived_numbers : {k : ℕ} {X : Formula} {P Q : Option Formula} → DerivedGives k X P Q → (16 ≤ k) × (k ≤ 19)
unfolding derived
derived_numbers {k} {X} {P} {Q} gives =
    let there = listed (lookup (eqb k) derived_schemas) X P Q (gives_derived (λ _ _ _ _. NotAdmitted) gives) in
    (grind (arith, nat_tests), grind (arith, nat_tests))

pub derived_exact : DerivedExact
derived_exact below rule X P Q = (
  λ low high. (
    (
      derived_both below rule X P Q (λ v. v ≡ Admitted → DerivedGives rule X P Q) (λ b gives e. gives (admitted_if_true b e)) (λ out. absurd (out low high)),
      gives_derived below,
    ),
    derived_both below rule X P Q (λ v. v ≡ BeyondLimit → ⊥) (λ b _ e. admitted_if_no_limit b e) (λ out. absurd (out low high)),
  ),
  derived_others below rule X P Q,
)

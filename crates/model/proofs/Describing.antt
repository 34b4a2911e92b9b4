-- What is asked for by a kind and two fields is what they describe.
use Rattle.std.proofs.Common.{◌≡◌, ℕ, ◌<◌, ◌≤◌, Bool, true, ◌&&◌, eqb, leb, ◌⊎◌, List, length, Ok, Err, Result, sym, refl, ap, ◌∙◌, subst, ap₂, inl, inr, arith}
use lib.Dec
use Rattle.std.proofs.lemmas.Option.{slice_get-get_or}
use Rattle.std.proofs.lemmas.Bool.{and_parts, and_from, cond_both, cond-true, eqb-true, eqb-false, ltb-true, lt-ltb, leb-true, le-leb}
use Rattle.formulas.specs.declared.refusal.FormRefusal.{FormRefusal}
use Rattle.formulas.specs.declared.refusal.FormRefusal.TheVariants.{UnknownKind, BadField}
use Rattle.refusals.proofs.Answers.{ok_not_err, ok_same}
use Rattle.logic.specs.Formula.{Formula, falsum, implies, next, always}
use Rattle.formulas.specs.declared.entry.Entry.{Entry}
use Rattle.formulas.specs.declared.entry.Entry.TheVariants.{False, Atom, Implies, Next, Always}
use Rattle.formulas.specs.Entries.{placed, when_placed, asked}
use Rattle.formulas.specs.Decode.{of_entry}
use Rattle.formulas.specs.Forming.{numbered}
use Rattle.lists.proofs.Members.{some_same, nth_within}
use Rattle.model.specs.Describes.{Number, Describes, false_kind, atom_kind, implies_kind, next_kind, always_kind}

module _ (fs : List Formula) (kind left right : ℕ) where
  -- an entry that is asked for stands for what is described
  abbrev Describing : Result Entry FormRefusal → Type 0
  Describing r = (e : Entry) → r ≡ Ok e → Describes fs kind left right (of_entry (numbered fs) e)

  when_describing : (d : Entry) (unused : Bool) → (unused ≡ true → placed (length fs) d ≡ true → Describes fs kind left right (of_entry (numbered fs) d))
      → Describing (when_placed (length fs) d unused)
  when_describing d unused here =
      cond_both (unused && placed (length fs) d) (Ok d) (Err BadField) Describing
      (λ t e is.
      let p = and_parts unused (placed (length fs) d) t in
      let same_entry : d ≡ e = cc in
      subst (λ (x : Entry). Describes fs kind left right (of_entry (numbered fs) x)) same_entry (here p.0 p.1))
      (λ _ e is. absurd (ok_not_err (sym is)))

  -- an entered number is that of its formula
  there : (n : ℕ) → Dec.ltb n (length fs) ≡ true → Number fs n (numbered fs n)
  there n t = slice_get-get_or fs n falsum (ltb-true n (length fs) t)

  pub asked_describes : Describing (asked (length fs) kind left right)
  asked_describes =
      cond_both (eqb kind 0) _ _ Describing (λ k. when_describing False _ (λ u _.
      let ek = eqb-true kind 0 k in
      let p = and_parts (eqb left 0) (eqb right 0) u in
      let el = eqb-true left 0 p.0 in
      let er = eqb-true right 0 p.1 in
      rw (ek, el, er) false_kind)) (λ _.
      cond_both (eqb kind 1) _ _ Describing (λ k. when_describing (Atom left) _ (λ u p.
      let ek = eqb-true kind 1 k in
      let er = eqb-true right 0 u in
      rw (ek, er) (atom_kind left (leb-true left 31 p)))) (λ _.
      cond_both (eqb kind 2) _ _ Describing (λ k. when_describing (Implies left right) true (λ _ p.
      let ek = eqb-true kind 2 k in
      let q = and_parts (Dec.ltb left (length fs)) (Dec.ltb right (length fs)) p in
      rw ek (implies_kind left right _ _ (there left q.0) (there right q.1)))) (λ _.
      cond_both (eqb kind 3) _ _ Describing (λ k. when_describing (Next left) _ (λ u p.
      let ek = eqb-true kind 3 k in
      let er = eqb-true right 0 u in
      rw (ek, er) (next_kind left _ (there left p)))) (λ _.
      cond_both (eqb kind 4) _ _ Describing (λ k. when_describing (Always left) _ (λ u p.
      let ek = eqb-true kind 4 k in
      let er = eqb-true right 0 u in
      rw (ek, er) (always_kind left _ (there left p)))) (λ _ e is.
      absurd (ok_not_err (sym is)))))))

  -- a refusal is for the kind or for a field
  abbrev Refusing : Result Entry FormRefusal → Type 0
  Refusing r = (x : FormRefusal) → r ≡ Err x → ((x ≡ UnknownKind) × (4 < kind)) ⊎ ((x ≡ BadField) × (kind ≤ 4))

  when_refusing : (d : Entry) (unused : Bool) → kind ≤ 4 → Refusing (when_placed (length fs) d unused)
  when_refusing d unused known =
      cond_both (unused && placed (length fs) d) (Ok d) (Err BadField) Refusing
      (λ _ x is. absurd (ok_not_err is))
      (λ _ x is. let same_refusal : x ≡ BadField = cc in inr (same_refusal, known))

  pub asked_refuses : Refusing (asked (length fs) kind left right)
  asked_refuses =
      cond_both (eqb kind 0) _ _ Refusing (λ k. when_refusing False _ (omega (arith, eqb-true kind 0 k))) (λ n0.
      cond_both (eqb kind 1) _ _ Refusing (λ k. when_refusing (Atom left) _ (omega (arith, eqb-true kind 1 k))) (λ n1.
      cond_both (eqb kind 2) _ _ Refusing (λ k. when_refusing (Implies left right) true (omega (arith, eqb-true kind 2 k))) (λ n2.
      cond_both (eqb kind 3) _ _ Refusing (λ k. when_refusing (Next left) _ (omega (arith, eqb-true kind 3 k))) (λ n3.
      cond_both (eqb kind 4) _ _ Refusing (λ k. when_refusing (Always left) _ (omega (arith, eqb-true kind 4 k))) (λ n4 x is.
      let same_refusal : x ≡ UnknownKind = cc in
      inl (same_refusal, above (eqb-false kind 0 n0) (eqb-false kind 1 n1) (eqb-false kind 2 n2) (eqb-false kind 3 n3) (eqb-false kind 4 n4)))))))
    where
      above : (kind ≡ 0 → ⊥) → (kind ≡ 1 → ⊥) → (kind ≡ 2 → ⊥) → (kind ≡ 3 → ⊥) → (kind ≡ 4 → ⊥) → 4 < kind
      above a b c d e = omega arith

pub numbered_is : (fs : List Formula) (n : ℕ) (A : Formula) → Number fs n A → numbered fs n ≡ A
numbered_is fs n A is = some_same (sym (slice_get-get_or fs n falsum (nth_within fs n is)) ∙ is)

-- what is described is asked for
pub describes_asked : (fs : List Formula) {kind left right : ℕ} {A : Formula} → Describes fs kind left right A
    → (e : Entry) × (asked (length fs) kind left right ≡ Ok e) × (of_entry (numbered fs) e ≡ A)
describes_asked fs false_kind = (False, refl, refl)
describes_asked fs (atom_kind a small) = (Atom a, cond-true (leb a 31) (Ok (Atom a)) (Err BadField) (le-leb a 31 small), refl)
describes_asked fs (implies_kind l r A B left right) = (
  Implies l r,
  cond-true (Dec.ltb l (length fs) && Dec.ltb r (length fs)) (Ok (Implies l r)) (Err BadField)
      (and_from (Dec.ltb l (length fs)) (Dec.ltb r (length fs)) (lt-ltb l (length fs) (nth_within fs l left)) (lt-ltb r (length fs) (nth_within fs r right))),
  ap₂ implies (numbered_is fs l A left) (numbered_is fs r B right),
)
describes_asked fs (next_kind l A left) =
    (Next l, cond-true (Dec.ltb l (length fs)) (Ok (Next l)) (Err BadField) (lt-ltb l (length fs) (nth_within fs l left)), ap next (numbered_is fs l A left))
describes_asked fs (always_kind l A left) =
    (Always l, cond-true (Dec.ltb l (length fs)) (Ok (Always l)) (Err BadField) (lt-ltb l (length fs) (nth_within fs l left)), ap always (numbered_is fs l A left))

-- a kind and two fields describe one formula at most
pub describes_one : (fs : List Formula) (kind left right : ℕ) (A B : Formula) → Describes fs kind left right A → Describes fs kind left right B → A ≡ B
describes_one fs kind left right A B d e =
    let p = describes_asked fs d in
    let q = describes_asked fs e in
    let same_entry : p.0 ≡ q.0 = ok_same (sym p.1 ∙ q.1) in
    sym p.2 ∙ ap (of_entry (numbered fs)) same_entry ∙ q.2

-- more formulas leave what is described
pub describes_kept : {fs gs : List Formula} → ((n : ℕ) (A : Formula) → Number fs n A → Number gs n A) → {kind left right : ℕ} {A : Formula} → Describes fs kind left right A → Describes gs kind left right A
describes_kept more false_kind = false_kind
describes_kept more (atom_kind a small) = atom_kind a small
describes_kept more (implies_kind l r A B left right) = implies_kind l r A B (more l A left) (more r B right)
describes_kept more (next_kind l A left) = next_kind l A (more l A left)
describes_kept more (always_kind l A left) = always_kind l A (more l A left)

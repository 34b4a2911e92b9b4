-- What a plan's truths under a choice say of the formulas of marked entries.
use Rattle.std.proofs.Common.{◌≡◌, ℕ, zero, suc, ◌+◌, ◌^◌, ◌<◌, ◌≤◌, Bool, true, false, not, ◌||◌, ◌↔◌, IsTrue, List, length, get_or, Some, sym, refl, ap, ap₂, ◌∙◌, subst, arith}
use Rattle.std.specs.Prelude.{MatchBool}
use Rattle.std.specs.List.{slice_get}
use Rattle.std.proofs.lemmas.Bool.{both_ways, false≢true}
use Rattle.std.proofs.Math.Bool.{or_comm}
use Rattle.std.proofs.lemmas.List.{length-map}
use Rattle.std.proofs.lemmas.Option.{slice_get-get_or}
use Rattle.logic.specs.Formula.{Formula, falsum, atom, next, always}
use Rattle.logic.specs.Same.{same}
use Rattle.formulas.specs.declared.entry.Entry.{Entry}
use Rattle.formulas.specs.declared.entry.Entry.TheVariants.{False, Atom, Implies, Next, Always}
use Rattle.lists.specs.Adding.{Distinct, first_like}
use Rattle.formulas.specs.Decode.{formula_at}
use Rattle.formulas.proofs.Decoded.{formula_injective}
use Rattle.logic.proofs.Same.{same_tells}
use Rattle.lists.proofs.Members.{nth_within, some_same}
use Rattle.lists.proofs.Places.{first_like_only}
use Rattle.rows.specs.Row.{pack}
use Rattle.rows.proofs.Bits.{bit_pack, pack_lt}
use Rattle.calculus.specs.Tautology.{eval, Tautology}
use Rattle.calculus.specs.PrimeParts.{PrimePart}
use Rattle.calculus.proofs.Tautologies.{agreed}
use Rattle.tautologies.specs.declared.step.Step.{Step}
use Rattle.tautologies.specs.Gathering.{Entered, Gathered, Marked, formulas_at}
use Rattle.tautologies.specs.Planning.{place_of, Planned, Values}
use Rattle.tautologies.proofs.Chosen.{bit_if, chosen}
use Rattle.tautologies.proofs.Marks.{member_part, formula_is, lower_operands, distinct_formulas}
use Rattle.tautologies.proofs.Plans.{Simple}

module _ (es : List Entry) (entered : Entered es) (seen : List Bool) (parts : List ℕ) (g : Gathered es seen parts) (few : length parts ≤ 12) where
  -- no formula of a part stands twice
  formulas_once : Distinct (formulas_at es parts)
  formulas_once = distinct_formulas es entered parts (λ k n is. g.entered n (g.met k n is).0) g.once

  -- a formula that is true under each numbered choice is a tautology
  every_choice : (n : ℕ) → Marked seen n → ((v : ℕ) → v < 2 ^ length parts → eval (chosen (formulas_at es parts) v) (formula_at es n) ≡ true) → Tautology (formula_at es n)
  every_choice n m numbered w =
      let ps = formulas_at es parts in
      let f : ℕ → Bool = λ k. w (get_or ps k falsum) in
      let v : ℕ = pack (length parts) f in
      agreed (formula_at es n) (chosen ps v) w (λ X p.
      let is = g.gathered n m X p in
      let within = nth_within ps is.0 is.1 in
      let here : get_or ps is.0 falsum ≡ X = some_same (sym (slice_get-get_or ps is.0 falsum within) ∙ is.1) in
      sym (ap (bit_if v) (first_like_only same same_tells ps X formulas_once is.0 is.1) ∙ bit_pack (length parts) f is.0 (omega (arith, length-map parts (formula_at es))) ∙ ap w here))
      ∙ numbered v (pack_lt (length parts) f)

  module _ (steps : List Step) (places : List ℕ) (plan : Planned es seen parts steps places) where
    module _ (c : ℕ) (f : ℕ → Bool) (values : Values steps c f) where
      abbrev says : ℕ → Bool
      says n = eval (chosen (formulas_at es parts) c) (formula_at es n)

      -- at the place of a prime part is its truth
      part_told : (n : ℕ) → Marked seen n → Simple es n → (A : Formula) → formula_at es n ≡ A → PrimePart A A → ((v : Formula → Bool) → eval v A ≡ v A) → f (place_of places n) ≡ says n
      part_told n m simple A is own stands =
          let ps = formulas_at es parts in
          let has = g.gathered n m A (subst (λ (X : Formula). PrimePart X A) (sym is) own) in
          let part = member_part es parts has.0 has.1 in
          let one : part.0 ≡ n =
          formula_injective es entered.lower entered.distinct part.0 n (g.entered part.0 (g.met has.0 part.0 part.1).0) (g.entered n m) (part.2 ∙ sym is) in
          let at : slice_get parts has.0 ≡ Some n = subst (λ (k : ℕ). slice_get parts has.0 ≡ Some k) one part.1 in
          let stands_at : first_like same ps A ≡ Some has.0 = first_like_only same same_tells ps A formulas_once has.0 has.1 in
          ap f (plan.part_at has.0 n at simple)
          ∙ values.part has.0 (omega (arith, nth_within parts has.0 at))
          ∙ sym (stands (chosen ps c) ∙ ap (bit_if c) stands_at)
          ∙ ap (eval (chosen ps c)) (sym is)

      -- and at that of any marked entry, by those before it
      told_by : (n : ℕ) → Marked seen n → ((k : ℕ) → k < n → Marked seen k → f (place_of places k) ≡ says k) → (e : Entry) → get_or es n False ≡ e → f (place_of places n) ≡ says n
      told_by n m before False is = ap f (plan.false_at n m is) ∙ values.none ∙ sym (ap (eval (chosen (formulas_at es parts) c)) (formula_is es entered n (g.entered n m) False is))
      told_by n m before (Atom a) is =
          part_told n m (λ x y e. let wrong : ◌≡◌ {A = Entry} (Atom a) (Implies x y) = sym is ∙ e in cc) (atom a) (formula_is es entered n (g.entered n m) (Atom a) is) refl (λ w. refl)
      told_by n m before (Implies a b) is =
          let (j, at, has) = plan.step_at n a b (g.entered n m) m is in
          let both = g.closed n a b m is in
          let lower = lower_operands es entered n a b (g.entered n m) is in
          let left = before a lower.0 both.0 in
          let right = before b lower.1 both.1 in
          ap f at ∙ values.step j (record { left = place_of places a; right = place_of places b }) has
          ∙ ap₂ (λ x y. x || not y) right left
          ∙ or_comm (says b) (not (says a))
          ∙ sym (ap (eval (chosen (formulas_at es parts) c)) (formula_is es entered n (g.entered n m) (Implies a b) is))
      told_by n m before (Next a) is =
          part_told n m (λ x y e. let wrong : ◌≡◌ {A = Entry} (Next a) (Implies x y) = sym is ∙ e in cc) (next (formula_at es a)) (formula_is es entered n (g.entered n m) (Next a) is) refl (λ w. refl)
      told_by n m before (Always a) is =
          part_told n m (λ x y e. let wrong : ◌≡◌ {A = Entry} (Always a) (Implies x y) = sym is ∙ e in cc) (always (formula_at es a)) (formula_is es entered n (g.entered n m) (Always a) is) refl (λ w. refl)

      told : (bound n : ℕ) → n < bound → Marked seen n → f (place_of places n) ≡ says n
      told zero n h m = absurd (omega arith)
      told (suc bound) n h m = told_by n m (λ k l mk. told bound k (omega arith) mk) (get_or es n False) refl

    -- a formula whose place is true under all choices is a tautology, and one whose place is false under some choice is none
    pub judged : (n at : ℕ) → Marked seen n → at ≡ place_of places n → (b : Bool)
        → MatchBool b ((c : ℕ) → c < 2 ^ length parts → (f : ℕ → Bool) × Values steps c f × (f at ≡ true)) ((c : ℕ) × (f : ℕ → Bool) × Values steps c f × (f at ≡ false))
        → IsTrue b ↔ Tautology (formula_at es n)
    judged n at m is true all = (
      λ _. every_choice n m (λ v h. let (f, values, holds) = all v h in sym (told v f values (n + 1) n (omega arith) m) ∙ ap f (sym is) ∙ holds),
      λ _. refl,
    )
    judged n at m is false (c, f, values, fails) = (
      λ t. absurd (false≢true t),
      λ holds. absurd (both_ways (f at) fails (ap f is ∙ told c f values (n + 1) n (omega arith) m ∙ holds (chosen (formulas_at es parts) c))),
    )

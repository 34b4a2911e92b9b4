-- Where a case has the first lines of a derivation, it holds the next one.
use Rattle.std.proofs.Common.{◌≡◌, ℕ, suc, ◌≤◌, length, Some, None, Ok, Option, sym, ap, ◌∙◌, subst, ◌≢◌, inl, inr, arith}
use Rattle.std.specs.List.{slice_get}
use Rattle.std.proofs.lemmas.List.{length_push}
use Rattle.logic.specs.Formula.{Formula}
use Rattle.calculus.specs.PrimeParts.{prime_parts}
use Rattle.calculus.specs.declared.verdict.Verdict.TheVariants.{Admitted}
use Rattle.calculus.specs.Pages.{Page}
use Rattle.calculus.specs.Published.{published}
use Rattle.calculus.specs.Derivations.{DerivationLine, PremiseOf, no_premise as no_premise_of, on_earlier, Justified, by_assumption, by_rule, by_derived_rule, Derivation}
use Rattle.calculus.proofs.Exact.{published_exact, published_numbers, derived_exact, derived_numbers}
use Rattle.lists.proofs.Members.{some_same, nth_within, nth_there, nth_pushed}
use Rattle.model.specs.declared.line.Line.{Line}
use Rattle.model.specs.Case.{Case}
use Rattle.model.specs.Describes.{Number}
use Rattle.model.specs.Lines.{line_verdict, line}
use Rattle.model.specs.Outcomes.{Premise, no_premise, on_line, Stated, line_held}
use Rattle.model.specs.Entering.{Publishes, entered_as}
use Rattle.model.proofs.LineExactly.{page_verdict, assumption_line_admitted, stated_held}

module _ (D : Derivation) where
  -- a case has the first n lines of a derivation, and no others: each has the formula of the derivation's line with the same number
  pub record HasFirst (n : ℕ) (c : Case) : Type 0 where
    pub count : length c.lines ≡ n
    pub matches : (k : ℕ) (l : Line) → slice_get c.lines k ≡ Some l → (s : DerivationLine) × (slice_get D.steps k ≡ Some s) × Number c.formulas l.formula s.formula

  -- s is the line that comes next, its formula has the number f, and if it is an assumption of the derivation, then f is one of the case
  module _ {n : ℕ} {c : Case} (has : HasFirst n c) (s : DerivationLine) (is : slice_get D.steps n ≡ Some s) (f : ℕ) (numbered : Number c.formulas f s.formula)
      (assumed : (k : ℕ) → slice_get D.assumptions k ≡ Some s.formula → (j : ℕ) × (slice_get c.assumptions j ≡ Some f))
      (few : s.rule ≡ 1 → length (prime_parts s.formula) ≤ 12) where
    -- its premises are on lines of the case
    premise : {p : Option ℕ} {P : Option Formula} → PremiseOf D.steps n p P → Premise c p P
    premise no_premise_of = no_premise
    premise (on_earlier k t before there) =
        let l = nth_there c.lines k (omega (arith, has.count)) in
        let m = has.matches k l.0 l.1 in
        let same_step : m.0 ≡ t = some_same (sym m.1 ∙ there) in
        on_line k l.0 t.formula l.1 (subst (λ (u : DerivationLine). Number c.formulas l.0.formula u.formula) same_step m.2)

    -- so it is stated, and admitted if the page has the published verdict on its rule
    module _ (page : Page) (publishes : Publishes page s.rule) where
      record Admits : Type 0 where
        pub stated : Stated c (entered_as f s)
        pub admitted : line_verdict c page (entered_as f s) ≡ Admitted

      from_premises : {P Q : Option Formula} → PremiseOf D.steps n s.first P → PremiseOf D.steps n s.second Q → s.rule ≢ 0
          → page.verdict s.rule s.formula P Q ≡ Admitted → Admits
      from_premises {P = P} {Q = Q} first second other is =
          let stated : Stated c (entered_as f s) =
          record { formula = s.formula; numbered = numbered; first = P; first_is = premise first; second = Q; second_is = premise second } in
          record { stated = stated; admitted = page_verdict c page (entered_as f s) stated other ∙ is }

      justified_admits : Justified D.assumptions D.steps n s → Admits
      justified_admits (by_assumption rule first second k at) =
          let a = assumed k at in
          record {
            stated = record {
              formula = s.formula;
              numbered = numbered;
              first = None;
              first_is = subst (λ (p : Option ℕ). Premise c p None) (sym first) no_premise;
              second = None;
              second_is = subst (λ (p : Option ℕ). Premise c p None) (sym second) no_premise;
            };
            admitted = assumption_line_admitted c page (entered_as f s)
                (record { rule = rule; first = first; second = second; place = a.0; assumed = a.1 });
          }
      justified_admits (by_rule P Q first second gives) =
          let number = published_numbers gives in
          from_premises first second (λ zero. omega (arith, number.0))
          (ap (λ v. v s.formula P Q) (publishes.0 number.0 number.1) ∙ (published_exact s.rule s.formula P Q).1 (gives, few))
      justified_admits (by_derived_rule P Q first second derives) =
          let number = derived_numbers derives in
          from_premises first second (λ zero. omega (arith, number.0))
          (ap (λ v. v s.formula P Q) (publishes.1 number.0 number.1) ∙ ((derived_exact published s.rule s.formula P Q).0 number.0 number.1).0.1 derives)

      module _ (short : length D.steps ≤ 512) where
        pub next_held : line c page (entered_as f s) ≡ line_held c (entered_as f s)
        next_held =
            let a = justified_admits (D.justified n s is) in
            stated_held c page (entered_as f s) a.stated (omega (arith, has.count, nth_within D.steps n is)) a.admitted

        -- its number is the next one
        pub next_answers : (line c page (entered_as f s)).answer ≡ Ok n
        next_answers = ap (λ o. o.answer) next_held ∙ ap Ok has.count

        -- and the case has one more line of the derivation
        pub next_has_first : HasFirst (suc n) (line c page (entered_as f s)).after
        next_has_first = rw next_held (record {
          count = omega (arith, length_push c.lines (entered_as f s), has.count);
          matches = λ k l there. elim (nth_pushed c.lines (entered_as f s) k l there) [
            | inl old ↦ has.matches k l old
            | inr new ↦
                let at : n ≡ k = sym has.count ∙ new.0 in
                (s, sym (ap (slice_get D.steps) at) ∙ is, subst (λ (m : Line). Number c.formulas m.formula s.formula) new.1 numbered)
          ];
        })

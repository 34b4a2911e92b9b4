-- Under a page that says of a line's rule what the published page says, the line is held exactly when there is room and the calculus gives it.
use Rattle.std.proofs.Common.{◌≡◌, ℕ, ◌<◌, ◌≤◌, true, eqb, length, Some, Ok, Option, sym, refl, ap, ◌∙◌, ◌≢◌, arith}
use Rattle.std.specs.Option.{option_map}
use Rattle.std.proofs.lemmas.Bool.{cond_both, cond-true, cond-false, lt-ltb, and_from, eqb-true, eqb-false, eq-eqb, ne_eqb}
use Rattle.logic.specs.Formula.{Formula}
use Rattle.calculus.specs.declared.verdict.Verdict.{Verdict}
use Rattle.calculus.specs.declared.verdict.Verdict.TheVariants.{Admitted}
use Rattle.calculus.specs.Pages.{Verdicts, Page}
use Rattle.calculus.specs.Published.{published}
use Rattle.calculus.proofs.Exact.{published_exact, published_numbers}
use Rattle.formulas.specs.Forming.{numbered}
use Rattle.lists.proofs.Members.{nth_within}
use Rattle.model.specs.declared.line.Line.{Line}
use Rattle.model.specs.Case.{Case}
use Rattle.model.specs.Lines.{place_held, premise, assumption_verdict, line_verdict, line}
use Rattle.model.specs.Limits.{LinesEntered}
use Rattle.model.specs.Outcomes.{Premise, no_premise, on_line, Stated, StatesAssumption, line_held}
use Rattle.model.specs.Promises.{CalculusGives, as_assumption, by_its_rule, LineHeldExactly}
use Rattle.model.proofs.Describing.{numbered_is}
use Rattle.model.proofs.AssumptionLines.{assumption_admitted, assumption_admits}
use Rattle.model.proofs.LineGoes.{Allowed, line_allowed}
use Rattle.model.proofs.Checks.{line_judged_as}
use Rattle.model.proofs.LineRelation.{stated}

module _ (c : Case) where
  -- the place of a premise is held
  premise_held : {p : Option ℕ} {P : Option Formula} → Premise c p P → place_held c p ≡ true
  premise_held no_premise = refl
  premise_held (on_line k x A is number) = lt-ltb k (length c.lines) (nth_within c.lines k is)

  -- and the premise is what is read there
  premise_read : {p : Option ℕ} {P : Option Formula} → Premise c p P → premise c p ≡ P
  premise_read no_premise = refl
  premise_read (on_line k x A is number) =
      ap (option_map (λ (l : Line). numbered c.formulas l.formula)) is ∙ ap Some (numbered_is c.formulas x.formula A number)

  module _ (page : Page) (l : Line) where
    -- what a page says of what is read is what it says of what is stated
    says_of_stated : (s : Stated c l) (v : Verdicts)
        → v l.rule (numbered c.formulas l.formula) (premise c l.first) (premise c l.second) ≡ v l.rule s.formula s.first s.second
    says_of_stated s v = rw (numbered_is c.formulas l.formula s.formula s.numbered, premise_read s.first_is, premise_read s.second_is) refl

    -- where the line's rule is the page's, the verdict is the page's on what is stated
    pub page_verdict : (s : Stated c l) → l.rule ≢ 0 → line_verdict c page l ≡ page.verdict l.rule s.formula s.first s.second
    page_verdict s other = cond-false (eqb l.rule 0) _ _ (ne_eqb l.rule 0 other) ∙ says_of_stated s page.verdict

    -- and by rule 0 a line that states an assumption is admitted
    pub assumption_line_admitted : StatesAssumption c l → line_verdict c page l ≡ Admitted
    assumption_line_admitted a = cond-true (eqb l.rule 0) _ _ (eq-eqb l.rule 0 a.rule) ∙ assumption_admits c l a

    -- a stated line that is admitted is held, if there is room
    pub stated_held : Stated c l → length c.lines < 512 → line_verdict c page l ≡ Admitted → line c page l ≡ line_held c l
    stated_held s room admitted =
        let placed = and_from (place_held c l.first) (place_held c l.second) (premise_held s.first_is) (premise_held s.second_is) in
        line_judged_as c page l (nth_within c.formulas l.formula s.numbered) placed room Admitted admitted

    -- a line that the calculus gives is stated
    given_stated : CalculusGives c l → Stated c l
    given_stated (as_assumption s a) = s
    given_stated (by_its_rule s gives few) = s

    -- and it is admitted, if the page's verdicts on its rule are published
    given_admitted : (1 ≤ l.rule → l.rule ≤ 7 → page.verdict l.rule ≡ published l.rule) → CalculusGives c l → line_verdict c page l ≡ Admitted
    given_admitted publishes (as_assumption s a) = assumption_line_admitted a
    given_admitted publishes (by_its_rule s gives few) =
        let between = published_numbers gives in
        page_verdict s (λ zero. omega arith)
        ∙ ap (λ v. v s.formula s.first s.second) (publishes between.0 between.1)
        ∙ (published_exact l.rule s.formula s.first s.second).1 (gives, few)

    -- so that it is held, if there is room
    given_held : length c.lines < 512 → (1 ≤ l.rule → l.rule ≤ 7 → page.verdict l.rule ≡ published l.rule) → CalculusGives c l → line c page l ≡ line_held c l
    given_held room publishes given = stated_held (given_stated given) room (given_admitted publishes given)

    -- a stated line that is admitted is given
    admitted_given : (l.rule ≢ 0 → page.verdict l.rule ≡ published l.rule) → Stated c l → line_verdict c page l ≡ Admitted → CalculusGives c l
    admitted_given publishes s =
        cond_both (eqb l.rule 0) (assumption_verdict c l) _ (λ (v : Verdict). v ≡ Admitted → CalculusGives c l)
        (λ zero is. as_assumption s (assumption_admitted c l (eqb-true l.rule 0 zero) is))
        (λ other is.
        let admits = ap (λ v. v s.formula s.first s.second) (sym (publishes (eqb-false l.rule 0 other))) ∙ sym (says_of_stated s page.verdict) ∙ is in
        let g = (published_exact l.rule s.formula s.first s.second).0 admits in
        by_its_rule s g.0 g.1)

    -- a line that can be held is stated
    pub allowed_stated : LinesEntered c.formulas c.lines → Allowed c page l → Stated c l
    allowed_stated entered can = stated c entered page l can.entered can.placed

    allowed_given : LinesEntered c.formulas c.lines → (l.rule ≢ 0 → page.verdict l.rule ≡ published l.rule) → Allowed c page l → CalculusGives c l
    allowed_given entered publishes can = admitted_given publishes (allowed_stated entered can) can.admitted

pub line_held_exactly : LineHeldExactly
line_held_exactly c entered page l n publishes = (
  λ is. let p = line_allowed c page l n is in (p.0, p.1.room, allowed_given c page l entered publishes p.1),
  λ p. ap (λ o. o.answer) (given_held c page l p.1 (λ low _. publishes (λ zero. omega arith)) p.2) ∙ ap Ok (sym p.0),
)

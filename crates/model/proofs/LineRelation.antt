-- line does what its relation says.
use Rattle.std.proofs.Common.{◌≡◌, ℕ, ◌<◌, ◌≤◌, true, false, ◌&&◌, eqb, length, Some, None, Err, Option, sym, refl, ◌∙◌, subst, inl, inr}
use Rattle.std.proofs.lemmas.Bool.{cond_both, ltb-true, ltb-false, eqb-true, eqb-false, and_parts, and_from, cases_Bool, true≢false}
use Rattle.refusals.specs.declared.Refusal.TheVariants.{LineNotHeld}
use Rattle.calculus.specs.declared.verdict.Verdict.{Verdict}
use Rattle.calculus.specs.declared.verdict.Verdict.TheVariants.{Admitted, NotAdmitted, BeyondLimit}
use Rattle.calculus.specs.Pages.{Page}
use Rattle.formulas.specs.Forming.{numbered}
use Rattle.lists.proofs.Members.{nth_there}
use Rattle.model.specs.declared.line.Line.{Line}
use Rattle.model.specs.Case.{Case}
use Rattle.model.specs.Calls.{Outcome, unchanged}
use Rattle.model.specs.Lines.{place_held, premise, assumption_verdict, line_verdict, line_by}
use Rattle.model.specs.Limits.{LinesEntered}
use Rattle.model.specs.Outcomes.{Premise, no_premise, on_line, Stated, LineEnds, formula_not_entered, place_not_held, lines_full, assumption_line, no_assumption, page_admits, page_does_not_admit, page_beyond_limit}
use Rattle.model.specs.Promises.{LineExact}
use Rattle.model.proofs.Judged.{entered_number}
use Rattle.model.proofs.LineGoes.{Placed, LineGoes, unknown, unplaced, full, judged, line_goes}
use Rattle.model.proofs.AssumptionLines.{states, states_assumption, stated_tested}

-- a place that is not held is a number that no line has
pub unheld : (c : Case) (p : Option ℕ) → place_held c p ≡ false → (k : ℕ) × (p ≡ Some k) × (length c.lines ≤ k)
unheld c None is = absurd (true≢false is)
unheld c (Some k) is = (k, refl, ltb-false k (length c.lines) is)

module _ (c : Case) (entered : LinesEntered c.formulas c.lines) where
  -- a place that is held has a premise
  pub premise_is : (p : Option ℕ) → place_held c p ≡ true → Premise c p (premise c p)
  premise_is None held = no_premise
  premise_is (Some k) held =
      let x = nth_there c.lines k (ltb-true k (length c.lines) held) in
      rw x.1 (on_line k x.0 (numbered c.formulas x.0.formula) x.1 (entered_number c.formulas x.0.formula (entered k x.0 x.1)))

  module _ (page : Page) (l : Line) where
    -- a line with an entered formula and held places is stated
    pub stated : l.formula < length c.formulas → Placed c page l → Stated c l
    stated known placed =
        let p = and_parts (place_held c l.first) (place_held c l.second) placed in
        record {
          formula = numbered c.formulas l.formula;
          numbered = entered_number c.formulas l.formula known;
          first = premise c l.first;
          first_is = premise_is l.first p.0;
          second = premise c l.second;
          second_is = premise_is l.second p.1;
        }

    place_missing : l.formula < length c.formulas → (place_held c l.first && place_held c l.second) ≡ false → LineEnds c page l (unchanged c (Err LineNotHeld))
    place_missing known not_placed = elim (cases_Bool (place_held c l.first)) [
      | inr first ↦ let k = unheld c l.first first in place_not_held known k.0 (inl k.1) k.2
      | inl first ↦ elim (cases_Bool (place_held c l.second)) [
        | inr second ↦ let k = unheld c l.second second in place_not_held known k.0 (inr k.1) k.2
        | inl second ↦ absurd (true≢false (sym (and_from (place_held c l.first) (place_held c l.second) first second) ∙ not_placed))
      ]
    ]

    module _ (known : l.formula < length c.formulas) (placed : Placed c page l) (room : length c.lines < 512) where
      abbrev s : Stated c l
      s = stated known placed

      by_page : (eqb l.rule 0 ≡ false) → (v : Verdict) → page.verdict l.rule s.formula s.first s.second ≡ v → LineEnds c page l (line_by c l v)
      by_page other Admitted is = page_admits s room (eqb-false l.rule 0 other) is
      by_page other NotAdmitted is = page_does_not_admit s room (eqb-false l.rule 0 other) is
      by_page other BeyondLimit is = page_beyond_limit s room (eqb-false l.rule 0 other) is

      by_rule : LineEnds c page l (line_by c l (line_verdict c page l))
      unfolding stated
      by_rule =
          cond_both (eqb l.rule 0) (assumption_verdict c l) (page.verdict l.rule s.formula s.first s.second) (λ v. LineEnds c page l (line_by c l v))
          (λ zero. cond_both (states c l) Admitted NotAdmitted (λ v. LineEnds c page l (line_by c l v))
          (λ t. assumption_line s room (states_assumption c l (eqb-true l.rule 0 zero) t))
          (λ f. no_assumption s room (eqb-true l.rule 0 zero) (λ a. true≢false (sym (stated_tested c l a) ∙ f))))
          (λ other. by_page other (page.verdict l.rule s.formula s.first s.second) refl)

pub line_exact : LineExact
line_exact c entered page l = by (line_goes c page l)
  where
    by : {o : Outcome ℕ} → LineGoes c page l o → LineEnds c page l o
    by (unknown past) = formula_not_entered past
    by (unplaced known at) = place_missing c entered page l known at
    by (full known placed most) = lines_full (stated c entered page l known placed) most
    by (judged known placed room v is) = subst (λ u. LineEnds c page l (line_by c l u)) is (by_rule c entered page l known placed room)

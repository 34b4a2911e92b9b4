-- Rule 0 admits the lines that state an assumption, and no others.
use Rattle.std.proofs.Common.{◌≡◌, ℕ, Bool, true, false, ◌&&◌, eqb, Some, None, Option, refl, ap, is_some, is_none}
use Rattle.std.specs.List.{slice_get}
use Rattle.std.proofs.lemmas.Bool.{and_parts, and_from, cond_both, cond-true, false≢true}
use Rattle.calculus.specs.declared.verdict.Verdict.{Verdict}
use Rattle.calculus.specs.declared.verdict.Verdict.TheVariants.{Admitted, NotAdmitted, BeyondLimit}
use Rattle.lists.specs.Adding.{first_like}
use Rattle.lists.proofs.Places.{first_like_is, none_there}
use Rattle.lists.proofs.Places.{eqb_tells}
use Rattle.model.specs.declared.line.Line.{Line}
use Rattle.model.specs.Case.{Case}
use Rattle.model.specs.Lines.{assumption_verdict}
use Rattle.model.specs.Outcomes.{StatesAssumption}

no_place : (o : Option ℕ) → is_none o ≡ true → o ≡ None
no_place None is = refl
no_place (Some k) is = absurd (false≢true is)

a_place : (o : Option ℕ) → is_some o ≡ true → (k : ℕ) × (o ≡ Some k)
a_place None is = absurd (false≢true is)
a_place (Some k) is = (k, refl)

admits : Verdict → Bool
admits Admitted = true
admits NotAdmitted = false
admits BeyondLimit = false

pub not_admitted : NotAdmitted ≡ Admitted → ⊥
unfolding admits
not_admitted is = false≢true (ap admits is)

module _ (c : Case) (l : Line) where
  -- what rule 0 tests
  abbrev pub states : Bool
  states = is_none l.first && (is_none l.second && is_some (first_like eqb c.assumptions l.formula))

  pub states_assumption : l.rule ≡ 0 → states ≡ true → StatesAssumption c l
  states_assumption zero is =
      let p = and_parts (is_none l.first) (is_none l.second && is_some (first_like eqb c.assumptions l.formula)) is in
      let q = and_parts (is_none l.second) (is_some (first_like eqb c.assumptions l.formula)) p.1 in
      let k = a_place (first_like eqb c.assumptions l.formula) q.1 in
      record {
        rule = zero;
        first = no_place l.first p.0;
        second = no_place l.second q.0;
        place = k.0;
        assumed = first_like_is eqb eqb_tells c.assumptions l.formula k.0 k.1;
      }

  placed : (k : ℕ) → slice_get c.assumptions k ≡ Some l.formula → (o : Option ℕ) → first_like eqb c.assumptions l.formula ≡ o → is_some o ≡ true
  placed k is (Some j) found = refl
  placed k is None found = absurd (none_there eqb eqb_tells c.assumptions l.formula found k is)

  pub stated_tested : StatesAssumption c l → states ≡ true
  stated_tested s =
      and_from (is_none l.first) (is_none l.second && is_some (first_like eqb c.assumptions l.formula)) (ap is_none s.first)
      (and_from (is_none l.second) (is_some (first_like eqb c.assumptions l.formula)) (ap is_none s.second)
      (placed s.place s.assumed (first_like eqb c.assumptions l.formula) refl))

  pub assumption_admitted : l.rule ≡ 0 → assumption_verdict c l ≡ Admitted → StatesAssumption c l
  assumption_admitted zero =
      cond_both states Admitted NotAdmitted (λ (v : Verdict). v ≡ Admitted → StatesAssumption c l)
      (λ t _. states_assumption zero t) (λ _ is. absurd (not_admitted is))

  pub assumption_admits : StatesAssumption c l → assumption_verdict c l ≡ Admitted
  assumption_admits s = cond-true states Admitted NotAdmitted (stated_tested s)

-- The example case, its derivation and its runs meet the hypotheses of the promises.
use Rattle.std.proofs.Common.{◌≡◌, ℕ, zero, suc, ◌≤◌, ◌+◌, List, [], ◌∷◌, length, take, Some, None, refl, subst, arith}
use Rattle.std.specs.List.{slice_get}
use Rattle.logic.specs.Formula.{Formula, atom, implies, next}
use Rattle.formulas.specs.Forming.{form_answer, form_after}
use Rattle.lists.proofs.Members.{some_same, nth_within}
use Rattle.runs.specs.Pulses.{pulse_check}
use Rattle.runs.specs.Rules.{PulseRules}
use Rattle.runs.specs.Tables.{table_check, table_run}
use Rattle.runs.proofs.Checks.{pulse_ruled}
use Rattle.row_writer.specs.Searching.{first_false_from, first_failing}
use Rattle.calculus.specs.PrimeParts.{prime_parts}
use Rattle.calculus.specs.Rules.{taut, nex, ind}
use Rattle.calculus.specs.Published.{published}
use Rattle.calculus.specs.Derived.{derived}
use Rattle.calculus.specs.Derivations.{DerivationLine, Derivation, no_premise, on_earlier, Justified, by_assumption, by_rule}
use Rattle.calculus.proofs.Tautologies.{tautology}
use Rattle.model.specs.Calls as calls
use Rattle.model.specs.Lines as lines
use Rattle.model.specs.Judging as judging
use Rattle.model.specs.Describes.{Number, Describes, atom_kind, implies_kind, next_kind, always_kind}
use Rattle.model.specs.History.{sealed_stage, Assumed, Formed, HeldRefutation, refutation_last}
use Rattle.model.specs.Entering.{Ready, Entering, not_begun, next_line, WithinLimits}
use Rattle.model.proofs.Histories.{formulas_from, assumptions_from, limits_kept}
use Rattle.model.proofs.HeldLines.{lines_from, line_there}
use Rattle.model.proofs.HeldRefutations.{refutations_have_runs}
use Rattle.checker.specs.Checked.{program_page}
use Rattle.checker.proofs.Page.{page_publishes}
use Rattle.worked.specs.Example.{never, sealed, three_lines, example}
use Rattle.worked.proofs.Together.{◌also◌}
use Rattle.worked.specs.Hypotheses.{formulas, steps, two_pulses, HypothesesMet}

-- what holds of the members of a list one by one, by their numbers
abbrev Each : {X : Type 0} → (ℕ → X → Type 0) → List X → Type 0
Each P [] = Unit {0}
Each P (x ∷ xs) = P 0 x × Each (λ n. P (suc n)) xs

each : {X : Type 0} (P : ℕ → X → Type 0) (xs : List X) → Each P xs → (n : ℕ) (x : X) → slice_get xs n ≡ Some x → P n x
each P [] done n x is = absurd (omega (arith, nth_within [] n is))
each P (y ∷ ys) (p, rest) zero x is = subst (P 0) (some_same is) p
each P (y ∷ ys) (p, rest) (suc n) x is = each (λ k. P (suc k)) ys rest n x is

abbrev assumptions : List Formula
assumptions = implies (atom 0) (next (atom 0)) ∷ []

derivation : Derivation
derivation = record {
  assumptions = assumptions;
  steps = steps;
  justified =
      each (Justified assumptions steps) steps
      (by_rule None None no_premise no_premise (taut (implies (atom 0) (atom 0)) ((tautology (implies (atom 0) (atom 0))).0 refl))
      also by_assumption refl refl refl 0 refl
      also by_rule _ _ (on_earlier 0 _ (omega arith) refl) (on_earlier 1 _ (omega arith) refl) (ind (atom 0) (atom 0))
      also tt);
}

-- its one taut line has one prime part
few : (n : ℕ) (s : DerivationLine) → slice_get steps n ≡ Some s → s.rule ≡ 1 → length (prime_parts s.formula) ≤ 12
few =
    let one : length (prime_parts (implies (atom 0) (atom 0))) ≡ 1 = refl in
    each (λ n s. s.rule ≡ 1 → length (prime_parts s.formula) ≤ 12) steps
    ((λ _. omega (arith, one)) also (λ other. absurd (omega (arith, other))) also (λ other. absurd (omega (arith, other))) also tt)

ready : Ready derivation sealed
unfolding calls.form calls.assume form_answer form_after derivation
ready = record {
  no_lines = λ n l held. omega (arith, nth_within [] n (line_there sealed_stage sealed n l held));
  short = omega arith;
  few_parts = few;
  assumptions =
      each (λ k A. (j : ℕ) × (f : ℕ) × Assumed sealed_stage sealed j f × Formed sealed_stage sealed f A) assumptions
      ((0, 2, assumptions_from sealed_stage sealed 0 2 refl, formulas_from sealed_stage sealed 2 _ refl) also tt);
}

entering : Entering derivation sealed 3 three_lines
unfolding calls.form calls.assume form_answer form_after lines.line published derived derivation
entering =
    let first = next_line not_begun _ refl program_page (page_publishes.0 _) 3 (formulas_from sealed_stage _ 3 _ refl) in
    let second = next_line first _ refl program_page (page_publishes.0 _) 2 (formulas_from sealed_stage _ 2 _ refl) in
    next_line second _ refl program_page (page_publishes.0 _) 5 (formulas_from sealed_stage _ 5 _ refl)

within_limits : WithinLimits derivation formulas
unfolding calls.form calls.assume form_answer form_after derivation
within_limits = record {
  distinct = (limits_kept sealed_stage sealed).formulas_distinct;
  few = omega arith;
  parts_before =
      each (λ n A. (kind : ℕ) × (left : ℕ) × (right : ℕ) × Describes (take n formulas) kind left right A) formulas
      ((1, 0, 0, atom_kind 0 (omega arith))
      also (3, 0, 0, next_kind 0 _ refl)
      also (2, 0, 1, implies_kind 0 1 _ _ refl refl)
      also (2, 0, 0, implies_kind 0 0 _ _ refl refl)
      also (4, 0, 0, always_kind 0 _ refl)
      also (2, 0, 4, implies_kind 0 4 _ _ refl refl)
      also tt);
  has_lines = each (λ n s. (f : ℕ) × Number formulas f s.formula) steps ((3, refl) also (2, refl) also (5, refl) also tt);
  has_assumptions = each (λ k A. (f : ℕ) × Number formulas f A) assumptions ((2, refl) also tt);
  few_assumptions = omega arith;
  short = omega arith;
  few_parts = few;
}

held : HeldRefutation sealed_stage example 0 4 0 never
unfolding calls.form calls.assume form_answer form_after lines.line published derived judging.refute table_check table_run first_false_from first_failing
held = refutation_last refl

two_ruled : PulseRules two_pulses 2
unfolding pulse_check
two_ruled =
    let (n, rules) = (pulse_ruled two_pulses).0 refl in
    subst (PulseRules two_pulses) (omega (arith, rules.long)) rules

pub hypotheses_met : HypothesesMet
unfolding calls.form calls.assume form_answer form_after lines.line published derived judging.refute table_check table_run pulse_check first_false_from first_failing derivation
hypotheses_met = record {
  derivation_entered = (derivation, refl, ready, entering);
  derivation_within_limits = (derivation, refl, within_limits);
  page_publishes = page_publishes.0;
  premise_given = (nex _, λ i h. h);
  line_held = lines_from sealed_stage example 2 _ refl;
  line_formed = formulas_from sealed_stage example 5 _ refl;
  run_keeps_assumptions = (refutations_have_runs sealed_stage example 0 4 0 never held).0;
  refutation_held = held;
  refuted_formed = formulas_from sealed_stage example 4 _ refl;
  call_refused = refl;
  case_within_limits = limits_kept sealed_stage example;
  run_has_rows = let one : never.stem + never.loop ≡ 1 = refl in omega (arith, one);
  table_passes = refl;
  pulses_pass = refl;
  table_fails = refl;
  pulses_fail = refl;
  pulses_ruled = two_ruled;
  records_writable =
      record { kind_fits = omega arith; length_fits = omega arith; payload_bytes = omega arith also omega arith also tt }
      also record { kind_fits = omega arith; length_fits = omega arith; payload_bytes = tt }
      also tt;
}

-- What promises ask for can be had: the example case, its derivation and its runs meet their hypotheses.
use Rattle.std.specs.Prelude.{◌≡◌, ℕ, ◌≤◌, ◌+◌, List, [], ◌∷◌, Some, None, Ok, Err}
use Rattle.std.specs.List.{AllByRecursion}
use Rattle.logic.specs.Formula.{Formula, atom, implies, next, always}
use Rattle.formulas.specs.declared.refusal.FormRefusal.TheVariants.{UnknownKind}
use Rattle.refusals.specs.declared.Refusal.TheVariants.{Form}
use Rattle.runs.specs.declared.fault.RunFault.TheVariants.{WrongLength, NoRun}
use Rattle.runs.specs.Pulses.{pulse_check}
use Rattle.runs.specs.Rules.{PulseRules}
use Rattle.runs.specs.Tables.{table_check}
use Rattle.calculus.specs.Pages.{Given}
use Rattle.calculus.specs.Rules.{Gives}
use Rattle.calculus.specs.Derivations.{DerivationLine, Derivation}
use Rattle.model.specs.Case.{empty}
use Rattle.model.specs.History.{open_stage, sealed_stage, Refused, form, after, Formed, HeldLine, HeldRefutation}
use Rattle.model.specs.Entering.{Publishes, Ready, Entering, WithinLimits}
use Rattle.model.specs.Limits.{Limits}
use Rattle.model.specs.Promises.{KeepsAssumptions}
use Rattle.records.specs.WrittenRecords.{Writable}
use Rattle.checker.specs.Checked.{program_page}
use Rattle.worked.specs.Example.{never, sealed, three_lines, example}

-- the formulas of the example case, by number
abbrev pub formulas : List Formula
formulas =
    let v0 : Formula = atom 0 in
    v0 ∷ next v0 ∷ implies v0 (next v0) ∷ implies v0 v0 ∷ always v0 ∷ implies v0 (always v0) ∷ []

-- its derivation: a tautology, the assumption, and induction from both
abbrev pub steps : List DerivationLine
steps =
    let v0 : Formula = atom 0 in
    record { rule = 1; formula = implies v0 v0; first = None; second = None }
    ∷ record { rule = 0; formula = implies v0 (next v0); first = None; second = None }
    ∷ record { rule = 7; formula = implies v0 (always v0); first = Some 0; second = Some 1 }
    ∷ []

-- the bytes of two pulses, of the atoms 0 and 1, on a loop of two positions
abbrev pub two_pulses : List ℕ
two_pulses = 2 ∷ 0 ∷ 0 ∷ 0 ∷ 0 ∷ 0 ∷ 1 ∷ 0 ∷ 1 ∷ 0 ∷ 1 ∷ 0 ∷ 0 ∷ 0 ∷ 2 ∷ 0 ∷ 1 ∷ 0 ∷ []

pub record HypothesesMet : Type 0 where
  -- of `DerivationsHeld`: a derivation, a case that is ready for it, and its lines entered there, under a page that publishes
  pub derivation_entered : (D : Derivation) × (D.steps ≡ steps) × Ready D sealed × Entering D sealed 3 three_lines
  -- of `DerivationsCanBeEntered`
  pub derivation_within_limits : (D : Derivation) × (D.steps ≡ steps) × WithinLimits D formulas
  pub page_publishes : (rule : ℕ) → Publishes program_page rule
  -- of `RulesKeepLaw` and a page's law: a rule with a premise, and a run on which the premise holds throughout
  pub premise_given : Gives 6 (next (implies (atom 0) (atom 0))) (Some (implies (atom 0) (atom 0))) None × Given never (Some (implies (atom 0) (atom 0)))
  -- of `HeldLinesTrue`, and of `NeverBoth` what concerns the line
  pub line_held : HeldLine sealed_stage example 2 (record { rule = 7; formula = 5; first = Some 0; second = Some 1 })
  pub line_formed : Formed sealed_stage example 5 (implies (atom 0) (always (atom 0)))
  pub run_keeps_assumptions : KeepsAssumptions sealed_stage example never
  -- of `RefutationsHaveRuns`, and of `NeverBoth` what concerns the refutation; both at once no case has, as that promise says
  pub refutation_held : HeldRefutation sealed_stage example 0 4 0 never
  pub refuted_formed : Formed sealed_stage example 4 (always (atom 0))
  -- of `RefusalsChangeNothing`
  pub call_refused : Refused {s = open_stage} empty (form 5 0 0) (Form UnknownKind)
  -- of `LineExact`, `LineHeldExactly`, `RefuteExact` and `RefutationHeldExactly`, on a case that has all it can have
  pub case_within_limits : Limits (after example)
  -- of `RowsTell`
  pub run_has_rows : never.stem + never.loop ≤ 256
  -- of `TablesAsGiven`, `PulsesAllAlong` and `SilentOtherwise`: bytes that give a run, and bytes that give none
  pub table_passes : table_check (1 ∷ 0 ∷ 1 ∷ 0 ∷ 1 ∷ 0 ∷ 0 ∷ 0 ∷ 0 ∷ 0 ∷ 0 ∷ 0 ∷ []) ≡ Ok tt
  pub pulses_pass : pulse_check two_pulses ≡ Ok tt
  pub table_fails : table_check [] ≡ Err WrongLength
  pub pulses_fail : pulse_check (0 ∷ 0 ∷ []) ≡ Err NoRun
  pub pulses_ruled : PulseRules two_pulses 2
  -- of `RecordsReadBack`
  pub records_writable : AllByRecursion Writable (record { kind = 2; payload = 255 ∷ 0 ∷ [] } ∷ record { kind = 3; payload = [] } ∷ [])

-- What the calls do, as relations: one case of each for every way that a call can end.
use Rattle.std.specs.Prelude.{◌≡◌, ℕ, ◌+◌, ◌*◌, ◌<◌, ◌≤◌, Bool, true, false, ◌⊎◌, List, [], ◌∷◌, ◌++◌, length, Some, None, Ok, Err, Option, ◌≢◌}
use Rattle.std.specs.List.{slice_get}
use Rattle.formulas.specs.declared.refusal.FormRefusal.TheVariants.{UnknownKind, BadField, FormulasFull}
use Rattle.refusals.specs.declared.Refusal.{Refusal}
use Rattle.refusals.specs.declared.Refusal.TheVariants.{Form, NotEntered, AssumptionsFull, LineNotHeld, LinesFull, NotAdmitted as NotAdmittedRefusal, BeyondLimit as BeyondLimitRefusal, RunTooLong, PastRun, ScratchTooShort, AssumptionFalse, FormulaTrue, RefutationsFull}
use Rattle.logic.specs.Formula.{Formula}
use Rattle.logic.specs.Run.{Run}
use Rattle.logic.specs.Truth.{Holds, Throughout}
use Rattle.calculus.specs.declared.verdict.Verdict.TheVariants.{Admitted, NotAdmitted, BeyondLimit}
use Rattle.calculus.specs.Pages.{Page}
use Rattle.row_writer.specs.RowsAlong.{with_rows}
use Rattle.model.specs.declared.line.Line.{Line}
use Rattle.model.specs.Case.{Case}
use Rattle.model.specs.Calls.{Outcome, unchanged}
use Rattle.model.specs.Describes.{Number, Describes}
use Rattle.model.specs.Breaking.{Assumes, Keeps, Breaks}

-- x is nowhere in a list
abbrev pub Absent : {X : Type 0} → List X → X → Type 0
Absent xs x = (k : ℕ) → slice_get xs k ≢ Some x

-- form: the kind is above 4; the fields describe no formula; or they describe one, which is there, is new and finds the list full, or is new and entered
pub data FormEnds (c : Case) (kind left right : ℕ) : Outcome ℕ → Type 0 where
  unknown_kind : 4 < kind → FormEnds c kind left right (unchanged c (Err (Form UnknownKind)))
  bad_field : kind ≤ 4 → ((A : Formula) → Describes c.formulas kind left right A → ⊥) → FormEnds c kind left right (unchanged c (Err (Form BadField)))
  formula_there : (A : Formula) → Describes c.formulas kind left right A → (n : ℕ) → slice_get c.formulas n ≡ Some A → FormEnds c kind left right (unchanged c (Ok n))
  formulas_full : (A : Formula) → Describes c.formulas kind left right A → Absent c.formulas A → 1024 ≤ length c.formulas → FormEnds c kind left right (unchanged c (Err (Form FormulasFull)))
  formula_entered : (A : Formula) → Describes c.formulas kind left right A → Absent c.formulas A → length c.formulas < 1024
      → FormEnds c kind left right (record { answer = Ok (length c.formulas); after = record c { formulas = c.formulas ++ A ∷ [] } })

-- assume: the formula is not entered; or it is, and is assumed already, is new and finds the list full, or is new and assumed
pub data AssumeEnds (c : Case) (f : ℕ) : Outcome ℕ → Type 0 where
  not_entered : length c.formulas ≤ f → AssumeEnds c f (unchanged c (Err NotEntered))
  assumption_there : f < length c.formulas → (k : ℕ) → slice_get c.assumptions k ≡ Some f → AssumeEnds c f (unchanged c (Ok k))
  assumptions_full : f < length c.formulas → Absent c.assumptions f → 16 ≤ length c.assumptions → AssumeEnds c f (unchanged c (Err AssumptionsFull))
  newly_assumed : f < length c.formulas → Absent c.assumptions f → length c.assumptions < 16
      → AssumeEnds c f (record { answer = Ok (length c.assumptions); after = record c { assumptions = c.assumptions ++ f ∷ [] } })

-- a place is empty and there is no premise, or it is the number of a held line and the premise is its formula
pub data Premise (c : Case) : Option ℕ → Option Formula → Type 0 where
  no_premise : Premise c None None
  on_line : (k : ℕ) (l : Line) (A : Formula) → slice_get c.lines k ≡ Some l → Number c.formulas l.formula A → Premise c (Some k) (Some A)

-- a line can be asked about: its formula is entered, and its places give premises
pub record Stated (c : Case) (l : Line) : Type 0 where
  pub formula : Formula
  pub numbered : Number c.formulas l.formula formula
  pub first : Option Formula
  pub first_is : Premise c l.first first
  pub second : Option Formula
  pub second_is : Premise c l.second second

-- a line states one of the assumptions, by rule 0 and with empty places
pub record StatesAssumption (c : Case) (l : Line) : Type 0 where
  pub rule : l.rule ≡ 0
  pub first : l.first ≡ None
  pub second : l.second ≡ None
  pub place : ℕ
  pub assumed : slice_get c.assumptions place ≡ Some l.formula

-- the line is held, after those that are
abbrev pub line_held : Case → Line → Outcome ℕ
line_held c l = record { answer = Ok (length c.lines); after = record c { lines = c.lines ++ l ∷ [] } }

-- line: the formula is not entered, or a place is a line's number that is not held; or the line is stated, and 512 are held; or there is room, and it states an assumption by rule 0 or does not, or by another rule the page's verdict on it is one of three
pub data LineEnds (c : Case) (page : Page) (l : Line) : Outcome ℕ → Type 0 where
  formula_not_entered : length c.formulas ≤ l.formula → LineEnds c page l (unchanged c (Err NotEntered))
  place_not_held : l.formula < length c.formulas → (k : ℕ) → (l.first ≡ Some k) ⊎ (l.second ≡ Some k) → length c.lines ≤ k → LineEnds c page l (unchanged c (Err LineNotHeld))
  lines_full : Stated c l → 512 ≤ length c.lines → LineEnds c page l (unchanged c (Err LinesFull))
  assumption_line : Stated c l → length c.lines < 512 → StatesAssumption c l → LineEnds c page l (line_held c l)
  no_assumption : Stated c l → length c.lines < 512 → l.rule ≡ 0 → (StatesAssumption c l → ⊥) → LineEnds c page l (unchanged c (Err NotAdmittedRefusal))
  page_admits : (s : Stated c l) → length c.lines < 512 → l.rule ≢ 0 → page.verdict l.rule s.formula s.first s.second ≡ Admitted → LineEnds c page l (line_held c l)
  page_does_not_admit : (s : Stated c l) → length c.lines < 512 → l.rule ≢ 0 → page.verdict l.rule s.formula s.first s.second ≡ NotAdmitted
      → LineEnds c page l (unchanged c (Err NotAdmittedRefusal))
  page_beyond_limit : (s : Stated c l) → length c.lines < 512 → l.rule ≢ 0 → page.verdict l.rule s.formula s.first s.second ≡ BeyondLimit
      → LineEnds c page l (unchanged c (Err BeyondLimitRefusal))

-- a formula can be judged: it is entered, its run has at most 256 positions and this one among them, and there are words for all rows
pub record Judgeable (c : Case) (r : Run) (f i : ℕ) (words : ℕ) : Type 0 where
  pub entered : f < length c.formulas
  pub short : r.stem + r.loop ≤ 256
  pub within : i < r.stem + r.loop
  pub room : 4 * length c.formulas ≤ words

-- or it cannot, for the first of these reasons
pub data Unjudgeable (c : Case) (r : Run) (f i : ℕ) (words : ℕ) : Refusal → Type 0 where
  formula_unknown : length c.formulas ≤ f → Unjudgeable c r f i words NotEntered
  run_too_long : f < length c.formulas → 256 < r.stem + r.loop → Unjudgeable c r f i words RunTooLong
  past_run : f < length c.formulas → r.stem + r.loop ≤ 256 → r.stem + r.loop ≤ i → Unjudgeable c r f i words PastRun
  scratch_too_short : f < length c.formulas → r.stem + r.loop ≤ 256 → i < r.stem + r.loop → words < 4 * length c.formulas
      → Unjudgeable c r f i words ScratchTooShort

-- truth: the formula cannot be judged; or it can, and it holds at the position, or it does not. Here and below, `words` is the scratch before the call, and the list that follows the outcome is the scratch afterwards
pub data TruthEnds (c : Case) (r : Run) (f i : ℕ) (words : List ℕ) : Outcome Bool → List ℕ → Type 0 where
  not_told : (e : Refusal) → Unjudgeable c r f i (length words) e → TruthEnds c r f i words (unchanged c (Err e)) words
  told_true : Judgeable c r f i (length words) → (A : Formula) → Number c.formulas f A → Holds r A i
      → TruthEnds c r f i words (unchanged c (Ok true)) (with_rows r c.formulas words)
  told_false : Judgeable c r f i (length words) → (A : Formula) → Number c.formulas f A → (Holds r A i → ⊥)
      → TruthEnds c r f i words (unchanged c (Ok false)) (with_rows r c.formulas words)

-- the assumption at place k is the first that does not hold throughout the run, and j is the first position at which it does not hold
pub record FirstFailure (c : Case) (r : Run) (k j : ℕ) : Type 0 where
  pub formula : Formula
  pub assumed : Assumes c.formulas c.assumptions k formula
  pub position : j < r.stem + r.loop
  pub fails : Holds r formula j → ⊥
  pub before : (i : ℕ) → i < j → Holds r formula i
  pub earlier : (m : ℕ) (A : Formula) → m < k → Assumes c.formulas c.assumptions m A → Throughout r A

-- refute: the formula cannot be judged; or it can, and 64 refutations are held; or there is room, and an assumption fails, or all hold and so does the formula, or the run breaks it
pub data RefuteEnds (c : Case) (r : Run) (f i : ℕ) (words : List ℕ) : Outcome ℕ → List ℕ → Type 0 where
  not_judged : (e : Refusal) → Unjudgeable c r f i (length words) e → RefuteEnds c r f i words (unchanged c (Err e)) words
  refutations_full : Judgeable c r f i (length words) → 64 ≤ length c.refutations → RefuteEnds c r f i words (unchanged c (Err RefutationsFull)) words
  assumption_fails : Judgeable c r f i (length words) → length c.refutations < 64 → (k j : ℕ) → FirstFailure c r k j
      → RefuteEnds c r f i words (unchanged c (Err (AssumptionFalse k j))) (with_rows r c.formulas words)
  formula_holds : Judgeable c r f i (length words) → length c.refutations < 64 → Keeps c.formulas c.assumptions r
      → (A : Formula) → Number c.formulas f A → Holds r A i
      → RefuteEnds c r f i words (unchanged c (Err FormulaTrue)) (with_rows r c.formulas words)
  newly_held : Judgeable c r f i (length words) → length c.refutations < 64 → Breaks c.formulas c.assumptions r f i
      → RefuteEnds c r f i words
      (record { answer = Ok (length c.refutations); after = record c { refutations = c.refutations ++ record { formula = f; position = i } ∷ [] } })
      (with_rows r c.formulas words)

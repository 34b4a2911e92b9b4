-- What holds of every case, and after every history of calls.
use Rattle.std.specs.Prelude.{◌≡◌, ℕ, ◌+◌, ◌*◌, ◌<◌, ◌≤◌, true, ◌↔◌, List, length, drop, Some, Ok, Err, Result, ◌≢◌}
use Rattle.std.specs.List.{slice_get}
use Rattle.refusals.specs.declared.Refusal.{Refusal}
use Rattle.refusals.specs.declared.Refusal.TheVariants.{NotEntered, LineNotHeld, ScratchTooShort, RefutationNotHeld}
use Rattle.logic.specs.Formula.{Formula}
use Rattle.logic.specs.Run.{Run}
use Rattle.logic.specs.Truth.{Holds, Throughout}
use Rattle.calculus.specs.PrimeParts.{prime_parts}
use Rattle.calculus.specs.Rules.{Gives}
use Rattle.calculus.specs.Pages.{Page}
use Rattle.calculus.specs.Published.{published}
use Rattle.model.specs.StandardPages.{published_page}
use Rattle.calculus.specs.Derivations.{DerivationLine, Derivation}
use Rattle.formulas.specs.declared.entry.Entry.{Entry}
use Rattle.formulas.specs.Entries.{kind_of, left_of, right_of}
use Rattle.row_writer.specs.RowsAlong.{with_rows, row_says}
use Rattle.model.specs.declared.line.Line.{Line}
use Rattle.model.specs.declared.standing.Standing.{Standing}
use Rattle.model.specs.declared.standing.Standing.TheVariants.{Derived, Refuted, Open}
use Rattle.model.specs.Case.{Case}
use Rattle.model.specs.Calls as calls
use Rattle.model.specs.Lines as lines
use Rattle.model.specs.Judging as judging
use Rattle.model.specs.Describes.{Number, Describes}
use Rattle.model.specs.Breaking.{Breaks}
use Rattle.model.specs.Outcomes.{FormEnds, AssumeEnds, Stated, StatesAssumption, LineEnds, Judgeable, TruthEnds, RefuteEnds}
use Rattle.model.specs.Reads.{counts_of, entry_in, assumption_in, line_in, refutation_in, standing_in}
use Rattle.model.specs.History.{Stage, sealed_stage, Call, History, after_call, Refused, after, Formed, Assumed, HeldLine, HeldRefutation}
use Rattle.model.specs.Limits.{AssumptionsEntered, LinesEntered, Limits}
use Rattle.model.specs.Entering.{Publishes, Ready, entered_as, Entering, WithinLimits}

-- form does what the relation says, on every case
abbrev pub FormExact : Type 0
FormExact = (c : Case) (kind left right : ℕ) → FormEnds c kind left right (calls.form c kind left right)

-- assume does what the relation says, on every case
abbrev pub AssumeExact : Type 0
AssumeExact = (c : Case) (f : ℕ) → AssumeEnds c f (calls.assume c f)

-- line does what the relation says, on every case whose lines have entered formulas, as after all histories
abbrev pub LineExact : Type 0
LineExact = (c : Case) → LinesEntered c.formulas c.lines → (page : Page) (l : Line) → LineEnds c page l (lines.line c page l)

-- the calculus gives a line: it states an assumption by rule 0, or its rule gives its formula from those on the lines at its places, a tautology if it has at most twelve prime parts
pub data CalculusGives (c : Case) (l : Line) : Type 0 where
  as_assumption : Stated c l → StatesAssumption c l → CalculusGives c l
  by_its_rule : (s : Stated c l) → Gives l.rule s.formula s.first s.second → (l.rule ≡ 1 → length (prime_parts s.formula) ≤ 12) → CalculusGives c l

-- under a page that says of the line's rule what the published page says, a line is held exactly when there is room and the calculus gives it; its number is the next one
abbrev pub LineHeldExactly : Type 0
LineHeldExactly = (c : Case) → LinesEntered c.formulas c.lines → (page : Page) (l : Line) (n : ℕ) → (l.rule ≢ 0 → page.verdict l.rule ≡ published l.rule)
    → ((lines.line c page l).answer ≡ Ok n) ↔ ((n ≡ length c.lines) × (length c.lines < 512) × CalculusGives c l)

-- truth does what the relation says, on every case
abbrev pub TruthExact : Type 0
TruthExact = (c : Case) (r : Run) (f i : ℕ) (words : List ℕ)
    → TruthEnds c r f i words (judging.truth c r f i (length words)) (judging.truth_scratch c r f i words)

-- refute does what the relation says, on every case whose assumptions are entered, as after all histories
abbrev pub RefuteExact : Type 0
RefuteExact = (c : Case) → AssumptionsEntered c.formulas c.assumptions → (r : Run) (f i : ℕ) (words : List ℕ)
    → RefuteEnds c r f i words (judging.refute c r f i (length words)) (judging.refute_scratch c r f i words)

-- a refutation is held exactly when it can be judged, there is room, and the run keeps the assumptions and breaks the formula; its number is the next one
abbrev pub RefutationHeldExactly : Type 0
RefutationHeldExactly = (c : Case) → AssumptionsEntered c.formulas c.assumptions → (r : Run) (f i n m : ℕ)
    → ((judging.refute c r f i n).answer ≡ Ok m)
    ↔ ((m ≡ length c.refutations) × (length c.refutations < 64) × Judgeable c r f i n × Breaks c.formulas c.assumptions r f i)

-- once rows are written, the row of each formula is true just at the positions up to the loop's end where the formula holds
abbrev pub RowsTell : Type 0
RowsTell = (r : Run) (fs : List Formula) (words : List ℕ) (f i : ℕ) (A : Formula) → r.stem + r.loop ≤ 256 → Number fs f A
    → (row_says (with_rows r fs words) f i ≡ true) ↔ ((i < r.stem + r.loop) × Holds r A i)

-- and the words after the rows are as they were
abbrev pub RestStays : Type 0
RestStays = (r : Run) (fs : List Formula) (words : List ℕ) → drop (4 * length fs) (with_rows r fs words) ≡ drop (4 * length fs) words

-- a refused call changes nothing of the case
abbrev pub RefusalsChangeNothing : Type 0
RefusalsChangeNothing = (s : Stage) (c : Case) (x : Call s) (e : Refusal) → Refused c x e → after_call c x ≡ c

-- after every history, the formulas are those that form answered a number for, by these numbers
abbrev pub FormulasFormed : Type 0
FormulasFormed = (s : Stage) (h : History s) (n : ℕ) (A : Formula) → Number (after h).formulas n A ↔ Formed s h n A

-- after every history, the assumptions are the formulas that assume answered a place for, at these places
abbrev pub AssumptionsAssumed : Type 0
AssumptionsAssumed = (s : Stage) (h : History s) (k f : ℕ) → (assumption_in (after h) k ≡ Some f) ↔ Assumed s h k f

-- after every history, the lines are those that line answered a number for, by these numbers, and reading any other is refused
abbrev pub LinesHeld : Type 0
LinesHeld = (s : Stage) (h : History s) (n : ℕ)
    → ((l : Line) → (line_in (after h) n ≡ Ok l) ↔ HeldLine s h n l)
    × ((line_in (after h) n ≡ Err LineNotHeld) ↔ ((l : Line) → HeldLine s h n l → ⊥))

-- after a history, a run keeps the assumptions: each formula that assume answered a place for holds at every position
abbrev pub KeepsAssumptions : (s : Stage) → History s → Run → Type 0
KeepsAssumptions s h r = (k f : ℕ) (A : Formula) → Assumed s h k f → Formed s h f A → Throughout r A

-- after every history, each held line's formula holds at every position of every looped run that keeps the assumptions
abbrev pub HeldLinesTrue : Type 0
HeldLinesTrue = (s : Stage) (h : History s) (n : ℕ) (l : Line) (A : Formula) → HeldLine s h n l → Formed s h l.formula A
    → (r : Run) → KeepsAssumptions s h r → Throughout r A

-- after every history, no formula stands both on a held line and on a held refutation
abbrev pub NeverBoth : Type 0
NeverBoth = (s : Stage) (h : History s) (n m f i : ℕ) (l : Line) (r : Run) (A : Formula)
    → HeldLine s h n l → Formed s h l.formula A → HeldRefutation s h m f i r → Formed s h f A → ⊥

-- entered in order, each line under a page with the published verdict on its rule, and with other calls in between, a derivation that a case is ready for is held whole: by whichever number of its formula the next line is entered, line n answers n
abbrev pub DerivationsHeld : Type 0
DerivationsHeld = (D : Derivation) (h : History sealed_stage) → Ready D h → (n : ℕ) (g : History sealed_stage) → Entering D h n g
    → (s : DerivationLine) → slice_get D.steps n ≡ Some s → (f : ℕ) → Formed sealed_stage g f s.formula
    → (page : Page) → Publishes page s.rule → (lines.line (after g) page (entered_as f s)).answer ≡ Ok n

-- so where its first m lines were entered, each of the m is a held line, by its number
abbrev pub EnteredHeld : Type 0
EnteredHeld = (D : Derivation) (h : History sealed_stage) → Ready D h → (m : ℕ) (g : History sealed_stage) → Entering D h m g
    → (n : ℕ) (s : DerivationLine) → n < m → slice_get D.steps n ≡ Some s → (f : ℕ) × Formed sealed_stage g f s.formula × HeldLine sealed_stage g n (entered_as f s)

-- derivations by the rules 0 to 7 may be entered under the published page
abbrev pub PublishedPagePublishes : Type 0
PublishedPagePublishes = (rule : ℕ) → rule ≤ 7 → Publishes published_page rule

-- and a derivation that keeps to the limits of a case can be entered: there is a history that makes a case ready for it, and a longer one which enters all its lines under a given page with the published verdicts on their rules, so that each is held by its number
abbrev pub DerivationsCanBeEntered : Type 0
DerivationsCanBeEntered = (D : Derivation) (fs : List Formula) → WithinLimits D fs
    → (page : Page) → ((n : ℕ) (s : DerivationLine) → slice_get D.steps n ≡ Some s → Publishes page s.rule)
    → (h : History sealed_stage) × Ready D h
    × (g : History sealed_stage) × Entering D h (length D.steps) g
    × ((n : ℕ) (s : DerivationLine) → slice_get D.steps n ≡ Some s → (f : ℕ) × Formed sealed_stage g f s.formula × HeldLine sealed_stage g n (entered_as f s))

-- after every history, the refutations are those that refute answered a number for, by these numbers, and reading any other is refused
abbrev pub RefutationsHeld : Type 0
RefutationsHeld = (s : Stage) (h : History s) (n : ℕ)
    → ((f i : ℕ) → (refutation_in (after h) n ≡ Ok (record { formula = f; position = i })) ↔ ((r : Run) × HeldRefutation s h n f i r))
    × ((refutation_in (after h) n ≡ Err RefutationNotHeld) ↔ ((f i : ℕ) (r : Run) → HeldRefutation s h n f i r → ⊥))

-- and the run that a refutation was held with keeps the assumptions, and makes the formula false at the position
abbrev pub RefutationsHaveRuns : Type 0
RefutationsHaveRuns = (s : Stage) (h : History s) (n f i : ℕ) (r : Run) → HeldRefutation s h n f i r
    → KeepsAssumptions s h r × ((A : Formula) × Formed s h f A) × ((A : Formula) → Formed s h f A → Holds r A i → ⊥)

-- the counts are above just those numbers and places
abbrev pub CountsTell : Type 0
CountsTell = (s : Stage) (h : History s) (n : ℕ)
    → ((n < (counts_of (after h)).formulas) ↔ ((A : Formula) × Formed s h n A))
    × ((n < (counts_of (after h)).assumptions) ↔ ((f : ℕ) × Assumed s h n f))
    × ((n < (counts_of (after h)).lines) ↔ ((l : Line) × HeldLine s h n l))
    × ((n < (counts_of (after h)).refutations) ↔ ((f : ℕ) × (i : ℕ) × (r : Run) × HeldRefutation s h n f i r))

-- after every history, this many scratch words are enough for truth and refute
abbrev pub ScratchSuffices : ℕ → Type 0
ScratchSuffices most = (s : Stage) (h : History s) (r : Run) (f i n : ℕ) → most ≤ n
    → ((judging.truth (after h) r f i n).answer ≢ Err ScratchTooShort) × ((judging.refute (after h) r f i n).answer ≢ Err ScratchTooShort)

-- how a formula stands after a history: it is not entered; it is derived, by its first line; it is refuted, by its first refutation; or it has neither and is open
pub data Stands (s : Stage) (h : History s) (f : ℕ) : Result Standing Refusal → Type 0 where
  not_entered : ((A : Formula) → Formed s h f A → ⊥) → Stands s h f (Err NotEntered)
  derived_first : (A : Formula) → Formed s h f A → (n : ℕ) (l : Line) → HeldLine s h n l → l.formula ≡ f
      → ((m : ℕ) (k : Line) → m < n → HeldLine s h m k → k.formula ≢ f) → Stands s h f (Ok (Derived n))
  refuted_first : (A : Formula) → Formed s h f A → ((m : ℕ) (k : Line) → HeldLine s h m k → k.formula ≢ f)
      → (n i : ℕ) (r : Run) → HeldRefutation s h n f i r → ((m j : ℕ) (q : Run) → m < n → HeldRefutation s h m f j q → ⊥) → Stands s h f (Ok (Refuted n))
  still_open : (A : Formula) → Formed s h f A → ((m : ℕ) (k : Line) → HeldLine s h m k → k.formula ≢ f)
      → ((m j : ℕ) (q : Run) → HeldRefutation s h m f j q → ⊥) → Stands s h f (Ok Open)

-- after every history, standing tells how a formula stands
abbrev pub StandingTells : Type 0
StandingTells = (s : Stage) (h : History s) (f : ℕ) → Stands s h f (standing_in (after h) f)

-- the entry that is read for a number describes the formula that form answered the number for
abbrev pub EntriesTell : Type 0
EntriesTell = (s : Stage) (h : History s) (n : ℕ) (e : Entry)
    → (entry_in (after h) n ≡ Some e) ↔ ((A : Formula) × Formed s h n A × Describes (after h).formulas (kind_of e) (left_of e) (right_of e) A)

-- every history keeps to the limits of a case
abbrev pub LimitsKept : Type 0
LimitsKept = (s : Stage) (h : History s) → Limits (after h)

-- all of these
pub record Promises : Type 0 where
  pub form_exact : FormExact
  pub assume_exact : AssumeExact
  pub line_exact : LineExact
  pub line_held_exactly : LineHeldExactly
  pub truth_exact : TruthExact
  pub refute_exact : RefuteExact
  pub refutation_held_exactly : RefutationHeldExactly
  pub rows_tell : RowsTell
  pub rest_stays : RestStays
  pub refusals_change_nothing : RefusalsChangeNothing
  pub formulas_formed : FormulasFormed
  pub assumptions_assumed : AssumptionsAssumed
  pub lines_held : LinesHeld
  pub held_lines_true : HeldLinesTrue
  pub never_both : NeverBoth
  pub derivations_held : DerivationsHeld
  pub entered_held : EnteredHeld
  pub published_page_publishes : PublishedPagePublishes
  pub derivations_can_be_entered : DerivationsCanBeEntered
  pub refutations_held : RefutationsHeld
  pub refutations_have_runs : RefutationsHaveRuns
  pub counts_tell : CountsTell
  pub standing_tells : StandingTells
  pub scratch_suffices : ScratchSuffices 4096
  pub entries_tell : EntriesTell
  pub limits_kept : LimitsKept

-- What is promised of the way from a file to its listing.
use Rattle.std.specs.Prelude.{◌≡◌, ℕ, ◌<◌, ◌≤◌, ◌⊎◌, ◌↔◌, List, length, take, replicate, None, Ok, Option, Result}
use Rattle.logic.specs.Formula.{Formula}
use Rattle.calculus.specs.declared.verdict.Verdict.TheVariants.{Admitted, BeyondLimit}
use Rattle.calculus.specs.PrimeParts.{prime_parts}
use Rattle.calculus.specs.Rules.{Gives, DerivedGives}
use Rattle.calculus.specs.Published.{published}
use Rattle.model.specs.declared.line.Line.{Line}
use Rattle.model.specs.Case.{Case}
use Rattle.model.specs.Lines as lines
use Rattle.model.specs.Outcomes.{Stated}
use Rattle.model.specs.Limits.{LinesEntered}
use Rattle.model.specs.Promises.{CalculusGives, ScratchSuffices}
use Rattle.model.specs.Promises as cases
use Rattle.model.specs.History.{History, open_stage, sealed_stage, new, after}
use Rattle.model.specs.Entering.{Publishes}
use Rattle.model.specs.Making.{OneMade}
use Rattle.files.specs.FileReads.{FrontExact, BodyExact, BodyPastEnd, OffsetsWithin}
use Rattle.files.specs.CallsMade.{FrontMakesCalls, BodyMakesCalls, FrontMakesHistory, BodyMakesHistory, BodyKeepsScratchLength, BodyLeavesLastRows}
use Rattle.records.specs.Asking.{RecordsAsk}
use Rattle.records.specs.WrittenRecords.{RecordsReadBack}
use Rattle.listing.specs.declared.unread.Unread.{Unread}
use Rattle.listing.specs.declared.writing.TheConstants.{LISTING_MOST}
use Rattle.listing.specs.Listing.{listing}
use Rattle.checker.specs.declared.TheConstants.{INPUT_MOST, SCRATCH_MOST}
use Rattle.checker.specs.Checked.{program_page, checked, file_listing}
use Rattle.checker.specs.FileHistory.{FileHistory}

-- the page that the program enters lines under has the published verdict on every rule, so that it is one of those that derivations may be entered under, and says of all rules but 16 to 19 what the published page says
abbrev pub PagePublishes : Type 0
PagePublishes = ((rule : ℕ) → Publishes program_page rule) × ((rule : ℕ) → (16 ≤ rule → rule ≤ 19 → ⊥) → program_page.verdict rule ≡ published rule)

-- and it admits exactly what the axioms and rules 1 to 7 give, a tautology if it has at most twelve prime parts, and what the derived rules 16 to 19 give
abbrev pub PageExact : Type 0
PageExact = (rule : ℕ) (X : Formula) (P Q : Option Formula)
    → (program_page.verdict rule X P Q ≡ Admitted) ↔ ((Gives rule X P Q × (rule ≡ 1 → length (prime_parts X) ≤ 12)) ⊎ DerivedGives rule X P Q)

-- and it says that its limit is passed exactly where rule 1 is asked for a formula of more than twelve prime parts, without premises
abbrev pub PageLimit : Type 0
PageLimit = (rule : ℕ) (X : Formula) (P Q : Option Formula)
    → (program_page.verdict rule X P Q ≡ BeyondLimit) ↔ ((rule ≡ 1) × (P ≡ None) × (Q ≡ None) × (12 < length (prime_parts X)))

-- a line of a case is given: by the calculus, or by a derived rule from the formulas on the lines at its places
pub data ProgramGives (c : Case) (l : Line) : Type 0 where
  by_calculus : CalculusGives c l → ProgramGives c l
  by_derived_rule : (s : Stated c l) → DerivedGives l.rule s.formula s.first s.second → ProgramGives c l

-- on every case whose lines have entered formulas, as after every history, a line is held under the program's page exactly when there is room and it is given so; its number is the next one
abbrev pub ProgramLineExactly : Type 0
ProgramLineExactly = (c : Case) → LinesEntered c.formulas c.lines → (l : Line) (n : ℕ)
    → ((lines.line c program_page l).answer ≡ Ok n) ↔ ((n ≡ length c.lines) × (length c.lines < 512) × ProgramGives c l)

-- the case that is listed is that of the history that the file makes: whatever every history keeps, it keeps; and the reading ended and left the scratch words as that history tells
abbrev pub ListedAfterHistory : Type 0
ListedAfterHistory = (h : History open_stage) (words bytes : List ℕ)
    → (later : History sealed_stage)
    × FileHistory h words bytes later (checked (after h) words bytes).ending (checked (after h) words bytes).scratch
    × ((checked (after h) words bytes).case ≡ after later)

-- and a file makes one history alone, with one ending and one scratch
abbrev pub OneFileHistory : Type 0
OneFileHistory = (h : History open_stage) (words bytes : List ℕ) (k l : History sealed_stage) (e f : Result ℕ Unread) (left other : List ℕ)
    → FileHistory h words bytes k e left → FileHistory h words bytes l f other → (k ≡ l) × (e ≡ f) × (left ≡ other)

-- a text is the listing of the case after the history that a file makes after a new case, where there are n scratch words, and of how the reading ended
abbrev pub ListsHistory : ℕ → List ℕ → List ℕ → Type 0
ListsHistory n bytes text =
    (later : History sealed_stage)
    × (ending : Result ℕ Unread)
    × (left : List ℕ)
    × FileHistory new (replicate n 0) bytes later ending left × (text ≡ listing (after later) ending)

-- the listing of every file, on a case after any history and with any scratch, fits this number of bytes
abbrev pub ListingsFit : ℕ → Type 0
ListingsFit most = (h : History open_stage) (words bytes : List ℕ) → length (file_listing (after h) words bytes) ≤ most

-- of an input, this number of its first bytes is listed as the whole is
abbrev pub StartSuffices : ℕ → Type 0
StartSuffices most = (c : Case) (words bytes : List ℕ) → file_listing c words (take most bytes) ≡ file_listing c words bytes

-- all of these but ListsHistory, which speaks of one text, and ListingsFit and StartSuffices, which speak of lengths
pub record FilePromises : Type 0 where
  pub records_read_back : RecordsReadBack
  pub records_ask : RecordsAsk
  pub front_exact : FrontExact
  pub body_exact : BodyExact
  pub body_past_end : BodyPastEnd
  pub offsets_within : OffsetsWithin
  pub front_makes_calls : FrontMakesCalls
  pub body_makes_calls : BodyMakesCalls
  pub front_makes_history : FrontMakesHistory
  pub body_makes_history : BodyMakesHistory
  pub one_made : OneMade
  pub body_keeps_scratch_length : BodyKeepsScratchLength
  pub body_leaves_last_rows : BodyLeavesLastRows
  pub page_publishes : PagePublishes
  pub page_exact : PageExact
  pub page_limit : PageLimit
  pub program_line_exactly : ProgramLineExactly
  pub listed_after_history : ListedAfterHistory
  pub one_file_history : OneFileHistory

-- all that is promised of the call that the program makes: of every case and after every history, of files, and that the buffer, the scratch words and the input that the program takes are long enough
pub record AllPromises : Type 0 where
  pub cases : cases.Promises
  pub files : FilePromises
  pub fits : ListingsFit LISTING_MOST
  pub suffices : ScratchSuffices SCRATCH_MOST
  pub start : StartSuffices INPUT_MOST

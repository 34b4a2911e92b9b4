-- A plan, what its steps give under a choice, and the rows that are made by them.
use Rattle.std.specs.Prelude.{◌≡◌, ℕ, ◌+◌, ◌-◌, ◌^◌, ◌<◌, ◌≤◌, Bool, false, not, ◌||◌, List, [], length, Some, slice_index_or, bit_or}
use Rattle.std.specs.List.{slice_get}
use Rattle.formulas.specs.declared.entry.Entry.{Entry}
use Rattle.formulas.specs.declared.entry.Entry.TheVariants.{False, Implies}
use Rattle.rows.specs.Row.{testBit}
use Rattle.tautologies.specs.declared.step.Step.{Step}
use Rattle.tautologies.specs.declared.TheConstants.{ENTRIES}
use Rattle.tautologies.specs.declared.gathering.TheConstants.{PARTS}
use Rattle.tautologies.specs.declared.planning.TheConstants.{FALSE_PLACE, FIRST_STEP}
use Rattle.tautologies.specs.Gathering.{Marked}

-- the place of an entry's row
abbrev pub place_of : List ℕ → ℕ → ℕ
place_of places n = slice_index_or places n FALSE_PLACE

-- each step is between rows at lower places than its own; the steps' places come after those of the parts and of false
abbrev pub LowerSteps : List Step → Type 0
LowerSteps steps = (j : ℕ) (s : Step) → slice_get steps j ≡ Some s → (s.left < FIRST_STEP + j) × (s.right < FIRST_STEP + j)

-- the rows of prime parts stand at their places among the parts, that of false at its own, and that of each marked implication below a number where its step makes it of its operands' rows
pub record PlannedBelow (es : List Entry) (seen : List Bool) (parts : List ℕ) (number : ℕ) (steps : List Step) (places : List ℕ) : Type 0 where
  pub long : length places ≡ ENTRIES
  pub few : length steps ≤ number
  pub lower : LowerSteps steps
  pub within : (n : ℕ) → Marked seen n → place_of places n < FIRST_STEP + length steps
  pub part_at : (k n : ℕ) → slice_get parts k ≡ Some n → ((a b : ℕ) → slice_index_or es n False ≡ Implies a b → ⊥) → place_of places n ≡ k
  pub false_at : (n : ℕ) → Marked seen n → slice_index_or es n False ≡ False → place_of places n ≡ FALSE_PLACE
  pub step_at : (n a b : ℕ) → n < number → Marked seen n → slice_index_or es n False ≡ Implies a b
      → (j : ℕ) × (place_of places n ≡ FIRST_STEP + j) × (slice_get steps j ≡ Some (record { left = place_of places a; right = place_of places b }))

-- a plan of all marked entries
abbrev pub Planned : List Entry → List Bool → List ℕ → List Step → List ℕ → Type 0
Planned es seen parts steps places = PlannedBelow es seen parts (length es) steps places

-- under the choice with a number, the truths at places: those of the parts are the number's bits, and those of implications come by the steps
pub record Values (steps : List Step) (c : ℕ) (f : ℕ → Bool) : Type 0 where
  pub part : (k : ℕ) → k < PARTS → f k ≡ testBit c k
  pub none : f FALSE_PLACE ≡ false
  pub step : (j : ℕ) (s : Step) → slice_get steps j ≡ Some s → f (FIRST_STEP + j) ≡ (f s.right || not (f s.left))

-- a word of the row at a place
abbrev pub word_at : List (List ℕ) → ℕ → ℕ → ℕ
word_at rows p w = slice_index_or (slice_index_or rows p []) w 0

-- the words of a step's row come of those of its operands' rows
abbrev pub Made : List (List ℕ) → ℕ → ℕ → Step → Type 0
Made rows words j s = (w : ℕ) → w < words → word_at rows (FIRST_STEP + j) w ≡ bit_or (word_at rows s.right w) (2 ^ 64 - 1 - word_at rows s.left w)

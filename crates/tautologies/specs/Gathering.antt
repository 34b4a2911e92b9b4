-- What is there while the prime parts of an entry's formula are gathered.
use Rattle.std.specs.Prelude.{◌≡◌, ℕ, ◌<◌, ◌≤◌, Bool, true, false, ⊤, List, map, length, Some, slice_index_or, ◌≢◌}
use Rattle.std.specs.List.{slice_get}
use Rattle.logic.specs.Formula.{Formula, falsum}
use Rattle.formulas.specs.declared.entry.Entry.{Entry}
use Rattle.formulas.specs.declared.entry.Entry.TheVariants.{False, Atom, Implies, Next, Always}
use Rattle.tautologies.specs.declared.TheConstants.{ENTRIES}
use Rattle.tautologies.specs.declared.gathering.TheConstants.{PARTS}
use Rattle.lists.specs.Adding.{Distinct, Member}
use Rattle.formulas.specs.Entries.{Lower}
use Rattle.formulas.specs.Decode.{formula_at}
use Rattle.calculus.specs.PrimeParts.{PrimePart, prime_parts}

-- the entries of a formula list
pub record Entered (es : List Entry) : Type 0 where
  pub within : length es ≤ ENTRIES
  pub distinct : Distinct es
  pub lower : Lower es

-- the formulas of entries, by their numbers
abbrev pub formulas_at : List Entry → List ℕ → List Formula
formulas_at es ns = map (formula_at es) ns

-- an entry is marked
abbrev pub Marked : List Bool → ℕ → Type 0
Marked seen n = slice_index_or seen n false ≡ true

-- the formula of an entry of this kind is its own prime part
abbrev pub Prime : Entry → Type 0
Prime False = ⊥
Prime (Atom a) = ⊤
Prime (Implies a b) = ⊥
Prime (Next a) = ⊤
Prime (Always a) = ⊤

-- an entry's formula has no prime parts but those of another's
abbrev pub Below : List Entry → ℕ → ℕ → Type 0
Below es root n = (P : Formula) → PrimePart (formula_at es n) P → PrimePart (formula_at es root) P

-- while an entry's formula is gone through: marked entries have none but its prime parts, and each but those that wait has its operands marked, or is a part; parts are marked, and stand once
pub record Going (es : List Entry) (root : ℕ) (waits : ℕ → Bool) (seen : List Bool) (parts : List ℕ) : Type 0 where
  pub entered : (n : ℕ) → Marked seen n → n < length es
  pub only : (n : ℕ) → Marked seen n → Below es root n
  pub operands : (n a b : ℕ) → Marked seen n → waits n ≡ false → slice_index_or es n False ≡ Implies a b → Marked seen a × Marked seen b
  pub prime : (n : ℕ) → Marked seen n → waits n ≡ false → Prime (slice_index_or es n False) → Member parts n
  pub met : (k n : ℕ) → slice_get parts k ≡ Some n → Marked seen n × Prime (slice_index_or es n False)
  pub once : Distinct parts

-- two entries are gone through, or one that is named twice: both are marked, marks stay, and what is right for a formula that has their prime parts stays right, whatever waits
pub record GoneThrough (es : List Entry) (a b : ℕ) (seen : List Bool) (parts : List ℕ) (seen_after : List Bool) (parts_after : List ℕ) : Type 0 where
  pub stay : (n : ℕ) → Marked seen n → Marked seen_after n
  pub first : Marked seen_after a
  pub second : Marked seen_after b
  pub on : (root : ℕ) (waits : ℕ → Bool) → Going es root waits seen parts → Below es root a → Below es root b → Going es root waits seen_after parts_after

-- a formula that has their prime parts has more than are taken
abbrev pub TooManyParts : List Entry → ℕ → ℕ → List Bool → List ℕ → Type 0
TooManyParts es a b seen parts =
    (root : ℕ) (waits : ℕ → Bool) → Going es root waits seen parts → Below es root a → Below es root b → PARTS < length (prime_parts (formula_at es root))

-- marked entries have their prime parts among the parts, and their operands are marked; a part is marked, is not false, and stands once
pub record Gathered (es : List Entry) (seen : List Bool) (parts : List ℕ) : Type 0 where
  pub entered : (n : ℕ) → Marked seen n → n < length es
  pub gathered : (n : ℕ) → Marked seen n → (P : Formula) → PrimePart (formula_at es n) P → Member (formulas_at es parts) P
  pub closed : (n a b : ℕ) → Marked seen n → slice_index_or es n False ≡ Implies a b → Marked seen a × Marked seen b
  pub met : (k n : ℕ) → slice_get parts k ≡ Some n → Marked seen n × (formula_at es n ≢ falsum)
  pub once : Distinct parts

-- What is read of a case.
use Rattle.std.specs.Prelude.{ℕ, if◌then◌else◌, List, length, Some, None, Ok, Err, Option, Result, nat_eq, nat_le}
use Rattle.std.specs.List.{slice_get, position}
use Rattle.std.specs.Option.{option_map, unwrap_or, ok_or}
use Rattle.refusals.specs.declared.Refusal.{Refusal}
use Rattle.refusals.specs.declared.Refusal.TheVariants.{NotEntered, LineNotHeld, RefutationNotHeld}
use Rattle.logic.specs.Formula.{Formula, falsum, atom, implies, next, always}
use Rattle.logic.specs.Same.{same}
use Rattle.formulas.specs.declared.entry.Entry.{Entry}
use Rattle.formulas.specs.declared.entry.Entry.TheVariants.{False, Atom, Implies, Next, Always}
use Rattle.lists.specs.Adding.{first_like}
use Rattle.model.specs.declared.counts.Counts.{Counts}
use Rattle.model.specs.declared.line.Line.{Line}
use Rattle.model.specs.declared.refutation.Refutation.{Refutation}
use Rattle.model.specs.declared.standing.Standing.{Standing}
use Rattle.model.specs.declared.standing.Standing.TheVariants.{Derived, Refuted, Open}
use Rattle.model.specs.Case.{Case}

-- how many of each there are
abbrev pub counts_of : Case → Counts
counts_of c = record {
  formulas = length c.formulas;
  assumptions = length c.assumptions;
  lines = length c.lines;
  refutations = length c.refutations;
}

-- the number of a formula that is in a list
abbrev pub number_in : List Formula → Formula → ℕ
number_in fs A = unwrap_or (first_like same fs A) 0

-- a formula as an entry, its operands by their numbers
abbrev pub as_entry : List Formula → Formula → Entry
as_entry fs falsum = False
as_entry fs (atom a) = Atom a
as_entry fs (implies A B) = Implies (number_in fs A) (number_in fs B)
as_entry fs (next A) = Next (number_in fs A)
as_entry fs (always A) = Always (number_in fs A)

-- the entry with a number, none past the last
abbrev pub entry_in : Case → ℕ → Option Entry
entry_in c n = option_map (as_entry c.formulas) (slice_get c.formulas n)

-- the formula that is assumed at a place, by its number
abbrev pub assumption_in : Case → ℕ → Option ℕ
assumption_in c k = slice_get c.assumptions k

-- the line with a number, or a refusal if none is held
abbrev pub line_in : Case → ℕ → Result Line Refusal
line_in c n = ok_or (slice_get c.lines n) LineNotHeld

-- the refutation with a number, or a refusal if none is held
abbrev pub refutation_in : Case → ℕ → Result Refutation Refusal
refutation_in c n = ok_or (slice_get c.refutations n) RefutationNotHeld

-- derived by its first line, or else refuted by its first refutation, or else open
abbrev pub standing_by : Option ℕ → Option ℕ → Standing
standing_by (Some n) refuted = Derived n
standing_by None (Some n) = Refuted n
standing_by None None = Open

-- the number of the first line of a formula, and of its first refutation, if there is one
abbrev pub first_line : Case → ℕ → Option ℕ
first_line c f = position (λ l. nat_eq l.formula f) c.lines

abbrev pub first_refutation_of : Case → ℕ → Option ℕ
first_refutation_of c f = position (λ x. nat_eq x.formula f) c.refutations

-- the standing of an entered formula
abbrev pub standing_in : Case → ℕ → Result Standing Refusal
standing_in c f =
    if nat_le (length c.formulas) f then Err NotEntered
    else Ok (standing_by (first_line c f) (first_refutation_of c f))

-- What holds at positions of small runs.
use Rattle.std.specs.Prelude.{◌≡◌, ℕ, zero, suc, ◌+◌, Bool, true, false, List, [], ◌∷◌, length, All}
use Rattle.logic.specs.Formula.{Formula, falsum, atom, implies, next, always}
use Rattle.logic.specs.Abbreviations.{not, eventually}
use Rattle.logic.specs.Run.{Run}
use Rattle.logic.specs.Decide.{truth}
use Rattle.worked.specs.Example.{never, at_first, blinks, bits_apart, fields_apart}

pub record TruthRow : Type 0 where
  pub run : Run
  pub formula : Formula
  pub position : ℕ
  pub truth : Bool

abbrev pub IsTold : TruthRow → Type 0
IsTold row = truth row.run row.formula row.position ≡ row.truth

abbrev at : Run → Formula → ℕ → Bool → TruthRow
at run formula position truth = record { run = run; formula = formula; position = position; truth = truth }

abbrev v0 : Formula
v0 = atom 0

abbrev pub truths : List TruthRow
truths =
    -- v0 at position 0 alone: it was there, it does not come again, and what implies it is false from position 1 on
    at at_first v0 0 true
    ∷ at at_first v0 1 false
    ∷ at at_first (next v0) 0 false
    ∷ at at_first (always v0) 0 false
    ∷ at at_first (eventually v0) 0 true
    ∷ at at_first (eventually v0) 1 false
    ∷ at at_first (next (always (not v0))) 0 true
    ∷ at at_first (implies v0 (next v0)) 0 false
    ∷ at at_first (implies v0 (next v0)) 1 true
    ∷ at at_first falsum 0 false
    -- v0 at every second position from 1 on, however far: also at 1,001 and not at 1,002
    ∷ at blinks v0 1 true
    ∷ at blinks (next v0) 1 false
    ∷ at blinks (next (next v0)) 1 true
    ∷ at blinks v0 1001 true
    ∷ at blinks v0 1002 false
    ∷ at blinks (always (eventually v0)) 0 true
    ∷ at blinks (eventually (always v0)) 0 false
    ∷ at blinks (always (implies v0 (next (not v0)))) 0 true
    -- v0 never
    ∷ at never (always (not v0)) 0 true
    ∷ at never (eventually v0) 7 false
    -- no bit of a word is another atom's
    ∷ at bits_apart (eventually (atom 1)) 0 false
    ∷ at bits_apart (eventually (atom 8)) 0 false
    ∷ at bits_apart (eventually (atom 16)) 0 false
    ∷ at bits_apart (eventually (atom 24)) 0 false
    -- nor is another field of an entry an atom
    ∷ at fields_apart (eventually (atom 1)) 0 false
    ∷ at fields_apart (eventually (atom 2)) 0 false
    ∷ at fields_apart (eventually (atom 3)) 0 false
    ∷ at fields_apart (eventually (atom 5)) 0 false
    ∷ at fields_apart (eventually (atom 8)) 0 false
    ∷ at fields_apart (eventually (atom 12)) 0 false
    ∷ []

-- the truths of a formula at n positions, from i on
abbrev pub truths_from : Run → Formula → ℕ → ℕ → List Bool
truths_from r A i zero = []
truths_from r A i (suc n) = truth r A i ∷ truths_from r A (i + 1) n

-- the truths of a formula at the first positions of a run
pub record AlongRow : Type 0 where
  pub run : Run
  pub formula : Formula
  pub truths : List Bool

abbrev pub IsToldAlong : AlongRow → Type 0
IsToldAlong row = truths_from row.run row.formula 0 (length row.truths) ≡ row.truths

abbrev along : Run → Formula → List Bool → AlongRow
along run formula truths = record { run = run; formula = formula; truths = truths }

abbrev pub truths_along : List AlongRow
truths_along =
    -- a word of a table has bit 0 in its first byte and bit 31 in its last; position 5 is position 2 again
    along bits_apart (atom 0) (false ∷ true ∷ false ∷ false ∷ false ∷ false ∷ false ∷ false ∷ [])
    ∷ along bits_apart (atom 6) (false ∷ false ∷ false ∷ false ∷ true ∷ false ∷ false ∷ true ∷ [])
    ∷ along bits_apart (atom 9) (true ∷ false ∷ false ∷ false ∷ false ∷ false ∷ false ∷ false ∷ [])
    ∷ along bits_apart (atom 14) (false ∷ false ∷ true ∷ false ∷ false ∷ true ∷ false ∷ false ∷ [])
    ∷ along bits_apart (atom 17) (false ∷ true ∷ false ∷ false ∷ false ∷ false ∷ false ∷ false ∷ [])
    ∷ along bits_apart (atom 22) (false ∷ false ∷ false ∷ true ∷ false ∷ false ∷ true ∷ false ∷ [])
    ∷ along bits_apart (atom 25) (false ∷ false ∷ true ∷ false ∷ false ∷ true ∷ false ∷ false ∷ [])
    ∷ along bits_apart (atom 31) (false ∷ false ∷ false ∷ true ∷ false ∷ false ∷ true ∷ false ∷ [])
    -- two pulses: on at 3 and 4, and again 8 positions later; on at 5, and again 12 positions later
    ∷ along fields_apart (atom 9) (false ∷ false ∷ false ∷ true ∷ true ∷ false ∷ false ∷ false ∷ false ∷ false ∷ false ∷ true ∷ true ∷ false ∷ [])
    ∷ along fields_apart (atom 17) (false ∷ false ∷ false ∷ false ∷ false ∷ true ∷ false ∷ false ∷ false ∷ false ∷ false ∷ false ∷ false ∷ false ∷ false ∷ false ∷ false ∷ true ∷ [])
    ∷ []

-- every row is told so
abbrev pub TruthsTold : Type 0
TruthsTold = All IsTold truths × All IsToldAlong truths_along

-- The numbers that a caller can be told, each beside what it stands for.
use Rattle.std.specs.Prelude.{◌≡◌, ℕ, List, [], ◌∷◌, Some, None, Option, All}
use Rattle.formulas.specs.declared.refusal.FormRefusal.TheVariants.{UnknownKind, BadField, FormulasFull}
use Rattle.refusals.specs.declared.Refusal.TheVariants.{Form, NotEntered, AssumptionsFull, LineNotHeld, LinesFull, NotAdmitted, BeyondLimit, RunTooLong, PastRun, ScratchTooShort, AssumptionFalse, FormulaTrue, RefutationsFull, RefutationNotHeld}
use Rattle.records.specs.declared.fault.RecordFault.TheVariants.{ShortHead, PayloadCut, NoSeal}
use Rattle.records.specs.declared.fault.PayloadFault.TheVariants.{KindNotAllowed, WrongLength, NoRun}
use Rattle.records.specs.declared.fault.Cause.{Cause}
use Rattle.records.specs.declared.fault.Cause.TheVariants.{Record, Payload, Case}
use Rattle.records.specs.Faults.{layer_of, cause_number}
use Rattle.listing.specs.declared.refusal.ListingRefusal.{ListingRefusal}
use Rattle.listing.specs.declared.refusal.ListingRefusal.TheVariants.{BufferTooShort}
use Rattle.listing.specs.Written.{listing_number}
use Rattle.checker.specs.declared.unwritten.Unwritten.{Unwritten}
use Rattle.checker.specs.declared.unwritten.Unwritten.TheVariants as unwritten
use Rattle.checker.specs.Unwritten.{unwritten_number}

-- what a caller is told of: why a file is not read on, why no listing is written, and why there is none at all
pub data Told : Type 0 where
  unread : Cause → Told
  unlisted : ListingRefusal → Told
  without : Unwritten → Told

-- only why a file is not read on is told with a layer: 1 a record, 2 its payload, 3 the case
abbrev pub layer_told : Told → Option ℕ
layer_told (unread e) = Some (layer_of e)
layer_told (unlisted e) = None
layer_told (without e) = None

abbrev pub number_told : Told → ℕ
number_told (unread e) = cause_number e
number_told (unlisted e) = listing_number e
number_told (without e) = unwritten_number e

pub record NumberRow : Type 0 where
  pub told : Told
  pub layer : Option ℕ
  pub number : ℕ

abbrev pub IsNumbered : NumberRow → Type 0
IsNumbered row = ◌≡◌ {A = Option ℕ × ℕ} (layer_told row.told, number_told row.told) (row.layer, row.number)

abbrev row : Told → Option ℕ → ℕ → NumberRow
row told layer number = record { told = told; layer = layer; number = number }

abbrev pub numbers : List NumberRow
numbers =
    -- what a case refuses
    row (unread (Case (Form UnknownKind))) (Some 3) 1
    ∷ row (unread (Case (Form BadField))) (Some 3) 2
    ∷ row (unread (Case (Form FormulasFull))) (Some 3) 3
    ∷ row (unread (Case NotEntered)) (Some 3) 4
    ∷ row (unread (Case AssumptionsFull)) (Some 3) 5
    ∷ row (unread (Case LineNotHeld)) (Some 3) 6
    ∷ row (unread (Case LinesFull)) (Some 3) 7
    ∷ row (unread (Case NotAdmitted)) (Some 3) 8
    ∷ row (unread (Case BeyondLimit)) (Some 3) 9
    ∷ row (unread (Case RunTooLong)) (Some 3) 10
    ∷ row (unread (Case PastRun)) (Some 3) 11
    ∷ row (unread (Case ScratchTooShort)) (Some 3) 12
    -- whatever its place and its position are
    ∷ row (unread (Case (AssumptionFalse 0 0))) (Some 3) 13
    ∷ row (unread (Case (AssumptionFalse 15 255))) (Some 3) 13
    ∷ row (unread (Case FormulaTrue)) (Some 3) 14
    ∷ row (unread (Case RefutationsFull)) (Some 3) 15
    ∷ row (unread (Case RefutationNotHeld)) (Some 3) 16
    -- what is wrong with a record, or with its payload
    ∷ row (unread (Record ShortHead)) (Some 1) 21
    ∷ row (unread (Record PayloadCut)) (Some 1) 22
    ∷ row (unread (Payload KindNotAllowed)) (Some 2) 23
    ∷ row (unread (Payload WrongLength)) (Some 2) 24
    ∷ row (unread (Record NoSeal)) (Some 1) 25
    ∷ row (unread (Payload NoRun)) (Some 2) 26
    -- a buffer that is too short, also where a case is made for the file, and no memory for a case
    ∷ row (unlisted BufferTooShort) None 27
    ∷ row (without unwritten.BufferTooShort) None 27
    ∷ row (without unwritten.NoMemory) None 28
    ∷ []

-- every row is numbered so
abbrev pub NumbersTold : Type 0
NumbersTold = All IsNumbered numbers

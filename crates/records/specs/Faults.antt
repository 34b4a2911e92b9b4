-- The layer and the number that a caller is told for a fault, and an error with its place.
use Rattle.std.specs.Prelude.{ℕ, Ok, Err, Result}
use Rattle.refusals.specs.Numbers.{number_of}
use Rattle.runs.specs.declared.fault.RunFault.{RunFault}
use Rattle.runs.specs.declared.fault.RunFault.TheVariants.{WrongLength as RunLength, NoRun as RunNumbers}
use Rattle.records.specs.declared.fault.RecordFault.{RecordFault}
use Rattle.records.specs.declared.fault.RecordFault.TheVariants.{ShortHead, PayloadCut, NoSeal}
use Rattle.records.specs.declared.fault.PayloadFault.{PayloadFault}
use Rattle.records.specs.declared.fault.PayloadFault.TheVariants.{KindNotAllowed, WrongLength, NoRun}
use Rattle.records.specs.declared.fault.Cause.{Cause}
use Rattle.records.specs.declared.fault.Cause.TheVariants.{Record, Payload, Case}
use Rattle.records.specs.declared.fault.ErrorAt.{ErrorAt}

-- what is wrong with a record
abbrev pub record_number : RecordFault → ℕ
record_number ShortHead = 21
record_number PayloadCut = 22
record_number NoSeal = 25

-- what is wrong with a payload
abbrev pub payload_number : PayloadFault → ℕ
payload_number KindNotAllowed = 23
payload_number WrongLength = 24
payload_number NoRun = 26

-- 1 a record, 2 its payload, 3 the case
abbrev pub layer_of : Cause → ℕ
layer_of (Record e) = 1
layer_of (Payload e) = 2
layer_of (Case e) = 3

-- a refusal of the case keeps its number
abbrev pub cause_number : Cause → ℕ
cause_number (Record e) = record_number e
cause_number (Payload e) = payload_number e
cause_number (Case e) = number_of e

-- what is wrong with a payload whose bytes give no run
abbrev pub run_fault : RunFault → PayloadFault
run_fault RunLength = WrongLength
run_fault RunNumbers = NoRun

-- an answer, with an error beside the offset of the record that it is about
abbrev pub error_at : {A E : Type 0} → ℕ → Result A E → Result A (ErrorAt E)
error_at at (Ok x) = Ok x
error_at at (Err e) = Err (record { error = e; offset = at })

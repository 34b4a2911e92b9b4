-- What a record asks for, by its kind and payload.
use Rattle.std.specs.Prelude.{ℕ, List, length, drop, Some, None, Ok, Err, Option, Result, ◌==◌, if◌then◌else◌, nat_lt, slice_index}
use Rattle.logic.specs.Run.{Run}
use Rattle.runs.specs.declared.fault.RunFault.{RunFault}
use Rattle.runs.specs.Bytes.{word}
use Rattle.runs.specs.Pulses.{pulse_check, pulse_run}
use Rattle.runs.specs.Tables.{table_check, table_run}
use Rattle.model.specs.declared.line.Line as model
use Rattle.model.specs.declared.refutation.Refutation.{Refutation}
use Rattle.records.specs.declared.fault.PayloadFault.{PayloadFault}
use Rattle.records.specs.declared.fault.PayloadFault.TheVariants.{KindNotAllowed, WrongLength}
use Rattle.records.specs.declared.payload.Form as declared
use Rattle.records.specs.declared.front_record.FrontRecord.{FrontRecord}
use Rattle.records.specs.declared.front_record.FrontRecord.TheVariants.{FormRecord, AssumeRecord, SealRecord}
use Rattle.records.specs.declared.payload.RecordKind.{RecordKind}
use Rattle.records.specs.declared.payload.RecordKind.TheVariants.{Form, Assume, Seal, Line, Table, Pulses}
use Rattle.records.specs.Faults.{run_fault}

-- the kinds of records by their numbers
abbrev pub record_kind_numbered : ℕ → Result RecordKind PayloadFault
record_kind_numbered kind =
    if kind == 1 then Ok Form
    else (if kind == 2 then Ok Assume
    else (if kind == 3 then Ok Seal
    else (if kind == 4 then Ok Line
    else (if kind == 5 then Ok Table
    else (if kind == 6 then Ok Pulses
    else Err KindNotAllowed)))))

-- an answer for a payload of n bytes
abbrev pub long : {A : Type 0} → ℕ → List ℕ → A → Result A PayloadFault
long n payload x = if length payload == n then Ok x else Err WrongLength

-- a formula's kind in one byte, and its two fields in two bytes each
abbrev pub form_in : List ℕ → declared.Form
form_in payload = record { kind = slice_index payload 0; left = word payload 1; right = word payload 3 }

-- in the front: 1 a formula, 2 an assumption, 3 the seal
abbrev pub record_of_front : ℕ → List ℕ → Result FrontRecord PayloadFault
record_of_front kind payload =
    if kind == 1 then long 5 payload (FormRecord (form_in payload))
    else (if kind == 2 then long 2 payload (AssumeRecord (word payload 0))
    else (if kind == 3 then long 0 payload SealRecord
    else Err KindNotAllowed))

-- what a record of the body asks for: to enter a formula, to hold a line, or to hold that a formula is false at a position of a run
pub data Request : Type 0 where
  form_request : declared.Form → Request
  line_request : model.Line → Request
  refute_request : Refutation → Run → Request

-- the place that a field gives: 65,535 stands for an empty one
abbrev pub place_of : ℕ → Option ℕ
place_of n = if n == 65535 then None else Some n

-- a rule, a formula and two places in two bytes each
abbrev pub line_written : List ℕ → model.Line
line_written payload = record { rule = word payload 0; formula = word payload 2; first = place_of (word payload 4); second = place_of (word payload 6) }

-- the numbers of a formula and of a position in two bytes each
abbrev pub refutation_written : List ℕ → Refutation
refutation_written payload = record { formula = word payload 0; position = word payload 2 }

-- an answer for a run's bytes that passed their check
abbrev pub passed : {A : Type 0} → Result (Unit {0}) RunFault → A → Result A PayloadFault
passed (Ok done) x = Ok x
passed (Err e) x = Err (run_fault e)

-- these two numbers, and then the bytes of a run
abbrev pub refute_in : (List ℕ → Result (Unit {0}) RunFault) → (List ℕ → Run) → List ℕ → Result Request PayloadFault
refute_in check run payload =
    if nat_lt (length payload) 4 then Err WrongLength
    else passed (check (drop 4 payload)) (refute_request (refutation_written payload) (run (drop 4 payload)))

-- in the body: 1 a formula, 4 a line, 5 a refutation by a table, 6 one by pulses
abbrev pub record_of_body : ℕ → List ℕ → Result Request PayloadFault
record_of_body kind payload =
    if kind == 1 then long 5 payload (form_request (form_in payload))
    else (if kind == 4 then long 8 payload (line_request (line_written payload))
    else (if kind == 5 then refute_in table_check table_run payload
    else (if kind == 6 then refute_in pulse_check pulse_run payload
    else Err KindNotAllowed)))

-- What reading a front or a body answers and leaves, by the bytes that stand there.
use Rattle.std.specs.Prelude.{◌≡◌, ℕ, ◌+◌, ◌<◌, ◌≤◌, List, [], ◌++◌, length, drop, Some, None, Ok, Err, Result}
use Rattle.refusals.specs.declared.Refusal.{Refusal}
use Rattle.calculus.specs.Pages.{Page}
use Rattle.model.specs.Case as cases
use Rattle.model.specs.History.{Stage, open_stage, sealed_stage, Call, after_call, Refused}
use Rattle.runs.specs.Bytes.{Bytes}
use Rattle.records.specs.declared.fault.Cause.{Cause}
use Rattle.records.specs.declared.fault.Cause.TheVariants.{Record, Payload, Case}
use Rattle.records.specs.declared.fault.Fault.{Fault}
use Rattle.records.specs.declared.fault.PayloadFault.{PayloadFault}
use Rattle.records.specs.declared.fault.RecordFault.{RecordFault}
use Rattle.records.specs.declared.fault.RecordFault.TheVariants.{ShortHead, NoSeal}
use Rattle.records.specs.Records.{Content}
use Rattle.records.specs.WrittenRecords.{written, Writable, NoRecord}
use Rattle.records.specs.Asking.{Asked, FrontAsks, BodyAsks}
use Rattle.files.specs.Reading.{front, body}

-- where the next record is due after one whose head stands at an offset
abbrev pub due_behind : ℕ → Content → ℕ
due_behind at r = at + 4 + length r.payload

-- an answer that tells a fault and its offset
abbrev pub fault_at : {A : Type 0} → Cause → ℕ → Result A Fault
fault_at e at = Err (record { cause = e; offset = at })

-- what reading a part of a file answers from an offset on, by the bytes that stand there and on a case, and the case afterwards: by what a record asks for, and by the answers at a seal, whose offset after it is given, and where no bytes are left, at an offset
pub data Reads (s : Stage) (A : Type 0) (Asks : ℕ → List ℕ → Asked s → Type 0) (at_seal at_end : ℕ → Result A Fault) : ℕ → List ℕ → cases.Case → Result A Fault → cases.Case → Type 0 where
  -- no bytes are left
  no_bytes : {at : ℕ} {c : cases.Case} → Reads s A Asks at_seal at_end at [] c (at_end at) c
  -- the bytes are too few for a record
  no_record : {at : ℕ} {bytes : List ℕ} {c : cases.Case} {e : RecordFault} → NoRecord bytes e → Reads s A Asks at_seal at_end at bytes c (fault_at (Record e) at) c
  -- a record asks for nothing that this part takes
  payload_wrong : {at : ℕ} {c : cases.Case} (r : Content) (rest : List ℕ) {e : PayloadFault} → Writable r → Asks r.kind r.payload (Err e)
      → Reads s A Asks at_seal at_end at (written r ++ rest) c (fault_at (Payload e) at) c
  -- the case refuses the call of a record, and stays as it is
  call_refused : {at : ℕ} {c : cases.Case} (r : Content) (rest : List ℕ) {x : Call s} {e : Refusal} → Writable r → Asks r.kind r.payload (Ok (Some x)) → Refused c x e
      → Reads s A Asks at_seal at_end at (written r ++ rest) c (fault_at (Case e) at) c
  -- it answers the call, and what stands after the record is read on the case after the call
  call_answered : {at : ℕ} {c d : cases.Case} (r : Content) (rest : List ℕ) {x : Call s} {answer : Result A Fault}
      → Writable r → Asks r.kind r.payload (Ok (Some x)) → ((e : Refusal) → Refused c x e → ⊥)
      → Reads s A Asks at_seal at_end (due_behind at r) rest (after_call c x) answer d → Reads s A Asks at_seal at_end at (written r ++ rest) c answer d
  -- a seal record ends the part
  sealed : {at : ℕ} {c : cases.Case} (r : Content) (rest : List ℕ) → Writable r → Asks r.kind r.payload (Ok None)
      → Reads s A Asks at_seal at_end at (written r ++ rest) c (at_seal (due_behind at r)) c

-- a front answers the offset after its seal record, and without one a fault at the end
abbrev pub FrontReads : ℕ → List ℕ → cases.Case → Result ℕ Fault → cases.Case → Type 0
FrontReads = Reads open_stage ℕ FrontAsks (λ behind. Ok behind) (λ at. fault_at (Record NoSeal) at)

-- a body, by the page of rules and the number of scratch words, ends with the file: none of its records is a seal
abbrev pub BodyReads : Page → ℕ → ℕ → List ℕ → cases.Case → Result (Unit {0}) Fault → cases.Case → Type 0
BodyReads page n = Reads sealed_stage (Unit {0}) (BodyAsks page n) (λ behind. Ok tt) (λ at. Ok tt)

-- the front of a file is read so from its first byte on
abbrev pub FrontExact : Type 0
FrontExact = (c : cases.Case) (bytes : List ℕ) → Bytes bytes → FrontReads 0 bytes c (front c bytes).answer (front c bytes).after

-- and a body from its start on, which does not lie past the end of the file
abbrev pub BodyExact : Type 0
BodyExact = (page : Page) (c : cases.Case) (start : ℕ) (words bytes : List ℕ) → Bytes bytes → start ≤ length bytes
    → BodyReads page (length words) start (drop start bytes) c (body page c start words bytes).answer (body page c start words bytes).after

-- at a start past the end the head that is due there is missing, and nothing changes
abbrev pub BodyPastEnd : Type 0
BodyPastEnd = (page : Page) (c : cases.Case) (start : ℕ) (words bytes : List ℕ) → length bytes < start
    → ((body page c start words bytes).answer ≡ fault_at (Record ShortHead) start)
    × ((body page c start words bytes).after ≡ c)
    × ((body page c start words bytes).carried.scratch ≡ words)

-- an answer tells no offset past n
abbrev pub FrontWithin : ℕ → Result ℕ Fault → Type 0
FrontWithin n (Ok start) = start ≤ n
FrontWithin n (Err f) = f.offset ≤ n

abbrev pub BodyWithin : ℕ → Result (Unit {0}) Fault → Type 0
BodyWithin n (Ok done) = Unit {0}
BodyWithin n (Err f) = f.offset ≤ n

-- no offset that reading answers lies past the end of the file, where the body's start does not
pub record OffsetsWithin : Type 0 where
  pub front_within : (c : cases.Case) (bytes : List ℕ) → FrontWithin (length bytes) (front c bytes).answer
  pub body_within : (page : Page) (c : cases.Case) (start : ℕ) (words bytes : List ℕ) → start ≤ length bytes → BodyWithin (length bytes) (body page c start words bytes).answer

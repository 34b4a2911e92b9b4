-- What reading a file's front or body answers, and the case and what is carried beside it afterwards.
use Rattle.std.specs.Prelude.{ℕ, ◌+◌, List, length, Some, None, Ok, Err, Option, Result}
use Rattle.std.specs.Result.{result_err}
use Rattle.refusals.specs.declared.Refusal.{Refusal}
use Rattle.calculus.specs.Pages.{Page}
use Rattle.model.specs.Case as cases
use Rattle.model.specs.Calls as calls
use Rattle.model.specs.Lines as lines
use Rattle.model.specs.Judging as judging
use Rattle.model.specs.History.{Stage, open_stage, sealed_stage, Call, form, assume, truth, line, refute, after_call}
use Rattle.records.specs.declared.fault.RecordFault.TheVariants.{NoSeal}
use Rattle.records.specs.declared.fault.Cause.{Cause}
use Rattle.records.specs.declared.fault.Cause.TheVariants.{Record, Payload, Case}
use Rattle.records.specs.declared.fault.Fault.{Fault}
use Rattle.records.specs.Contents.{records_from}
use Rattle.records.specs.Records.{Records, none, bad, more}
use Rattle.records.specs.declared.body_record.BodyRecord.{BodyRecord}
use Rattle.records.specs.Requests.{request_of}
use Rattle.records.specs.Asking.{Asked, body_call, front_asked, body_asked}

-- the refusal of a call on a case, if it is refused
abbrev pub refusal_of : {s : Stage} → cases.Case → Call s → Option Refusal
refusal_of c (form kind left right) = result_err (calls.form c kind left right).answer
refusal_of c (assume f) = result_err (calls.assume c f).answer
refusal_of c (truth r f i n) = result_err (judging.truth c r f i n).answer
refusal_of c (line page l) = result_err (lines.line c page l).answer
refusal_of c (refute r f i n) = result_err (judging.refute c r f i n).answer

-- how a part of a file is read: what a record asks for, by its kind and payload; what is carried beside the case once a call is made; and what is answered at a seal, by the offset after it, and where no bytes are left, by the offset
pub record Part (s : Stage) (B A : Type 0) : Type 0 where
  pub asked : ℕ → List ℕ → Asked s
  pub carry : cases.Case → Call s → B → B
  pub at_seal : ℕ → Result A Fault
  pub at_end : ℕ → Result A Fault

-- an answer, and the case and what is carried afterwards
pub record Reading (B A : Type 0) : Type 0 where
  pub answer : Result A Fault
  pub after : cases.Case
  pub carried : B

-- the reading ends at an offset
abbrev pub stopped : {B A : Type 0} → cases.Case → B → Cause → ℕ → Reading B A
stopped c b e at = record { answer = Err (record { cause = e; offset = at }); after = c; carried = b }

-- a record's call is made: a refusal ends the reading at the record's offset, else it goes on
abbrev pub called : {B A : Type 0} → ℕ → Option Refusal → cases.Case → B → (cases.Case → B → Reading B A) → Reading B A
called at (Some e) c b go = stopped c b (Case e) at
called at None c b go = go c b

-- one record, at an offset, which ends where the next one is due
abbrev pub step : {s : Stage} {B A : Type 0} → Part s B A → cases.Case → B → ℕ → ℕ → Asked s → (cases.Case → B → Reading B A) → Reading B A
step p c b at behind (Err e) go = stopped c b (Payload e) at
step p c b at behind (Ok None) go = record { answer = p.at_seal behind; after = c; carried = b }
step p c b at behind (Ok (Some x)) go = called at (refusal_of c x) (after_call c x) (p.carry c x b) go

-- records from an offset on, up to a seal, a fault or the end
abbrev pub read : {s : Stage} {B A : Type 0} → Part s B A → cases.Case → B → ℕ → Records → Reading B A
read p c b at none = record { answer = p.at_end at; after = c; carried = b }
read p c b at (bad e) = stopped c b (Record e) at
read p c b at (more kind payload rest) =
    let behind : ℕ = at + 4 + length payload in
    step p c b at behind (p.asked kind payload) (λ d k. read p d k behind rest)

-- the front carries nothing: it ends with a seal record, and the answer is the offset after it
abbrev pub front_part : Part open_stage (Unit {0}) ℕ
front_part = record {
  asked = front_asked;
  carry = λ c x b. b;
  at_seal = λ behind. Ok behind;
  at_end = λ at. Err (record { cause = Record NoSeal; offset = at });
}

unfoldable pub front : cases.Case → List ℕ → Reading (Unit {0}) ℕ
front c bytes = read front_part c tt 0 (records_from bytes 0)

-- the scratch words after a call
abbrev pub scratch_after : {s : Stage} → cases.Case → Call s → List ℕ → List ℕ
scratch_after c (truth r f i n) words = judging.truth_scratch c r f i words
scratch_after c (refute r f i n) words = judging.refute_scratch c r f i words
scratch_after c x words = words

-- what the body carries beside the case
pub record Carried : Type 0 where
  pub scratch : List ℕ

-- at its start
abbrev pub body_carries : List ℕ → Carried
body_carries words = record { scratch = words }

-- the body ends with the file, by a page of rules and with n scratch words; no record of it is a seal
abbrev pub body_part : Page → ℕ → Part sealed_stage Carried (Unit {0})
body_part page n = record {
  asked = body_asked page n;
  carry = λ c x b. record b { scratch = scratch_after c x b.scratch };
  at_seal = λ behind. Ok tt;
  at_end = λ at. Ok tt;
}

-- the call that a record of the program makes
abbrev pub call_for : Page → List ℕ → BodyRecord → Call sealed_stage
call_for page words r = body_call page (length words) (request_of r)

-- from a start offset, which must not lie past the end
unfoldable pub body : Page → cases.Case → ℕ → List ℕ → List ℕ → Reading Carried (Unit {0})
body page c start words bytes = read (body_part page (length words)) c (body_carries words) start (records_from bytes start)

-- No offset that reading answers lies past the end of the file.
use Rattle.std.proofs.Common.{ℕ, ◌+◌, ◌≤◌, List, length, drop, Some, None, Ok, Err, Option, Result, arith, length-drop}
use Rattle.refusals.specs.declared.Refusal.{Refusal}
use Rattle.calculus.specs.Pages.{Page}
use Rattle.model.specs.Case as cases
use Rattle.model.specs.History.{Stage, after_call}
use Rattle.records.specs.declared.fault.Cause.{Cause}
use Rattle.records.specs.declared.fault.Fault.{Fault}
use Rattle.records.specs.Records.{Records, none, bad, more, records}
use Rattle.records.specs.Asking.{Asked}
use Rattle.records.proofs.Extents.{extent, records_extent}
use Rattle.files.specs.Reading.{Part, Reading, called, step, read, front_part, front, body_part, body, refusal_of}
use Rattle.files.specs.FileReads.{fault_at, FrontWithin, BodyWithin, OffsetsWithin}
use Rattle.files.proofs.Start.{front_start, body_start}

-- what holds of the answers that tell an offset within a file of n bytes
module _ {s : Stage} {B A : Type 0} (p : Part s B A) (n : ℕ) (P : Result A Fault → Type 0)
    (faults : (e : Cause) (at : ℕ) → at ≤ n → P (fault_at e at)) (seals : (behind : ℕ) → behind ≤ n → P (p.at_seal behind)) (ends : (at : ℕ) → at ≤ n → P (p.at_end at)) where
  module _ (at : ℕ) (at_in : at ≤ n) (go : cases.Case → B → Reading B A) (on : (d : cases.Case) (k : B) → P (go d k).answer) where
    call_within : (c : cases.Case) (b : B) (o : Option Refusal) → P (called at o c b go).answer
    call_within c b None = on c b
    call_within c b (Some e) = faults _ at at_in

    step_within : (c : cases.Case) (b : B) (behind : ℕ) → behind ≤ n → (a : Asked s) → P (step p c b at behind a go).answer
    step_within c b behind behind_in (Ok (Some x)) = call_within (after_call c x) (p.carry c x b) (refusal_of c x)
    step_within c b behind behind_in (Ok None) = seals behind behind_in
    step_within c b behind behind_in (Err e) = faults _ at at_in

  read_within : (c : cases.Case) (b : B) (at : ℕ) (rs : Records) → at + extent rs ≤ n → P (read p c b at rs).answer
  read_within c b at none l = ends at (omega arith)
  read_within c b at (bad e) l = faults _ at (omega arith)
  read_within c b at (more kind payload rest) l =
      let behind = at + 4 + length payload in
      step_within at (omega arith) _ (λ d k. read_within d k behind rest (omega arith)) c b behind (omega arith) (p.asked kind payload)

pub front_within : (c : cases.Case) (bytes : List ℕ) → FrontWithin (length bytes) (front c bytes).answer
front_within c bytes =
    let n = length bytes in
    rw (front_start c bytes) (read_within front_part n (FrontWithin n) (λ e at l. l) (λ behind l. l) (λ at l. l) c tt 0 (records bytes) (omega (arith, records_extent bytes)))

pub body_within : (page : Page) (c : cases.Case) (start : ℕ) (words bytes : List ℕ) → start ≤ length bytes → BodyWithin (length bytes) (body page c start words bytes).answer
body_within page c start words bytes within =
    let n = length bytes in
    rw (body_start page c start words bytes within) (
    read_within (body_part page (length words)) n (BodyWithin n) (λ e at l. l) (λ behind l. tt) (λ at l. tt) c _ start (records (drop start bytes))
    (omega (arith, records_extent (drop start bytes), length-drop start bytes)))

pub offsets_within : OffsetsWithin
offsets_within = record { front_within = front_within; body_within = body_within }

-- A front and a body are read as the bytes say.
use Rattle.std.proofs.Common.{◌≡◌, ℕ, ◌<◌, List, ◌++◌, length, drop, Some, None, Ok, Err, Option, sym, refl, ap, ◌∙◌, subst}
use Rattle.std.proofs.ByRecursion.{All-drop}
use Rattle.std.proofs.lemmas.Bool.{cond-true, lt-ltb}
use Rattle.refusals.specs.declared.Refusal.{Refusal}
use Rattle.model.specs.Case as cases
use Rattle.model.specs.History.{Stage, Call, after_call}
use Rattle.model.proofs.Histories.{refusals_change_nothing}
use Rattle.runs.specs.Bytes.{Bytes}
use Rattle.records.specs.declared.fault.Cause.TheVariants.{Case}
use Rattle.records.specs.declared.fault.RecordFault.TheVariants.{ShortHead}
use Rattle.records.specs.Records.{Content, Records, bad}
use Rattle.records.specs.WrittenRecords.{written, Writable}
use Rattle.records.specs.Asking.{Asked}
use Rattle.records.proofs.Asking.{front_asks, body_asks}
use Rattle.records.proofs.Found.{Stand, stand_none, stand_bad, stand_more, records_stand}
use Rattle.files.specs.Reading.{refusal_of, Part, Reading, called, step, read, front_part, body_part, body_carries}
use Rattle.files.specs.FileReads.{due_behind, fault_at, Reads, no_bytes, no_record, payload_wrong, call_refused, call_answered, sealed, FrontExact, BodyExact, BodyPastEnd}
use Rattle.files.proofs.Reading.{refusal_is, no_refusal}
use Rattle.files.proofs.Start.{front_start, body_from, body_start}

module _ {s : Stage} {B A : Type 0} (p : Part s B A) (Asks : ℕ → List ℕ → Asked s → Type 0) (asks : (kind : ℕ) (payload : List ℕ) → Bytes payload → Asks kind payload (p.asked kind payload)) where
  abbrev IsRead : ℕ → List ℕ → cases.Case → Reading B A → Type 0
  IsRead at bytes c r = Reads s A Asks p.at_seal p.at_end at bytes c r.answer r.after

  -- a record, and what is read after it
  module _ (at : ℕ) (c : cases.Case) (b : B) (r : Content) (rest : List ℕ) (w : Writable r) (go : cases.Case → B → Reading B A) (on : (d : cases.Case) (k : B) → IsRead (due_behind at r) rest d (go d k)) where
    call_read : (x : Call s) → Asks r.kind r.payload (Ok (Some x)) → (o : Option Refusal) → refusal_of c x ≡ o → IsRead at (written r ++ rest) c (called at o (after_call c x) (p.carry c x b) go)
    call_read x asked None is = call_answered r rest w asked (no_refusal c x is) (on (after_call c x) (p.carry c x b))
    call_read x asked (Some e) is =
        let refused = (refusal_is c x e).0 is in
        subst (λ (d : cases.Case). Reads s A Asks p.at_seal p.at_end at (written r ++ rest) c (fault_at (Case e) at) d) (sym (refusals_change_nothing s c x e refused)) (call_refused r rest w asked refused)

    step_read : (a : Asked s) → Asks r.kind r.payload a → IsRead at (written r ++ rest) c (step p c b at (due_behind at r) a go)
    step_read (Ok (Some x)) asked = call_read x asked (refusal_of c x) refl
    step_read (Ok None) asked = sealed r rest w asked
    step_read (Err e) asked = payload_wrong r rest w asked

  all_read : {bytes : List ℕ} {rs : Records} → Stand bytes rs → (at : ℕ) (c : cases.Case) (b : B) → IsRead at bytes c (read p c b at rs)
  all_read stand_none at c b = no_bytes
  all_read (stand_bad missing) at c b = no_record missing
  all_read (stand_more r rest {rs} w stand) at c b =
      step_read at c b r rest w (λ d k. read p d k (due_behind at r) rs) (all_read stand (due_behind at r)) (p.asked r.kind r.payload) (asks r.kind r.payload w.payload_bytes)

pub front_exact : FrontExact
front_exact c bytes are = rw (front_start c bytes) (all_read front_part _ front_asks (records_stand bytes are) 0 c tt)

pub body_exact : BodyExact
body_exact page c start words bytes are within =
    rw (body_start page c start words bytes within)
    (all_read (body_part page (length words)) _ (body_asks page (length words)) (records_stand (drop start bytes) (All-drop (λ b. b < 256) start bytes are)) start c (body_carries words))

pub body_past_end : BodyPastEnd
body_past_end page c start words bytes past =
    let is = body_from page c start words bytes ∙ ap (read (body_part page (length words)) c (body_carries words) start) (cond-true _ (bad ShortHead) _ (lt-ltb (length bytes) start past)) in
    (ap (λ x. x.answer) is, ap (λ x. x.after) is, ap (λ x. x.carried.scratch) is)

-- Reading a file's front or body is making its records' calls.
use Rattle.std.proofs.Common.{ℕ, length, drop, Some, None, Ok, Err}
use Rattle.model.specs.Case.{Case}
use Rattle.model.specs.History.{Stage, open_stage, sealed_stage, after, Leads, no_more, refused_call, answered_call}
use Rattle.model.proofs.Making.{made}
use Rattle.records.specs.Contents.{records_from}
use Rattle.records.specs.Records.{Records, records}
use Rattle.records.specs.Asking.{Asked}
use Rattle.files.specs.Reading.{Part, read, front_part, body_part, body_carries}
use Rattle.files.specs.CallsMade.{calls_asked, FrontMakesCalls, BodyMakesCalls, FrontMakesHistory, BodyMakesHistory}
use Rattle.files.proofs.Reading.{IfCall, calls_made}
use Rattle.files.proofs.Start.{front_start, body_from, body_start}

-- every call will do
any : {s : Stage} (a : Asked s) → IfCall (λ x. Unit {0}) a
any (Ok (Some x)) = tt
any (Ok None) = tt
any (Err e) = tt

read_leads : {s : Stage} {B A : Type 0} (p : Part s B A) (c : Case) (b : B) (at : ℕ) (rs : Records) → Leads s c (calls_asked p.asked rs) (read p c b at rs).after
read_leads {s} p =
    calls_made p (λ x. Unit {0}) (λ kind payload. any (p.asked kind payload)) (λ c b xs d k. Leads s c xs d) (λ c b. no_more) (λ c b x xs e _ refused. refused_call e refused)
    (λ c b x xs d k _ answered rest. answered_call answered rest)

pub front_makes_calls : FrontMakesCalls
front_makes_calls c bytes = rw (front_start c bytes) (read_leads front_part c tt 0 (records bytes))

pub body_makes_calls : BodyMakesCalls
body_makes_calls page c start words bytes within =
    rw (body_start page c start words bytes within) (read_leads (body_part page (length words)) c (body_carries words) start (records (drop start bytes)))

pub front_makes_history : FrontMakesHistory
front_makes_history h bytes = made open_stage h (front_makes_calls (after h) bytes)

pub body_makes_history : BodyMakesHistory
body_makes_history page h start words bytes =
    made sealed_stage h (rw (body_from page (after h) start words bytes) (read_leads (body_part page (length words)) (after h) (body_carries words) start (records_from bytes start)))

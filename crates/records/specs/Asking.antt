-- The call that a record asks for, as it is written.
use Rattle.std.specs.Prelude.{◌≡◌, ◌≢◌, ℕ, ◌<◌, ◌↔◌, List, [], ◌∷◌, ◌++◌, length, Some, None, Ok, Err, Option, Result}
use Rattle.logic.specs.Run.{Run}
use Rattle.runs.specs.declared.fault.RunFault.{RunFault}
use Rattle.runs.specs.declared.fault.RunFault.TheVariants.{WrongLength as RunLength, NoRun as RunNumbers}
use Rattle.runs.specs.Pulses.{pulse_check, pulse_run}
use Rattle.runs.specs.Tables.{table_check, table_run}
use Rattle.calculus.specs.Pages.{Page}
use Rattle.std.specs.Result.{result_map_both}
use Rattle.model.specs.History.{Stage, open_stage, sealed_stage, Call, form, assume, line, refute}
use Rattle.runs.specs.Bytes.{Bytes}
use Rattle.records.specs.declared.fault.PayloadFault.{PayloadFault}
use Rattle.records.specs.declared.fault.PayloadFault.TheVariants.{KindNotAllowed, WrongLength, NoRun}
use Rattle.records.specs.declared.front_record.FrontRecord.{FrontRecord}
use Rattle.records.specs.declared.front_record.FrontRecord.TheVariants.{FormRecord, AssumeRecord, SealRecord}
use Rattle.records.specs.Payloads.{record_of_front, Request, form_request, line_request, refute_request, record_of_body}
use Rattle.records.specs.WrittenRecords.{two_bytes}

-- at a stage, what a record asks for: a call, or none at a seal; or what is wrong with it
abbrev pub Asked : Stage → Type 0
Asked s = Result (Option (Call s)) PayloadFault

-- the call that the program makes for a record of the front
abbrev pub front_call : FrontRecord → Option (Call open_stage)
front_call (FormRecord f) = Some (form f.kind f.left f.right)
front_call (AssumeRecord f) = Some (assume f)
front_call SealRecord = None

-- and for one of the body, by the page of rules and the number of scratch words
abbrev pub body_call : Page → ℕ → Request → Call sealed_stage
body_call page n (form_request f) = form f.kind f.left f.right
body_call page n (line_request l) = line page l
body_call page n (refute_request x r) = refute r x.formula x.position n

-- what the program finds that a record asks for, by its kind and payload
abbrev pub front_asked : ℕ → List ℕ → Asked open_stage
front_asked kind payload = result_map_both front_call (λ e. e) (record_of_front kind payload)

abbrev pub body_asked : Page → ℕ → ℕ → List ℕ → Asked sealed_stage
body_asked page n kind payload = result_map_both (λ x. Some (body_call page n x)) (λ e. e) (record_of_body kind payload)

-- at either stage, what the bytes of a form record ask for
pub data FormAsks (s : Stage) : List ℕ → Asked s → Type 0 where
  -- a formula's kind in one byte, and its two fields in two bytes each
  form_asked : (kind left right : ℕ) → kind < 256 → left < 65536 → right < 65536
      → FormAsks s (kind ∷ (two_bytes left ++ two_bytes right)) (Ok (Some (form kind left right)))
  -- a form record has five bytes
  form_length : {payload : List ℕ} → length payload ≢ 5 → FormAsks s payload (Err WrongLength)

-- in the front, what a kind and the bytes of a payload ask for
pub data FrontAsks : ℕ → List ℕ → Asked open_stage → Type 0 where
  front_form : {payload : List ℕ} {asked : Asked open_stage} → FormAsks open_stage payload asked → FrontAsks 1 payload asked
  -- a formula's number
  front_assume : (f : ℕ) → f < 65536 → FrontAsks 2 (two_bytes f) (Ok (Some (assume f)))
  -- nothing, since the front ends
  front_seal : FrontAsks 3 [] (Ok None)
  -- no other kind stands in a front
  front_kind_not_allowed : {kind : ℕ} {payload : List ℕ} → kind ≢ 1 → kind ≢ 2 → kind ≢ 3 → FrontAsks kind payload (Err KindNotAllowed)
  -- an assume record has two bytes, a seal record none
  front_assume_length : {payload : List ℕ} → length payload ≢ 2 → FrontAsks 2 payload (Err WrongLength)
  front_seal_length : {payload : List ℕ} → length payload ≢ 0 → FrontAsks 3 payload (Err WrongLength)

-- the number that stands for a place: 65,535 for an empty one
pub data PlaceField : Option ℕ → ℕ → Type 0 where
  empty_place : PlaceField None 65535
  place_of_line : (k : ℕ) → k < 65535 → PlaceField (Some k) k

-- what the bytes of a refutation ask for, by how a run is checked and read: the number of a formula, a position, and the bytes of a run
pub data RefutationAsks (check : List ℕ → Result (Unit {0}) RunFault) (run : List ℕ → Run) (n : ℕ) : List ℕ → Asked sealed_stage → Type 0 where
  -- bytes that pass their check give the run
  refutation_asked : (f i : ℕ) (bytes : List ℕ) → f < 65536 → i < 65536 → check bytes ≡ Ok tt
      → RefutationAsks check run n (two_bytes f ++ (two_bytes i ++ bytes)) (Ok (Some (refute (run bytes) f i n)))
  -- the two numbers have four bytes
  numbers_cut : {payload : List ℕ} → length payload < 4 → RefutationAsks check run n payload (Err WrongLength)
  -- bytes of a wrong length, or with numbers that no run has, fail it
  run_length_wrong : (f i : ℕ) (bytes : List ℕ) → f < 65536 → i < 65536 → check bytes ≡ Err RunLength
      → RefutationAsks check run n (two_bytes f ++ (two_bytes i ++ bytes)) (Err WrongLength)
  run_numbers_wrong : (f i : ℕ) (bytes : List ℕ) → f < 65536 → i < 65536 → check bytes ≡ Err RunNumbers
      → RefutationAsks check run n (two_bytes f ++ (two_bytes i ++ bytes)) (Err NoRun)

-- in the body, by the page of rules and the number of scratch words
pub data BodyAsks (page : Page) (n : ℕ) : ℕ → List ℕ → Asked sealed_stage → Type 0 where
  body_form : {payload : List ℕ} {asked : Asked sealed_stage} → FormAsks sealed_stage payload asked → BodyAsks page n 1 payload asked
  -- a rule, a formula and two places in two bytes each
  body_line : (rule formula p q : ℕ) (first second : Option ℕ) → rule < 65536 → formula < 65536 → p < 65536 → q < 65536 → PlaceField first p → PlaceField second q
      → BodyAsks page n 4 (two_bytes rule ++ (two_bytes formula ++ (two_bytes p ++ two_bytes q))) (Ok (Some (line page (record { rule = rule; formula = formula; first = first; second = second }))))
  -- a refutation by a table, or by pulses
  body_table : {payload : List ℕ} {asked : Asked sealed_stage} → RefutationAsks table_check table_run n payload asked → BodyAsks page n 5 payload asked
  body_pulses : {payload : List ℕ} {asked : Asked sealed_stage} → RefutationAsks pulse_check pulse_run n payload asked → BodyAsks page n 6 payload asked
  -- no other kind stands in a body
  body_kind_not_allowed : {kind : ℕ} {payload : List ℕ} → kind ≢ 1 → kind ≢ 4 → kind ≢ 5 → kind ≢ 6 → BodyAsks page n kind payload (Err KindNotAllowed)
  -- a line record has eight bytes
  body_line_length : {payload : List ℕ} → length payload ≢ 8 → BodyAsks page n 4 payload (Err WrongLength)

-- for every kind, and for all bytes of a payload, the program makes the call that the record asks for, or finds what is wrong with it, and no other
pub record RecordsAsk : Type 0 where
  pub front : (kind : ℕ) (payload : List ℕ) → Bytes payload → (asked : Asked open_stage) → (front_asked kind payload ≡ asked) ↔ FrontAsks kind payload asked
  pub body : (page : Page) (n kind : ℕ) (payload : List ℕ) → Bytes payload → (asked : Asked sealed_stage) → (body_asked page n kind payload ≡ asked) ↔ BodyAsks page n kind payload asked

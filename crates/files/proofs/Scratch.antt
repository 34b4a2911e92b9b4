-- Reading a body leaves as many scratch words as there were, with the rows of its last refutation that was judged.
use Rattle.std.proofs.Common.{◌≡◌, ℕ, List, length, drop, Some, None, Ok, Err, Result, refl, ◌∙◌, subst}
use Rattle.std.specs.Result.{result_map_both}
use Rattle.calculus.specs.Pages.{Page}
use Rattle.model.specs.Case.{Case}
use Rattle.model.specs.History.{sealed_stage, Call, refute}
use Rattle.model.specs.LastRows.{no_call}
use Rattle.model.proofs.LastRows.{Leaves, form_leaves, line_leaves, refute_leaves, RowsLeft, refused_leaves, answered_leaves}
use Rattle.model.proofs.Scratch.{refute_scratch_length}
use Rattle.records.specs.declared.fault.PayloadFault.{PayloadFault}
use Rattle.records.specs.Contents.{records_from}
use Rattle.records.specs.Records.{Records, records}
use Rattle.records.specs.Payloads.{Request, form_request, line_request, refute_request, record_of_body}
use Rattle.records.specs.Asking.{body_call}
use Rattle.files.specs.Reading.{scratch_after, Carried, read, body_part, body_carries}
use Rattle.files.specs.CallsMade.{body_calls, BodyKeepsScratchLength, BodyLeavesLastRows}
use Rattle.files.proofs.Reading.{IfCall, calls_made}
use Rattle.files.proofs.Start.{body_from, body_start}

module _ (page : Page) (n : ℕ) where
  -- what a call leaves of n scratch words
  record LeavesWords (x : Call sealed_stage) (c : Case) (words : List ℕ) : Type 0 where
    pub long : length (scratch_after c x words) ≡ length words
    pub leaves : Leaves sealed_stage c x words (scratch_after c x words)

  abbrev Good : Call sealed_stage → Type 0
  Good x = (c : Case) (words : List ℕ) → length words ≡ n → LeavesWords x c words

  request_good : (q : Result Request PayloadFault) → IfCall Good (result_map_both (λ x. Some (body_call page n x)) (λ e. e) q)
  request_good (Ok (form_request f)) = λ c words few. record { long = refl; leaves = form_leaves sealed_stage c f.kind f.left f.right words }
  request_good (Ok (line_request l)) = λ c words few. record { long = refl; leaves = line_leaves c page l words }
  request_good (Ok (refute_request x r)) = λ c words few. record {
    long = refute_scratch_length c r x.formula x.position words;
    leaves = subst (λ (k : ℕ). Leaves sealed_stage c (refute r x.formula x.position k) words (scratch_after c (refute r x.formula x.position k) words)) few (refute_leaves c r x.formula x.position words);
  }
  request_good (Err e) = tt

  -- what calls leave of n scratch words
  record CallsLeave (c : Case) (b : Carried) (xs : List (Call sealed_stage)) (k : Carried) : Type 0 where
    pub long : length k.scratch ≡ length b.scratch
    pub rows : RowsLeft sealed_stage c xs b.scratch k.scratch

  read_leaves : (c : Case) (b : Carried) (at : ℕ) (rs : Records) → length b.scratch ≡ n → CallsLeave c b (body_calls page n rs) (read (body_part page n) c b at rs).carried
  read_leaves =
      calls_made (body_part page n) Good (λ kind payload. request_good (record_of_body kind payload)) (λ c b xs d k. length b.scratch ≡ n → CallsLeave c b xs k)
      (λ c b few. record { long = refl; rows = (None, no_call, refl) })
      (λ c b x xs e good refused few. let left = good c b.scratch few in record { long = left.long; rows = refused_leaves e refused left.leaves })
      (λ c b x xs d k good answered rest few.
      let left = good c b.scratch few in
      let behind = rest (left.long ∙ few) in
      record { long = behind.long ∙ left.long; rows = answered_leaves answered left.leaves behind.rows })

pub body_keeps_scratch_length : BodyKeepsScratchLength
body_keeps_scratch_length page c start words bytes =
    rw (body_from page c start words bytes) (read_leaves page (length words) c (body_carries words) start (records_from bytes start) refl).long

pub body_leaves_last_rows : BodyLeavesLastRows
body_leaves_last_rows page c start words bytes within =
    rw (body_start page c start words bytes within) (read_leaves page (length words) c (body_carries words) start (records (drop start bytes)) refl).rows

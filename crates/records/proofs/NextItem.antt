-- What is left of a file's records, by what is found first.
use Rattle.std.proofs.Common.{◌≡◌, ℕ, ◌+◌, ◌≤◌, ltb, Bool, true, false, cond, List, [], length, drop, IfOk, MatchOption, Some, None, Ok, Err, Option, Result, sym, refl, ap, ap₂, ◌∙◌, arith, length-drop}
use Rattle.std.proofs.lemmas.List.{drop-drop, drop_all}
use Rattle.std.proofs.lemmas.Bool.{cond-false, cond_both, le-ltb, ltb-false}
use Rattle.std.specs.Result.{result_transpose}
use Rattle.records.specs.declared.fault.ErrorAt.{ErrorAt}
use Rattle.records.specs.declared.fault.RecordFault.{RecordFault}
use Rattle.records.specs.declared.fault.RecordFault.TheVariants.{ShortHead}
use Rattle.records.specs.declared.record.Record as declared
use Rattle.records.specs.declared.record.Records as iterator
use Rattle.records.specs.Contents.{content, content_at, Placed, item_found, behind_item, item_view, NextGives, IsPlaced, records_from, records_left, YieldsRecord, NextYields}
use Rattle.records.specs.Faults.{error_at}
use Rattle.records.specs.Records.{Content, Records, none, bad, more, first_content, led_by, records}
use Rattle.records.proofs.Cutting.{records_led}
use Rattle.records.proofs.Extents.{Within, first_within}

-- from an offset that does not lie past the end
pub records_within : (bytes : List ℕ) (at : ℕ) → at ≤ length bytes → records_from bytes at ≡ records (drop at bytes)
records_within bytes at l = cond-false _ _ _ (le-ltb (length bytes) at l)

-- from the end on there are none
records_ended : (bytes : List ℕ) → records_from bytes (length bytes) ≡ none
records_ended bytes = records_within bytes (length bytes) (omega arith) ∙ ap records (drop_all (length bytes) bytes (omega arith)) ∙ records_led []

-- the records after the one at an offset
abbrev rest_from : List ℕ → ℕ → ℕ → Records
rest_from bytes at behind = records (drop behind (drop at bytes))

-- a fault in place of a record is one in place of the records that it leads
led_or_bad : (past : Bool) (r : Result (Option Content) RecordFault) (f : ℕ → Records) → cond past (bad ShortHead) (led_by r f) ≡ led_by (cond past (Err ShortHead) r) f
led_or_bad true r f = refl
led_or_bad false r f = refl

-- the records from an offset on are led by the one that is found there
records_from_led : (bytes : List ℕ) (at : ℕ) → records_from bytes at ≡ led_by (content_at bytes at) (rest_from bytes at)
records_from_led bytes at = ap (cond (ltb (length bytes) at) (bad ShortHead)) (records_led (drop at bytes)) ∙ led_or_bad (ltb (length bytes) at) _ _

-- what is found at an offset lies within the file: at its end where nothing is found, and else the whole record
abbrev InFile : List ℕ → ℕ → Result (Option Content) RecordFault → Type 0
InFile bytes at (Ok None) = at ≡ length bytes
InFile bytes at (Ok (Some r)) = at + 4 + length r.payload ≤ length bytes
InFile bytes at (Err e) = Unit {0}

in_file : (bytes : List ℕ) (at : ℕ) (r : Result (Option Content) RecordFault) → at ≤ length bytes → Within (length (drop at bytes)) r → InFile bytes at r
in_file bytes at (Ok None) inside empty = omega (arith, length-drop at bytes)
in_file bytes at (Ok (Some r)) inside room = omega (arith, length-drop at bytes)
in_file bytes at (Err e) inside within = tt

found_in_file : (bytes : List ℕ) (at : ℕ) → InFile bytes at (content_at bytes at)
found_in_file bytes at =
    cond_both (ltb (length bytes) at) _ _ (InFile bytes at) (λ _. tt)
    (λ inside. in_file bytes at (first_content (drop at bytes)) (ltb-false (length bytes) at inside) (first_within (drop at bytes)))

-- the records from an offset on are those that another iterator has left there
module _ (s t : iterator.Records) (file : t.file.now ≡ s.file.now) where
  left_at : (k : ℕ) → t.offset ≡ k → k ≤ length s.file.now → records_left t ≡ records (drop k s.file.now)
  left_at k offset inside = ap₂ records_from file offset ∙ records_within s.file.now k inside

  left_ended : t.offset ≡ length s.file.now → records_left t ≡ none
  left_ended offset = ap₂ records_from file offset ∙ records_ended s.file.now

  -- by what is found at the offset
  yields_found : (item : Option (Result declared.Record (ErrorAt RecordFault))) (r : Result (Option Content) RecordFault) → records_left s ≡ led_by r (rest_from s.file.now s.offset) → InFile s.file.now s.offset r
      → item_view item ≡ item_found s.offset r → t.offset ≡ behind_item (length s.file.now) (item_found s.offset r) → YieldsRecord s item t
  yields_found None (Ok None) led end is offset = record { same = file; yields = record { ended = led; end = end; rest = left_ended offset } }
  yields_found None (Ok (Some c)) led room is offset = cc
  yields_found None (Err e) led within is offset = cc
  yields_found (Some (Ok r)) (Ok None) led end is offset = cc
  yields_found (Some (Ok r)) (Ok (Some c)) led room is offset =
      let at : ℕ = s.offset in
      let n : ℕ = 4 + length c.payload in
      let same : ◌≡◌ {A = Placed} (record { offset = r.offset; kind = r.kind; payload = r.payload.now; behind = r.behind }) (record { offset = at; kind = c.kind; payload = c.payload; behind = at + 4 + length c.payload }) = cc in
      let behind : r.behind ≡ at + 4 + length c.payload = ap (λ (p : Placed). p.behind) same in
      let payload : r.payload.now ≡ c.payload = ap (λ (p : Placed). p.payload) same in
      let kind : r.kind ≡ c.kind = ap (λ (p : Placed). p.kind) same in
      let past : at + n ≡ at + 4 + length c.payload = omega arith in
      let rest : rest_from s.file.now at n ≡ records_left t = ap records (drop-drop n at s.file.now ∙ ap (λ (k : ℕ). drop k s.file.now) past) ∙ sym (left_at (at + 4 + length c.payload) offset room) in
      record {
        same = file;
        yields = record {
          led = led ∙ ap (more c.kind c.payload) rest ∙ ap₂ (λ (k : ℕ) (bytes : List ℕ). more k bytes (records_left t)) (sym kind) (sym payload);
          place = record { head = ap (λ (p : Placed). p.offset) same; behind = behind ∙ ap (λ (bytes : List ℕ). at + 4 + length bytes) (sym payload); within = omega (arith, behind) };
          next = offset ∙ sym behind;
        };
      }
  yields_found (Some (Ok r)) (Err e) led within is offset = cc
  yields_found (Some (Err e)) (Ok None) led end is offset = cc
  yields_found (Some (Err e)) (Ok (Some c)) led room is offset = cc
  yields_found (Some (Err e)) (Err f) led within is offset =
      let same : ◌≡◌ {A = ErrorAt RecordFault} e (record { error = f; offset = s.offset }) = cc in
      record { same = file; yields = record { faulted = led ∙ ap bad (sym (ap (λ (x : ErrorAt RecordFault). x.error) same)); head = ap (λ (x : ErrorAt RecordFault). x.offset) same; rest = left_ended offset } }

-- what a call of `next` gives is found first in what is left
pub next_yields : NextYields
next_yields s item t gives =
    yields_found s t gives.file item (content_at s.file.now s.offset) (records_from_led s.file.now s.offset) (found_in_file s.file.now s.offset) gives.yielded gives.offset

-- where the search for records goes on
abbrev pub offset_behind : iterator.Records → Option (Result declared.Record (ErrorAt RecordFault)) → ℕ
offset_behind s None = s.offset
offset_behind s (Some (Ok r)) = r.behind
offset_behind s (Some (Err e)) = length s.file.now

-- a record as an item
abbrev as_item : Placed → Option (Result Placed (ErrorAt RecordFault))
as_item p = Some (Ok p)

module _ (s : iterator.Records) where
  shown : (r : Result (Option declared.Record) RecordFault) → IfOk r (λ o. MatchOption o (s.offset ≡ length s.file.now) (IsPlaced s.file.now s.offset))
      → item_view (result_transpose (error_at s.offset r)) ≡ item_found s.offset (content r)
  shown (Ok None) end = refl
  shown (Ok (Some r)) place =
      ap₂ (λ (at behind : ℕ). as_item (record { offset = at; kind = r.kind; payload = r.payload.now; behind = behind })) place.head place.behind
  shown (Err e) place = refl

  goes_on : (r : Result (Option declared.Record) RecordFault) → IfOk r (λ o. MatchOption o (s.offset ≡ length s.file.now) (IsPlaced s.file.now s.offset))
      → offset_behind s (result_transpose (error_at s.offset r)) ≡ behind_item (length s.file.now) (item_found s.offset (content r))
  goes_on (Ok None) end = end
  goes_on (Ok (Some r)) place = place.behind
  goes_on (Err e) place = refl

  -- the record that is found at the offset is what `next` gives
  pub found : (r : Result (Option declared.Record) RecordFault) → content r ≡ content_at s.file.now s.offset
      → IfOk r (λ o. MatchOption o (s.offset ≡ length s.file.now) (IsPlaced s.file.now s.offset))
      → NextGives s (result_transpose (error_at s.offset r)) (record { file = s.file; offset = offset_behind s (result_transpose (error_at s.offset r)) })
  found r value place = record {
    file = refl;
    yielded = shown r place ∙ ap (item_found s.offset) value;
    offset = goes_on r place ∙ ap (λ x. behind_item (length s.file.now) (item_found s.offset x)) value;
  }

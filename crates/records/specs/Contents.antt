-- The records of a file from an offset on, and what the program's records hold.
use Rattle.std.specs.Prelude.{◌≡◌, ℕ, ◌+◌, ◌≤◌, if◌then◌else◌, List, length, drop, Some, None, Ok, Err, Option, Result, MatchOption, MatchResult, nat_lt}
use Rattle.records.specs.declared.fault.ErrorAt.{ErrorAt}
use Rattle.records.specs.declared.fault.RecordFault.{RecordFault}
use Rattle.records.specs.declared.fault.RecordFault.TheVariants.{ShortHead}
use Rattle.records.specs.declared.record.Record as declared
use Rattle.records.specs.declared.record.Records as iterator
use Rattle.records.specs.Records.{Content, first_content, Records, none, bad, more, records}

-- a record of the program holds its kind and the bytes that its payload points to
abbrev pub content : {E : Type 0} → Result (Option declared.Record) E → Result (Option Content) E
content (Ok None) = Ok None
content (Ok (Some r)) = Ok (Some (record { kind = r.kind; payload = r.payload.now }))
content (Err e) = Err e

-- the record at an offset, which must not lie past the end
abbrev pub content_at : List ℕ → ℕ → Result (Option Content) RecordFault
content_at bytes at = if nat_lt (length bytes) at then Err ShortHead else first_content (drop at bytes)

-- a record where it stands in a file: the offset of its head, its kind, its payload, and the offset after it
pub record Placed : Type 0 where
  pub offset : ℕ
  pub kind : ℕ
  pub payload : List ℕ
  pub behind : ℕ

-- what is yielded for the record that is found at an offset: nothing where there are no more bytes, or what is wrong there
abbrev pub item_found : ℕ → Result (Option Content) RecordFault → Option (Result Placed (ErrorAt RecordFault))
item_found at (Ok None) = None
item_found at (Ok (Some r)) = Some (Ok (record { offset = at; kind = r.kind; payload = r.payload; behind = at + 4 + length r.payload }))
item_found at (Err e) = Some (Err (record { error = e; offset = at }))

-- the offset at which the search goes on: after a record, and else at the end
abbrev pub behind_item : ℕ → Option (Result Placed (ErrorAt RecordFault)) → ℕ
behind_item end None = end
behind_item end (Some (Ok r)) = r.behind
behind_item end (Some (Err e)) = end

-- what a call of `next` yields of a file from an offset on, and the offset afterwards
abbrev pub next_item : List ℕ → ℕ → Option (Result Placed (ErrorAt RecordFault))
next_item bytes at = item_found at (content_at bytes at)

abbrev pub next_offset : List ℕ → ℕ → ℕ
next_offset bytes at = behind_item (length bytes) (next_item bytes at)

-- what an item of the program holds: the bytes that its payload points to, and all else as it is
abbrev pub item_view : Option (Result declared.Record (ErrorAt RecordFault)) → Option (Result Placed (ErrorAt RecordFault))
item_view None = None
item_view (Some (Ok r)) = Some (Ok (record { offset = r.offset; kind = r.kind; payload = r.payload.now; behind = r.behind }))
item_view (Some (Err e)) = Some (Err e)

-- a call of `next` on the records from an offset on
pub record NextGives (s : iterator.Records) (item : Option (Result declared.Record (ErrorAt RecordFault))) (t : iterator.Records) : Type 0 where
  pub file : t.file.now ≡ s.file.now
  pub yielded : item_view item ≡ next_item s.file.now s.offset
  pub offset : t.offset ≡ next_offset s.file.now s.offset

-- a record of the program tells where it stands
pub record IsPlaced (bytes : List ℕ) (at : ℕ) (r : declared.Record) : Type 0 where
  pub head : r.offset ≡ at
  pub behind : r.behind ≡ at + 4 + length r.payload.now
  pub within : r.behind ≤ length bytes

-- the records from an offset on, which must not lie past the end
abbrev pub records_from : List ℕ → ℕ → Records
records_from bytes at = if nat_lt (length bytes) at then bad ShortHead else records (drop at bytes)

-- the records that are left
abbrev pub records_left : iterator.Records → Records
records_left s = records_from s.file.now s.offset

-- a record was found first, and what is left then is after it
pub record YieldsMore (s t : iterator.Records) (r : declared.Record) : Type 0 where
  pub led : records_left s ≡ more r.kind r.payload.now (records_left t)
  pub place : IsPlaced s.file.now s.offset r
  pub next : t.offset ≡ r.behind

-- a fault was found first, and then nothing is left
pub record YieldsBad (s t : iterator.Records) (e : ErrorAt RecordFault) : Type 0 where
  pub faulted : records_left s ≡ bad e.error
  pub head : e.offset ≡ s.offset
  pub rest : records_left t ≡ none

-- nothing was left, at the end of the file
pub record YieldsNone (s t : iterator.Records) : Type 0 where
  pub ended : records_left s ≡ none
  pub end : s.offset ≡ length s.file.now
  pub rest : records_left t ≡ none

-- what a call of `next` finds first in what is left, and what is left then of the same file
pub record YieldsRecord (s : iterator.Records) (item : Option (Result declared.Record (ErrorAt RecordFault))) (t : iterator.Records) : Type 0 where
  pub same : t.file.now ≡ s.file.now
  pub yields : MatchOption item (YieldsNone s t) (λ x. MatchResult x (YieldsMore s t) (YieldsBad s t))

-- what a call of `next` gives is found first in what is left
abbrev pub NextYields : Type 0
NextYields = (s : iterator.Records) (item : Option (Result declared.Record (ErrorAt RecordFault))) (t : iterator.Records) → NextGives s item t → YieldsRecord s item t

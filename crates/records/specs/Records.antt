-- A file's bytes as records.
use Rattle.std.specs.Prelude.{ℕ, zero, suc, ◌+◌, List, length, take, drop, Some, None, Ok, Err, Option, Result, ◌==◌, if◌then◌else◌, nat_lt}
use Rattle.runs.specs.Bytes.{word}
use Rattle.records.specs.declared.fault.RecordFault.{RecordFault}
use Rattle.records.specs.declared.fault.RecordFault.TheVariants.{ShortHead, PayloadCut}

-- what a record holds
pub record Content : Type 0 where
  pub kind : ℕ
  pub payload : List ℕ

-- the first record, if there are bytes: a head of four bytes has the payload's length and the kind
abbrev pub first_content : List ℕ → Result (Option Content) RecordFault
first_content bytes =
    if length bytes == 0 then Ok None
    else (if nat_lt (length bytes) 4 then Err ShortHead
    else (if nat_lt (length bytes) (4 + word bytes 0) then Err PayloadCut
    else Ok (Some (record { kind = word bytes 2; payload = take (word bytes 0) (drop 4 bytes) }))))

-- records one after another, each with its kind and payload, up to the end of the bytes or a fault
pub data Records : Type 0 where
  none : Records
  bad : RecordFault → Records
  more : ℕ → List ℕ → Records → Records

-- the first record, and those from the offset after it on
abbrev pub led_by : Result (Option Content) RecordFault → (ℕ → Records) → Records
led_by (Ok None) from = none
led_by (Err e) from = bad e
led_by (Ok (Some r)) from = more r.kind r.payload (from (4 + length r.payload))

-- at most n records
abbrev pub cut : ℕ → List ℕ → Records
cut zero bytes = none
cut (suc n) bytes = led_by (first_content bytes) (λ behind. cut n (drop behind bytes))

-- a record has four bytes at least, so that the length is a number of records that is never reached
unfoldable pub records : List ℕ → Records
records bytes = cut (length bytes) bytes

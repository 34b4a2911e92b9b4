-- Records written as bytes, and that these are read back.
use Rattle.std.specs.Prelude.{◌≡◌, ℕ, ◌/◌, ◌%◌, ◌<◌, List, [], ◌∷◌, ◌++◌, length}
use Rattle.std.specs.List.{AllByRecursion}
use Rattle.runs.specs.Bytes.{Bytes}
use Rattle.records.specs.declared.fault.RecordFault.{RecordFault}
use Rattle.records.specs.declared.fault.RecordFault.TheVariants.{ShortHead, PayloadCut}
use Rattle.records.specs.Records.{Content, Records, none, more, records}

-- a number in two bytes, the low one first
abbrev pub two_bytes : ℕ → List ℕ
two_bytes n = n % 256 ∷ n / 256 ∷ []

-- the payload's length, the kind, and the payload
abbrev pub written : Content → List ℕ
written r = two_bytes (length r.payload) ++ (two_bytes r.kind ++ r.payload)

-- one record after another
abbrev pub all_written : List Content → List ℕ
all_written [] = []
all_written (r ∷ rs) = written r ++ all_written rs

-- the records that are to be read back
abbrev pub listed : List Content → Records
listed [] = none
listed (r ∷ rs) = more r.kind r.payload (listed rs)

-- a record of bytes whose kind and payload's length have room in two bytes each
pub record Writable (r : Content) : Type 0 where
  pub kind_fits : r.kind < 65536
  pub length_fits : length r.payload < 65536
  pub payload_bytes : Bytes r.payload

-- records that can be written are written as bytes, and the same records are read from these
abbrev pub RecordsReadBack : Type 0
RecordsReadBack = (rs : List Content) → AllByRecursion Writable rs → Bytes (all_written rs) × (records (all_written rs) ≡ listed rs)

-- where there are bytes, and no record: they are too few for a head, or for the payload that their head announces
pub data NoRecord : List ℕ → RecordFault → Type 0 where
  short_head : {bytes : List ℕ} → 0 < length bytes → length bytes < 4 → NoRecord bytes ShortHead
  payload_cut : (n kind : ℕ) (rest : List ℕ) → n < 65536 → kind < 65536 → length rest < n → NoRecord (two_bytes n ++ (two_bytes kind ++ rest)) PayloadCut

-- Written records are read back.
use Rattle.std.proofs.Common.{◌≡◌, ℕ, ◌+◌, ◌<◌, List, [], ◌∷◌, ◌++◌, length, drop, Some, Ok, sym, refl, ap, ◌∙◌, arith}
use native.Mathlib.Nat.{mod-add-div}
use Rattle.std.proofs.ByRecursion.{All-append}
use Rattle.std.proofs.lemmas.List.{length-append, take_at, drop_at, drop-drop}
use Rattle.std.proofs.lemmas.Bool.{cond-false, ne_eqb, le-ltb}
use Rattle.runs.specs.Bytes.{Bytes, word}
use Rattle.records.specs.Records.{Content, more, first_content, led_by, records}
use Rattle.records.specs.WrittenRecords.{two_bytes, written, all_written, Writable, RecordsReadBack}
use Rattle.records.proofs.Cutting.{records_led}

two_bytes_fit : (n : ℕ) → n < 65536 → Bytes (two_bytes n)
two_bytes_fit n l = (omega arith, (omega arith, tt))

written_bytes : (r : Content) → Writable r → Bytes (written r)
written_bytes r w =
    All-append (λ n. n < 256) (two_bytes (length r.payload)) (two_bytes r.kind ++ r.payload) (two_bytes_fit _ w.length_fits)
    (All-append (λ n. n < 256) (two_bytes r.kind) r.payload (two_bytes_fit _ w.kind_fits) w.payload_bytes)

-- the first record is found in front of whatever follows
first_written : (r : Content) (rest : List ℕ) → first_content (written r ++ rest) ≡ Ok (Some r)
first_written r rest =
    let bytes = written r ++ rest in
    let n = length r.payload in
    let long : word bytes 0 ≡ n = mod-add-div n 256 in
    let all : length bytes ≡ 4 + (n + length rest) = omega (arith, length-append r.payload rest) in
    cond-false _ _ _ (ne_eqb (length bytes) 0 (λ e. omega arith))
    ∙ cond-false _ _ _ (le-ltb (length bytes) 4 (omega arith))
    ∙ cond-false _ _ _ (le-ltb (length bytes) (4 + word bytes 0) (omega arith))
    ∙ rw (mod-add-div r.kind 256, long, take_at r.payload rest n refl)

pub behind_written : (r : Content) (rest : List ℕ) → drop (4 + length r.payload) (written r ++ rest) ≡ rest
behind_written r rest = sym (drop-drop (length r.payload) 4 (written r ++ rest)) ∙ drop_at r.payload rest (length r.payload) refl

pub records_read_back : RecordsReadBack
records_read_back [] w = (tt, records_led [])
records_read_back (r ∷ rs) (w, ws) =
    let rest = all_written rs in
    let back = records_read_back rs ws in (
      All-append (λ n. n < 256) (written r) rest (written_bytes r w) back.0,
      records_led (written r ++ rest) ∙ ap (λ x. led_by x (λ behind. records (drop behind (written r ++ rest)))) (first_written r rest)
          ∙ ap (λ (bytes : List ℕ). more r.kind r.payload (records bytes)) (behind_written r rest)
          ∙ ap (more r.kind r.payload) back.1,
    )

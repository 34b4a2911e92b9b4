-- What stands in a file's bytes, one record after another.
use Rattle.std.proofs.Common.{◌≡◌, ℕ, zero, suc, ◌+◌, ◌<◌, ◌≤◌, eqb, ltb, List, [], ◌∷◌, ◌++◌, length, take, drop, Some, None, Ok, Err, Option, Result, sym, ap₂, ◌∙◌, subst, arith, length-drop, length-take}
use Rattle.std.proofs.ByRecursion.{All-take, All-drop}
use Rattle.std.proofs.lemmas.List.{length-append, drop_all, take-append-drop}
use Rattle.std.proofs.lemmas.Bool.{cond_both, eqb-false, eqb-true, ltb-true, ltb-false}
use Rattle.runs.specs.Bytes.{Bytes, word}
use Rattle.records.specs.declared.fault.RecordFault.{RecordFault}
use Rattle.records.specs.declared.fault.RecordFault.TheVariants.{PayloadCut}
use Rattle.records.specs.Records.{Content, Records, none, bad, more, first_content, led_by, cut, records}
use Rattle.records.specs.WrittenRecords.{two_bytes, written, Writable, NoRecord, short_head, payload_cut}
use Rattle.records.proofs.ReadBack.{behind_written}
use Rattle.records.proofs.TwoBytes.{word_fits, four_bytes}

-- what stands first
data First : List ℕ → Result (Option Content) RecordFault → Type 0 where
  first_none : First [] (Ok None)
  first_bad : {bytes : List ℕ} {e : RecordFault} → NoRecord bytes e → First bytes (Err e)
  first_record : (r : Content) (rest : List ℕ) → Writable r → First (written r ++ rest) (Ok (Some r))

module _ (bytes : List ℕ) (are : Bytes bytes) where
  module _ (head : 4 ≤ length bytes) where
    cut_first : length bytes < 4 + word bytes 0 → First bytes (Err PayloadCut)
    cut_first few =
        first_bad (subst (λ (xs : List ℕ). NoRecord xs PayloadCut) (sym (four_bytes bytes are head))
        (payload_cut (word bytes 0) (word bytes 2) (drop 4 bytes) (word_fits bytes are 0 (omega arith)) (word_fits bytes are 2 (omega arith)) (omega (arith, length-drop 4 bytes))))

    whole_first : 4 + word bytes 0 ≤ length bytes → First bytes (Ok (Some (record { kind = word bytes 2; payload = take (word bytes 0) (drop 4 bytes) })))
    whole_first room =
        let n = word bytes 0 in
        let behind = drop 4 bytes in
        let r : Content = record { kind = word bytes 2; payload = take n behind } in
        let long : length (take n behind) ≡ n = omega (arith, length-take n behind, length-drop 4 bytes) in
        let is : written r ++ drop n behind ≡ bytes =
        ap₂ (λ (k : ℕ) (xs : List ℕ). two_bytes k ++ (two_bytes (word bytes 2) ++ xs)) long (take-append-drop n behind) ∙ sym (four_bytes bytes are head) in
        let fits : word bytes 0 < 65536 = word_fits bytes are 0 (omega arith) in
        subst (λ (xs : List ℕ). First xs (Ok (Some r))) is
        (first_record r (drop n behind)
        (record {
          kind_fits = word_fits bytes are 2 (omega arith);
          length_fits = omega arith;
          payload_bytes = All-take (λ b. b < 256) n behind (All-drop (λ b. b < 256) 4 bytes are);
        }))

  first_found : First bytes (first_content bytes)
  first_found =
      cond_both (eqb (length bytes) 0) _ _ (First bytes)
      (λ empty. let none_left = eqb-true (length bytes) 0 empty in subst (λ (xs : List ℕ). First xs (Ok None)) (sym (drop_all 0 bytes (omega arith))) first_none) (λ some.
      let any = eqb-false (length bytes) 0 some in
      cond_both (ltb (length bytes) 4) _ _ (First bytes)
      (λ short. first_bad (short_head (omega arith) (ltb-true (length bytes) 4 short))) (λ head.
      let four = ltb-false (length bytes) 4 head in
      cond_both (ltb (length bytes) (4 + word bytes 0)) _ _ (First bytes)
      (λ few. cut_first four (ltb-true (length bytes) (4 + word bytes 0) few))
      (λ room. whole_first four (ltb-false (length bytes) (4 + word bytes 0) room))))

-- records stand one after another, up to the end of the bytes or a fault
pub data Stand : List ℕ → Records → Type 0 where
  stand_none : Stand [] none
  stand_bad : {bytes : List ℕ} {e : RecordFault} → NoRecord bytes e → Stand bytes (bad e)
  stand_more : (r : Content) (rest : List ℕ) {rs : Records} → Writable r → Stand rest rs → Stand (written r ++ rest) (more r.kind r.payload rs)

-- what stands first, and what stands after it
led_stand : {bytes : List ℕ} {r : Result (Option Content) RecordFault} (f : ℕ → Records) → First bytes r → Bytes bytes
    → ((k : ℕ) → 4 ≤ k → k ≤ length bytes → Bytes (drop k bytes) → Stand (drop k bytes) (f k)) → Stand bytes (led_by r f)
led_stand f first_none are behind = stand_none
led_stand f (first_bad missing) are behind = stand_bad missing
led_stand f (first_record r rest w) are behind =
    let k = 4 + length r.payload in
    let all = written r ++ rest in
    let within : k ≤ length all = omega (arith, length-append r.payload rest) in
    stand_more r rest w (subst (λ (xs : List ℕ). Stand xs (f k)) (behind_written r rest) (behind k (omega arith) within (All-drop (λ b. b < 256) k all are)))

-- by a number of records that is not reached
cut_stand : (n : ℕ) (bytes : List ℕ) → length bytes ≤ n → Bytes bytes → Stand bytes (cut n bytes)
cut_stand zero [] l are = stand_none
cut_stand zero (x ∷ xs) l are = absurd (omega arith)
cut_stand (suc n) bytes l are =
    led_stand (λ k. cut n (drop k bytes)) (first_found bytes are) are (λ k some within rest. cut_stand n (drop k bytes) (omega (arith, length-drop k bytes)) rest)

pub records_stand : (bytes : List ℕ) → Bytes bytes → Stand bytes (records bytes)
unfolding records
records_stand bytes are = cut_stand (length bytes) bytes (omega arith) are

-- Records take up no more bytes than there are.
use Rattle.std.proofs.Common.{◌≡◌, ℕ, zero, suc, ◌+◌, ◌≤◌, eqb, List, length, drop, Some, None, Ok, Err, Option, Result, arith, length-drop, length-take}
use lib.Dec
use Rattle.std.proofs.lemmas.Bool.{cond_both, eqb-true, ltb-false}
use Rattle.runs.specs.Bytes.{word}
use Rattle.records.specs.declared.fault.RecordFault.{RecordFault}
use Rattle.records.specs.Records.{Content, Records, none, bad, more, first_content, led_by, cut, records}

-- how many bytes records take up
abbrev pub extent : Records → ℕ
extent none = 0
extent (bad e) = 0
extent (more kind payload rest) = 4 + length payload + extent rest

-- a record that is found takes up no more bytes than there are, and none is found only where there are none
abbrev pub Within : ℕ → Result (Option Content) RecordFault → Type 0
Within n (Ok None) = n ≡ 0
Within n (Ok (Some r)) = 4 + length r.payload ≤ n
Within n (Err e) = Unit {0}

pub first_within : (bytes : List ℕ) → Within (length bytes) (first_content bytes)
first_within bytes =
    cond_both (eqb (length bytes) 0) _ _ (Within (length bytes)) (λ empty. eqb-true (length bytes) 0 empty) (λ _.
    cond_both (Dec.ltb (length bytes) 4) _ _ (Within (length bytes)) (λ _. tt) (λ _.
    cond_both (Dec.ltb (length bytes) (4 + word bytes 0)) _ _ (Within (length bytes)) (λ _. tt) (λ room.
    omega (arith, length-take (word bytes 0) (drop 4 bytes), ltb-false (length bytes) (4 + word bytes 0) room))))

led_extent : (bytes : List ℕ) (r : Result (Option Content) RecordFault) → Within (length bytes) r → (f : ℕ → Records)
    → ((k : ℕ) → extent (f k) ≤ length (drop k bytes)) → extent (led_by r f) ≤ length bytes
led_extent bytes (Ok None) within f rest = omega arith
led_extent bytes (Ok (Some r)) within f rest = omega (arith, rest (4 + length r.payload), length-drop (4 + length r.payload) bytes)
led_extent bytes (Err e) within f rest = omega arith

cut_extent : (n : ℕ) (bytes : List ℕ) → extent (cut n bytes) ≤ length bytes
cut_extent zero bytes = omega arith
cut_extent (suc n) bytes = led_extent bytes (first_content bytes) (first_within bytes) (λ behind. cut n (drop behind bytes)) (λ k. cut_extent n (drop k bytes))

pub records_extent : (bytes : List ℕ) → extent (records bytes) ≤ length bytes
unfolding records
records_extent bytes = cut_extent (length bytes) bytes

-- Where the numbers of a run's bytes stand, after those that they begin with: bytes are taken apart into arrays of one length.
use Rattle.std.proofs.Common.{◌≡◌, ℕ, zero, suc, ◌+◌, ◌*◌, ◌/◌, ◌%◌, ◌^◌, ◌<◌, ◌≤◌, List, [], length, get_or, drop, refl, sym, ap, ap₂, ◌∙◌, inl, inr, subst, arith, length-drop, get_or-drop, get_or-take}
use Rattle.std.proofs.ByRecursion.{All-get_or}
use Rattle.std.specs.Simd.{first_chunks}
use Rattle.std.proofs.lemmas.Bool.{cases_lt}
use Rattle.std.proofs.lemmas.List.{get_or_past}
use Rattle.rows.specs.Row.{testBit}
use Rattle.rows.proofs.Bits.{bit_shr, bit_mod}
use Rattle.runs.specs.declared.pulse.Pulse.{Pulse}
use Rattle.runs.specs.Bytes.{Bytes, word, double_word}
use Rattle.runs.specs.Fields.{pulse_atom, pulse_first, pulse_period, pulse_width}
use Rattle.runs.specs.Pulses.{pulses_in}
use Rattle.runs.specs.Tables.{words_in}
use Rattle.runs.proofs.Arrays.{pulse_there}

-- a byte of an array, also past the end
in_chunk : (size count : ℕ) (xs : List ℕ) (i j : ℕ) → length xs ≡ count * size → j < size → get_or (get_or (first_chunks size count xs) i []) j 0 ≡ get_or xs (size * i + j) 0
in_chunk size zero xs i j e h = sym (get_or_past xs (size * i + j) 0 (omega arith))
in_chunk size (suc count) xs zero j e h = rw get_or-take (ap (λ k. get_or xs k 0) (omega arith))
in_chunk size (suc count) xs (suc i) j e h =
    in_chunk size count (drop size xs) i j (omega (arith, length-drop size xs)) h
    ∙ get_or-drop size xs (size * i + j) 0
    ∙ ap (λ k. get_or xs k 0) (omega arith)

pub length-chunks : (size count : ℕ) (xs : List ℕ) → length (first_chunks size count xs) ≡ count
length-chunks size zero xs = refl
length-chunks size (suc count) xs = omega (arith, length-chunks size count (drop size xs))

-- a number of an array is that of two of the bytes, after n of them
field : (n size count : ℕ) (bytes : List ℕ) (i at low high : ℕ) → length (drop n bytes) ≡ count * size → at + 1 < size → n + (size * i + at) ≡ low → n + (size * i + (at + 1)) ≡ high
    → word (get_or (first_chunks size count (drop n bytes)) i []) at ≡ get_or bytes low 0 + 256 * get_or bytes high 0
field n size count bytes i at low high long within l h =
    ap₂ (λ x y. x + 256 * y)
    (in_chunk size count (drop n bytes) i at long (omega arith) ∙ get_or-drop n bytes (size * i + at) 0 ∙ ap (λ k. get_or bytes k 0) l)
    (in_chunk size count (drop n bytes) i (at + 1) long within ∙ get_or-drop n bytes (size * i + (at + 1)) 0 ∙ ap (λ k. get_or bytes k 0) h)

-- pulse k by its bytes
abbrev pub standing : List ℕ → ℕ → Pulse
standing bytes k = record { atom = pulse_atom bytes k; first = pulse_first bytes k; period = pulse_period bytes k; width = pulse_width bytes k }

pub pulse_stands : (bytes : List ℕ) (k : ℕ) (d : Pulse) → length (drop 2 bytes) % 8 ≡ 0 → k < length (drop 2 bytes) / 8 → get_or (pulses_in bytes) k d ≡ standing bytes k
pulse_stands bytes k d whole l =
    let n = length (drop 2 bytes) / 8 in
    let long : length (drop 2 bytes) ≡ n * 8 = omega arith in
    let atom = field 2 8 n bytes k 0 (2 + 8 * k) (3 + 8 * k) long (omega arith) (omega arith) (omega arith) in
    let first = field 2 8 n bytes k 2 (4 + 8 * k) (5 + 8 * k) long (omega arith) (omega arith) (omega arith) in
    let period = field 2 8 n bytes k 4 (6 + 8 * k) (7 + 8 * k) long (omega arith) (omega arith) (omega arith) in
    let width = field 2 8 n bytes k 6 (8 + 8 * k) (9 + 8 * k) long (omega arith) (omega arith) (omega arith) in
    pulse_there (first_chunks 8 n (drop 2 bytes)) k [] d (omega (arith, length-chunks 8 n (drop 2 bytes))) ∙ cc

-- the word for position i
pub word_stands : (bytes : List ℕ) (i : ℕ) → length (drop 4 bytes) % 4 ≡ 0 → double_word (get_or (words_in bytes) i []) 0 ≡ double_word bytes (4 + 4 * i)
word_stands bytes i whole =
    let n = length (drop 4 bytes) / 4 in
    let long : length (drop 4 bytes) ≡ n * 4 = omega arith in
    ap₂ (λ x y. x + 65536 * y)
    (field 4 4 n bytes i 0 (4 + 4 * i) (4 + 4 * i + 1) long (omega arith) (omega arith) (omega arith))
    (field 4 4 n bytes i 2 (4 + 4 * i + 2) (4 + 4 * i + 2 + 1) long (omega arith) (omega arith) (omega arith))

-- ---- the bits of words

-- the four bytes of a number of 32 bits
abbrev Four : ℕ → ℕ → ℕ → ℕ → Type 0
Four a b c d =
    let n : ℕ = a + 256 * b + 65536 * (c + 256 * d) in
    (n / 1 % 256 ≡ a) × (n / 256 % 256 ≡ b) × (n / 65536 % 256 ≡ c) × (n / 16777216 % 256 ≡ d)

bytes_of : (a b c d : ℕ) → a < 256 → b < 256 → c < 256 → d < 256 → Four a b c d
bytes_of a b c d ha hb hc hd = omega arith

module _ (bytes : List ℕ) (are : Bytes bytes) where
  -- a byte is one also past the end, where 0 is read
  byte_fits : (k : ℕ) → get_or bytes k 0 < 256
  byte_fits k = elim (cases_lt k (length bytes)) [
    | inl within ↦ All-get_or (λ n. n < 256) bytes k 0 within are
    | inr past ↦ subst (λ (n : ℕ). n < 256) (sym (get_or_past bytes k 0 past)) (omega arith)
  ]

  four : (at : ℕ) → Four (get_or bytes at 0) (get_or bytes (at + 1) 0) (get_or bytes (at + 2) 0) (get_or bytes (at + 2 + 1) 0)
  four at = bytes_of _ _ _ _ (byte_fits at) (byte_fits (at + 1)) (byte_fits (at + 2)) (byte_fits (at + 2 + 1))

  -- byte j of the four
  byte_of : (at j : ℕ) → j < 4 → double_word bytes at / 2 ^ (8 * j) % 2 ^ 8 ≡ get_or bytes (at + j) 0
  byte_of at zero few = (four at).0 ∙ ap (λ k. get_or bytes k 0) (omega arith)
  byte_of at (suc zero) few = (four at).1
  byte_of at (suc (suc zero)) few = (four at).2
  byte_of at (suc (suc (suc zero))) few = (four at).3 ∙ ap (λ k. get_or bytes k 0) (omega arith)
  byte_of at (suc (suc (suc (suc j)))) few = absurd (omega arith)

  -- and its bits are those of the word from 8 * j on
  pub bit_of : (at a : ℕ) → a ≤ 31 → testBit (double_word bytes at) a ≡ testBit (get_or bytes (at + a / 8) 0) (a % 8)
  bit_of at a few =
      let is : 8 * (a / 8) + a % 8 ≡ a = omega arith in
      ap (testBit (double_word bytes at)) (sym is)
      ∙ sym (bit_shr (double_word bytes at) (8 * (a / 8)) (a % 8))
      ∙ sym (bit_mod 8 (double_word bytes at / 2 ^ (8 * (a / 8))) (a % 8) (omega arith))
      ∙ ap (λ w. testBit w (a % 8)) (byte_of at (a / 8) (omega arith))

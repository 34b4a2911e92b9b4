-- Bytes as numbers in two bytes each.
use Rattle.std.proofs.Common.{◌≡◌, ℕ, ◌+◌, ◌*◌, ◌/◌, ◌%◌, ◌<◌, ◌≤◌, List, [], ◌∷◌, ◌++◌, length, get_or, drop, sym, ap, ap₂, ◌∙◌, add-one, arith, drop-cons}
use Rattle.std.proofs.ByRecursion.{All-get_or}
use Rattle.std.proofs.lemmas.List.{drop_all}
use Rattle.runs.specs.Bytes.{Bytes, word}
use Rattle.records.specs.WrittenRecords.{two_bytes}

-- the two bytes of the number that they are
two_bytes_of : (low high : ℕ) → low < 256 → two_bytes (low + 256 * high) ≡ low ∷ high ∷ []
two_bytes_of low high l =
    let rest : (low + 256 * high) % 256 ≡ low = omega arith in
    let times : (low + 256 * high) / 256 ≡ high = omega arith in
    ap₂ (λ (x y : ℕ). x ∷ y ∷ []) rest times

module _ (xs : List ℕ) (bytes : Bytes xs) where
  pub byte_at : (i : ℕ) → i < length xs → get_or xs i 0 < 256
  byte_at i l = All-get_or (λ n. n < 256) xs i 0 l bytes

  drop_next : (i : ℕ) → i < length xs → drop i xs ≡ get_or xs i 0 ∷ drop (i + 1) xs
  drop_next i l = rw add-one (drop-cons xs i 0 l)

  -- the next two bytes are those of a number
  pub next_two : (i : ℕ) → i + 1 < length xs → drop i xs ≡ two_bytes (word xs i) ++ drop (i + 1 + 1) xs
  next_two i l =
      drop_next i (omega arith)
      ∙ ap (λ (ys : List ℕ). get_or xs i 0 ∷ ys) (drop_next (i + 1) l)
      ∙ ap (λ (ys : List ℕ). ys ++ drop (i + 1 + 1) xs) (sym (two_bytes_of (get_or xs i 0) (get_or xs (i + 1) 0) (byte_at i (omega arith))))

  pub word_fits : (i : ℕ) → i + 1 < length xs → word xs i < 65536
  word_fits i l =
      let low : get_or xs i 0 < 256 = byte_at i (omega arith) in
      let high : get_or xs (i + 1) 0 < 256 = byte_at (i + 1) l in
      omega arith

  -- and the last two are those of the last number
  pub last_two : (i : ℕ) → length xs ≡ i + 1 + 1 → drop i xs ≡ two_bytes (word xs i)
  last_two i l = next_two i (omega arith) ∙ ap (λ (ys : List ℕ). two_bytes (word xs i) ++ ys) (drop_all (i + 1 + 1) xs (omega arith))

  -- the first four bytes are those of two numbers
  pub four_bytes : 4 ≤ length xs → xs ≡ two_bytes (word xs 0) ++ (two_bytes (word xs 2) ++ drop 4 xs)
  four_bytes l = next_two 0 (omega arith) ∙ ap (λ (ys : List ℕ). two_bytes (word xs 0) ++ ys) (next_two 2 (omega arith))

-- Rows: 256 truths in four words of 64 bits, lowest first.
use Rattle.std.specs.Prelude.{◌≡◌, ℕ, zero, suc, ◌+◌, ◌-◌, ◌*◌, ◌/◌, ◌%◌, ◌^◌, ◌≤◌, Bool, true, false, cond, ◌&&◌, List, [], ◌∷◌, ◌==◌, nat_le, nat_lt, slice_index, slice_index_or, bit_or}

-- bit i of the number w
unfoldable pub testBit : ℕ → ℕ → Bool
testBit w i = w / 2 ^ i % 2 == 1

-- the number whose n lowest bits are f 0, .., f (n - 1), with none above
unfoldable pub pack : ℕ → (ℕ → Bool) → ℕ
pack zero f = 0
pack (suc n) f = pack n (λ i. f (suc i)) * 2 + cond (f 0) 1 0

-- the word whose n lowest bits are set, or all where it has no more
unfoldable pub low_ones : ℕ → ℕ
low_ones n = pack 64 (λ i. nat_lt i n)

-- what a row says of the position i
unfoldable pub bit : List ℕ → ℕ → Bool
bit row i = testBit (slice_index row (i / 64)) (i % 64)

-- the row that says f i of each position i below 256
unfoldable pub row_of : (ℕ → Bool) → List ℕ
row_of f = pack 64 f ∷ pack 64 (λ i. f (64 + i)) ∷ pack 64 (λ i. f (128 + i)) ∷ pack 64 (λ i. f (192 + i)) ∷ []

-- the row that says f i of each position i below n, and false of the others
abbrev pub row_up_to : ℕ → (ℕ → Bool) → List ℕ
row_up_to n f = row_of (λ i. nat_lt i n && f i)

-- f holds at each of the n positions from k on
unfoldable pub true_from : ℕ → ℕ → (ℕ → Bool) → Bool
true_from zero k f = true
true_from (suc n) k f = f k && true_from n (suc k) f

-- the position after i on a run whose last position, n - 1, is followed by s
abbrev pub after : ℕ → ℕ → ℕ → ℕ
after s n i = cond (nat_lt (i + 1) n) (i + 1) s

-- the word of a row m words below its word k, or 0 where there is none
abbrev pub word_behind : List ℕ → ℕ → ℕ → ℕ
word_behind row m k = cond (nat_le m k) (slice_index_or row (k - m) 0) 0

-- the word k of a row that is moved up by 64 * m + n places
unfoldable pub word_moved : List ℕ → ℕ → ℕ → ℕ → ℕ
word_moved row m n k = bit_or ((word_behind row m k * 2 ^ n) % 2 ^ 64) (word_behind row (m + 1) k / 2 / 2 ^ (63 - n))

-- a row is false from n on
abbrev pub Within : List ℕ → ℕ → Type 0
Within row n = (i : ℕ) → n ≤ i → bit row i ≡ false

-- n is one past the last position where a row is true, or 0
pub record Ends (row : List ℕ) (n : ℕ) : Type 0 where
  pub fits : n ≤ 256
  pub within : Within row n
  pub last : (i : ℕ) → n ≡ i + 1 → bit row i ≡ true

-- Bytes, and numbers in them, the low byte first.
use Rattle.std.specs.Prelude.{ℕ, ◌+◌, ◌*◌, ◌<◌, List, slice_index}
use Rattle.std.specs.List.{AllByRecursion}

-- numbers that fit a byte each
abbrev pub Bytes : List ℕ → Type 0
Bytes ns = AllByRecursion (λ n. n < 256) ns

-- the number in the two bytes from a place on
abbrev pub word : List ℕ → ℕ → ℕ
word bytes at = slice_index bytes at + 256 * slice_index bytes (at + 1)

-- the number in the four bytes from a place on: what elsewhere is called a word of 32 bits
abbrev pub double_word : List ℕ → ℕ → ℕ
double_word bytes at = word bytes at + 65536 * word bytes (at + 2)

-- Words of choices of truth, which are numbered.
use Rattle.std.specs.Prelude.{ℕ, ◌+◌, ◌*◌}
use Rattle.rows.specs.Row.{pack, testBit}

-- bit k of each of the 64 numbers from 64 * word on
abbrev pub choice_word_of : ℕ → ℕ → ℕ
choice_word_of word k = pack 64 (λ i. testBit (64 * word + i) k)

-- Where the numbers of a run stand in its bytes: each in two bytes, the low one first.
use Rattle.std.specs.Prelude.{ℕ, ◌+◌, ◌*◌, ◌/◌, ◌%◌, ◌^◌, List, slice_index}

-- a table begins with its stem and its loop
abbrev pub table_stem : List ℕ → ℕ
table_stem bytes = slice_index bytes 0 + 256 * slice_index bytes 1

abbrev pub table_loop : List ℕ → ℕ
table_loop bytes = slice_index bytes 2 + 256 * slice_index bytes 3

-- four bytes for each position follow: atom a is bit a mod 8 of byte a div 8 of the four
abbrev pub table_bit : List ℕ → ℕ → ℕ → ℕ
table_bit bytes a i = slice_index bytes (4 + 4 * i + a / 8) / 2 ^ (a % 8) % 2

-- pulses begin with their loop
abbrev pub pulses_loop : List ℕ → ℕ
pulses_loop bytes = slice_index bytes 0 + 256 * slice_index bytes 1

-- eight bytes for each pulse follow: its atom, its first position, its period and its width
abbrev pub pulse_atom : List ℕ → ℕ → ℕ
pulse_atom bytes k = slice_index bytes (2 + 8 * k) + 256 * slice_index bytes (3 + 8 * k)

abbrev pub pulse_first : List ℕ → ℕ → ℕ
pulse_first bytes k = slice_index bytes (4 + 8 * k) + 256 * slice_index bytes (5 + 8 * k)

abbrev pub pulse_period : List ℕ → ℕ → ℕ
pulse_period bytes k = slice_index bytes (6 + 8 * k) + 256 * slice_index bytes (7 + 8 * k)

abbrev pub pulse_width : List ℕ → ℕ → ℕ
pulse_width bytes k = slice_index bytes (8 + 8 * k) + 256 * slice_index bytes (9 + 8 * k)

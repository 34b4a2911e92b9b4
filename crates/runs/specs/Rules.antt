-- The rules of table runs and of pulse runs, for bytes that are to give one.
use Rattle.std.specs.Prelude.{◌≡◌, ℕ, ◌+◌, ◌*◌, ◌%◌, ◌<◌, ◌≤◌, List, length}
use Rattle.runs.specs.Fields.{table_stem, table_loop, pulses_loop, pulse_atom, pulse_period, pulse_width}

-- bytes with a stem, a loop that is not empty, and four bytes for each position up to the loop's end
pub record TableRules (bytes : List ℕ) : Type 0 where
  pub long : length bytes ≡ 4 + 4 * (table_stem bytes + table_loop bytes)
  pub turns : 0 < table_loop bytes

-- bytes with a loop and n pulses, whose atoms rise; every period divides the loop
pub record PulseRules (bytes : List ℕ) (n : ℕ) : Type 0 where
  pub long : length bytes ≡ 2 + 8 * n
  pub turns : 0 < pulses_loop bytes
  pub atoms : (k : ℕ) → k < n → pulse_atom bytes k ≤ 31
  pub rising : (j k : ℕ) → j < k → k < n → pulse_atom bytes j < pulse_atom bytes k
  pub periods : (k : ℕ) → k < n → 0 < pulse_period bytes k
  pub widths : (k : ℕ) → k < n → pulse_width bytes k ≤ pulse_period bytes k
  pub parts : (k : ℕ) → k < n → pulses_loop bytes % pulse_period bytes k ≡ 0

-- What the bytes of a run say of it, each number by its own bytes.
use Rattle.std.specs.Prelude.{◌≡◌, ◌≢◌, ℕ, ◌+◌, ◌-◌, ◌*◌, ◌/◌, ◌%◌, ◌^◌, ◌<◌, ◌≤◌, true, ◌⊎◌, ◌↔◌, List, length, false, Ok, Err, Result, MatchResult}
use Rattle.logic.specs.Run.{Run}
use Rattle.runs.specs.declared.fault.RunFault.{RunFault}
use Rattle.runs.specs.Bytes.{Bytes, double_word}
use Rattle.runs.specs.Fields.{table_stem, table_loop, table_bit, pulses_loop, pulse_atom, pulse_first, pulse_period, pulse_width}
use Rattle.runs.specs.Pulses.{pulse_check, pulse_run}
use Rattle.runs.specs.Tables.{table_check, table_run}

-- bytes that pass a check give this run, and others what is wrong with them
abbrev pub GivesRun : Result (Unit {0}) RunFault → Run → Result Run RunFault → Type 0
GivesRun check run given = MatchResult given (λ r. (check ≡ Ok tt) × (r ≡ run)) (λ fault. check ≡ Err fault)

-- the stem and the loop are the first two numbers of a table; up to the loop's end, an atom's truth at a position is the atom's bit in the position's word, of 32 bits; and that is the atom's bit in one of the word's four bytes
abbrev pub TablesAsGiven : List ℕ → Type 0
TablesAsGiven bytes =
    table_check bytes ≡ Ok tt
    → ((table_run bytes).stem ≡ table_stem bytes)
    × ((table_run bytes).loop ≡ table_loop bytes)
    × ((a i : ℕ) → i < table_stem bytes + table_loop bytes → ((table_run bytes).says a i ≡ true) ↔ (double_word bytes (4 + 4 * i) / 2 ^ a % 2 ≡ 1))
    × (Bytes bytes → (a i : ℕ) → a ≤ 31 → i < table_stem bytes + table_loop bytes → ((table_run bytes).says a i ≡ true) ↔ (table_bit bytes a i ≡ 1))

-- the loop is the first number; the stem is at least the first position of every pulse, and is one of them, or 0; at
-- every position, after the loop's end too, an atom is true exactly when a pulse of it has begun and is within its width
-- since the last start of its period
abbrev pub PulsesAllAlong : List ℕ → Type 0
PulsesAllAlong bytes =
    pulse_check bytes ≡ Ok tt
    → ((pulse_run bytes).loop ≡ pulses_loop bytes)
    × ((k : ℕ) → 2 + 8 * k < length bytes → pulse_first bytes k ≤ (pulse_run bytes).stem)
    × (((k : ℕ) × (2 + 8 * k < length bytes) × (pulse_first bytes k ≡ (pulse_run bytes).stem)) ⊎ ((pulse_run bytes).stem ≡ 0))
    × ((a i : ℕ)
    → ((pulse_run bytes).says a i ≡ true)
    ↔ ((k : ℕ)
    × (2 + 8 * k < length bytes)
    × (pulse_atom bytes k ≡ a)
    × (pulse_first bytes k ≤ i)
    × ((i - pulse_first bytes k) % pulse_period bytes k < pulse_width bytes k)))

-- bytes that fail their check give the run that has one position, over and over, and no atom true
abbrev pub SilentOtherwise : Result (Unit {0}) RunFault → Run → Type 0
SilentOtherwise check run = check ≢ Ok tt → (run.stem ≡ 0) × (run.loop ≡ 1) × ((a i : ℕ) → run.says a i ≡ false)

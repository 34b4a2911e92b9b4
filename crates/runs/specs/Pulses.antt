-- Pulse runs: the loop, and pulses of atoms that come again and again from a first position on.
use Rattle.std.specs.Prelude.{◌≡◌, ◌≢◌, ℕ, ◌-◌, ◌/◌, ◌%◌, max, Bool, true, ◌&&◌, if◌then◌else◌, List, [], ◌∷◌, length, drop, map, Contains, All, Ok, Err, Result, Option, MatchOption, not, ◌==◌, nat_le, nat_lt}
use Rattle.std.specs.List.{list_all, list_any}
use Rattle.std.specs.Simd.{first_chunks}
use Rattle.logic.specs.Run.{Run}
use Rattle.runs.specs.declared.fault.RunFault.{RunFault}
use Rattle.runs.specs.declared.fault.RunFault.TheVariants.{WrongLength, NoRun}
use Rattle.runs.specs.declared.pulse.Pulse.{Pulse}
use Rattle.runs.specs.Bytes.{word}
use Rattle.runs.specs.Looping.{looped, run_or_fault, when_run}

-- the pulse in eight bytes
abbrev pub pulse_of : List ℕ → Pulse
pulse_of bytes = record { atom = word bytes 0; first = word bytes 2; period = word bytes 4; width = word bytes 6 }

-- the pulses in arrays of eight bytes
abbrev pub pulses_of : List (List ℕ) → List Pulse
pulses_of arrays = map pulse_of arrays

-- the pulses of a run, which stand after the loop in its bytes
abbrev pub pulses_in : List ℕ → List Pulse
pulses_in bytes = pulses_of (first_chunks 8 (length (drop 2 bytes) / 8) (drop 2 bytes))

-- from its first position on, a pulse is on for its width in every period
abbrev pub on : Pulse → ℕ → Bool
on e i = nat_le e.first i && nat_lt ((i - e.first) % e.period) e.width

-- an atom is true while a pulse of it is on
abbrev pub pulsed : List Pulse → ℕ → ℕ → Bool
pulsed pulses a i = list_any (λ e. e.atom == a && on e i) pulses

-- the largest first position, or 0 without pulses
abbrev pub latest : List Pulse → ℕ
latest [] = 0
latest (e ∷ es) = max e.first (latest es)

-- a pulse that a run with this loop may have
abbrev pub allowed : ℕ → Pulse → Bool
allowed loop e = nat_lt e.atom 32 && (nat_lt 0 e.period && (nat_le e.width e.period && loop % e.period == 0))

-- the atoms rise strictly
abbrev pub rising : List Pulse → Bool
rising [] = true
rising (e ∷ es) = list_all (λ f. nat_lt e.atom f.atom) es && rising es

-- a run with this loop may have each of the pulses, and their atoms rise
abbrev pub in_order : ℕ → List Pulse → Bool
in_order loop pulses = list_all (allowed loop) pulses && rising pulses

-- what is found is a pulse of the atom; nothing is found only where no pulse is of it
abbrev pub FindsPulse : List Pulse → ℕ → Option Pulse → Type 0
FindsPulse pulses a found = MatchOption found (All (λ e. e.atom ≢ a) pulses) (λ e. (e.atom ≡ a) × Contains pulses e)

-- the length is that of the loop and whole pulses; the loop is not 0, and the pulses are in order and allowed
unfoldable pub pulse_check : List ℕ → Result (Unit {0}) RunFault
pulse_check bytes =
    if nat_lt (length bytes) 2 then Err WrongLength
    else (if not (length (drop 2 bytes) % 8 == 0) then Err WrongLength
    else (if word bytes 0 == 0 then Err NoRun
    else (if in_order (word bytes 0) (pulses_in bytes) then Ok tt
    else Err NoRun)))

unfoldable pub pulse_run : List ℕ → Run
pulse_run bytes = when_run (pulse_check bytes) (looped (latest (pulses_in bytes)) (word bytes 0) (pulsed (pulses_in bytes)))

-- the run, or what is wrong with the bytes
abbrev pub pulse_given : List ℕ → Result Run RunFault
pulse_given bytes = run_or_fault (pulse_check bytes) (pulse_run bytes)

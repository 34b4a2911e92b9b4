-- Table runs: the stem, the loop, and a word of 32 bits, in four bytes, for each position up to the loop's end.
use Rattle.std.specs.Prelude.{ℕ, ◌+◌, ◌*◌, ◌/◌, ◌%◌, ◌^◌, Bool, if◌then◌else◌, not, List, [], length, drop, slice_index_or, Ok, Err, Result, ◌==◌, nat_lt}
use Rattle.std.specs.Simd.{first_chunks}
use Rattle.logic.specs.Run.{Run}
use Rattle.runs.specs.declared.fault.RunFault.{RunFault}
use Rattle.runs.specs.declared.fault.RunFault.TheVariants.{WrongLength, NoRun}
use Rattle.runs.specs.Bytes.{word, double_word}
use Rattle.runs.specs.Looping.{looped, run_or_fault, when_run}

-- the words of a run, four bytes each, which stand after the stem and the loop in its bytes
abbrev pub words_in : List ℕ → List (List ℕ)
words_in bytes = first_chunks 4 (length (drop 4 bytes) / 4) (drop 4 bytes)

-- bit a of the word for position i, from the lowest
abbrev pub words_say : List (List ℕ) → ℕ → ℕ → Bool
words_say words a i = double_word (slice_index_or words i []) 0 / 2 ^ a % 2 == 1

-- the length is that of the stem, the loop and their words, and the loop is not 0
unfoldable pub table_check : List ℕ → Result (Unit {0}) RunFault
table_check bytes =
    if nat_lt (length bytes) 4 then Err WrongLength
    else (if not (length bytes == 4 + 4 * (word bytes 0 + word bytes 2)) then Err WrongLength
    else (if word bytes 2 == 0 then Err NoRun
    else Ok tt))

unfoldable pub table_run : List ℕ → Run
table_run bytes = when_run (table_check bytes) (looped (word bytes 0) (word bytes 2) (words_say (words_in bytes)))

-- the run, or what is wrong with the bytes
abbrev pub table_given : List ℕ → Result Run RunFault
table_given bytes = run_or_fault (table_check bytes) (table_run bytes)

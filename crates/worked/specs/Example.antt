-- The example case: a carry that is owed is assumed to be owed at the next position too.
use Rattle.std.specs.Prelude.{ℕ, List, [], ◌∷◌, ◌++◌, Some, None, Option}
use Rattle.logic.specs.Run.{Run}
use Rattle.runs.specs.Tables.{table_run}
use Rattle.runs.specs.Pulses.{pulse_run}
use Rattle.checker.specs.Checked.{program_page}
use Rattle.model.specs.History.{Stage, open_stage, sealed_stage, Call, form, assume, line, refute, History, new, then, then_seal}

-- a history that goes on with calls, one after another
abbrev pub with_calls : {s : Stage} → History s → List (Call s) → History s
with_calls h [] = h
with_calls h (x ∷ xs) = with_calls (then h x) xs

-- a line under the program's page: its rule, its formula, and two places
abbrev pub by_rule : ℕ → ℕ → Option ℕ → Option ℕ → Call sealed_stage
by_rule rule formula first second = line program_page (record { rule = rule; formula = formula; first = first; second = second })

-- the table with stem 0, loop 1 and the word 0: v0 is never true
abbrev pub never : Run
never = table_run (0 ∷ 0 ∷ 1 ∷ 0 ∷ 0 ∷ 0 ∷ 0 ∷ 0 ∷ [])

-- the table with stem 1, loop 1 and the words 1 and 0: v0 is true at position 0 alone
abbrev pub at_first : Run
at_first = table_run (1 ∷ 0 ∷ 1 ∷ 0 ∷ 1 ∷ 0 ∷ 0 ∷ 0 ∷ 0 ∷ 0 ∷ 0 ∷ 0 ∷ [])

-- the pulses with loop 4 and one entry: atom 0, from position 1 on, with period 2 and width 1
abbrev pub blinks : Run
blinks = pulse_run (4 ∷ 0 ∷ 0 ∷ 0 ∷ 1 ∷ 0 ∷ 2 ∷ 0 ∷ 1 ∷ 0 ∷ [])

-- the table with stem 2, loop 3 and a word for each position: of the atoms 0, 6, 9, 14, 17, 22, 25 and 31 each is true at one position alone
abbrev pub bits_apart : Run
bits_apart =
    table_run
    ((2 ∷ 0 ∷ 3 ∷ 0 ∷ [])
    ++ (0 ∷ 2 ∷ 0 ∷ 0 ∷ [])
    ++ (1 ∷ 0 ∷ 2 ∷ 0 ∷ [])
    ++ (0 ∷ 64 ∷ 0 ∷ 2 ∷ [])
    ++ (0 ∷ 0 ∷ 64 ∷ 128 ∷ [])
    ++ (64 ∷ 0 ∷ 0 ∷ 0 ∷ []))

-- the pulses with loop 24 and two entries: atom 9, from position 3 on, with period 8 and width 2, and atom 17, from 5 on, with period 12 and width 1
abbrev pub fields_apart : Run
fields_apart =
    pulse_run
    ((24 ∷ 0 ∷ [])
    ++ (9 ∷ 0 ∷ 3 ∷ 0 ∷ 8 ∷ 0 ∷ 2 ∷ 0 ∷ [])
    ++ (17 ∷ 0 ∷ 5 ∷ 0 ∷ 12 ∷ 0 ∷ 1 ∷ 0 ∷ []))

-- how many scratch words there are
abbrev pub words : ℕ
words = 4096

-- the formulas 0 to 5 are v0, ○v0, v0 → ○v0, v0 → v0, □v0 and v0 → □v0; formula 2 is assumed
abbrev pub entered : History open_stage
entered = with_calls new (form 1 0 0 ∷ form 3 0 0 ∷ form 2 0 1 ∷ form 2 0 0 ∷ form 4 0 0 ∷ form 2 0 4 ∷ assume 2 ∷ [])

abbrev pub sealed : History sealed_stage
sealed = then_seal entered

-- line 0 is v0 → v0, a tautology, and line 1 the assumption
abbrev pub two_lines : History sealed_stage
two_lines = with_calls sealed (by_rule 1 3 None None ∷ by_rule 0 2 None None ∷ [])

-- line 2 is v0 → □v0, by induction from both
abbrev pub three_lines : History sealed_stage
three_lines = with_calls two_lines (by_rule 7 5 (Some 0) (Some 1) ∷ [])

-- and □v0 is refuted at position 0
abbrev pub example : History sealed_stage
example = with_calls three_lines (refute never 4 0 words ∷ [])

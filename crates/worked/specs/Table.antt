-- The worked examples, ten rows of what is asked of the example case and what is answered, and limits of a case.
use Rattle.std.specs.Prelude.{true, false, List, [], ◌∷◌, Some, None, All, replicate}
use Rattle.refusals.specs.declared.Refusal.TheVariants.{NotAdmitted, ScratchTooShort, AssumptionFalse, RefutationsFull}
use Rattle.model.specs.History.{sealed_stage, form, truth, refute, History}
use Rattle.worked.specs.Asking.{number, value, refused, Exchange, ◌gives◌, Row, RowHolds}
use Rattle.worked.specs.Example.{with_calls, by_rule, never, at_first, blinks, words, sealed, two_lines, three_lines, example}

abbrev row : History sealed_stage → List Exchange → Row
row before exchanges = record { before = before; exchanges = exchanges }

abbrev pub table : List Row
table =
    -- 1. v0 → v0 is entered again: it has the number 3 already
    row example (form 2 0 0 gives number 3 ∷ [])
    -- 2. v0 → v0 by rule 1 is held, as line 0
    ∷ row sealed (by_rule 1 3 None None gives number 0 ∷ [])
    -- 3. v0 → □v0 by rule 7 from the lines 0 and 1 is held, as line 2
    ∷ row two_lines (by_rule 7 5 (Some 0) (Some 1) gives number 2 ∷ [])
    -- 4. □v0 is refuted at position 0 where v0 is never true: refutation 0
    ∷ row three_lines (refute never 4 0 words gives number 0 ∷ [])
    -- 5. v0 → □v0 is not refuted where v0 is true at position 0 alone: assumption 0 is false at position 0
    ∷ row example (refute at_first 5 0 words gives refused 13 (AssumptionFalse 0 0) ∷ [])
    -- 6. ○(v0 → ○v0), entered first, by rule 6 from line 1 is held, as line 3
    ∷ row example (form 3 2 0 gives number 6 ∷ by_rule 6 6 (Some 1) None gives number 3 ∷ [])
    -- 7. v0 → □v0 by rule 7 from the lines 1 and 0, the other way round, is not admitted
    ∷ row example (by_rule 7 5 (Some 1) (Some 0) gives refused 8 NotAdmitted ∷ [])
    -- 8. v0 → □v0 by rule 1 is not admitted: it is no tautology
    ∷ row example (by_rule 1 5 None None gives refused 8 NotAdmitted ∷ [])
    -- 9. □v0 → v0, entered first, by rule 4 is not admitted: it is no instance
    ∷ row example (form 2 4 0 gives number 6 ∷ by_rule 4 6 None None gives refused 8 NotAdmitted ∷ [])
    -- 10. v0 along the pulses, at positions 0 to 4
    ∷ row example
    (truth blinks 0 0 words gives value false
    ∷ truth blinks 0 1 words gives value true
    ∷ truth blinks 0 2 words gives value false
    ∷ truth blinks 0 3 words gives value true
    ∷ truth blinks 0 4 words gives value false
    ∷ [])
    ∷ []

-- limits that no small file reaches
abbrev pub limits : List Row
limits =
    -- of 64 refutations the last has the number 63, and a case holds no more
    row (with_calls example (replicate 62 (refute never 4 0 words)))
    (refute never 4 0 words gives number 63
    ∷ refute never 4 0 words gives refused 15 RefutationsFull
    ∷ [])
    -- six formulas need 24 scratch words
    ∷ row example
    (truth never 4 0 24 gives value false
    ∷ truth never 4 0 23 gives refused 12 ScratchTooShort
    ∷ refute never 4 0 24 gives number 1
    ∷ refute never 4 0 23 gives refused 12 ScratchTooShort
    ∷ [])
    ∷ []

-- every row holds
abbrev pub WorkedExamples : Type 0
WorkedExamples = All RowHolds table × All RowHolds limits

-- The text of a listing.
use Rattle.std.specs.Prelude.{ℕ, zero, suc, List, [], ◌∷◌, ◌++◌, length, Ok, Err, Result, codes, decimal}
use Rattle.refusals.specs.declared.Refusal.{Refusal}
use Rattle.model.specs.Case.{Case}
use Rattle.model.specs.Reads.{counts_of, standing_in}
use Rattle.model.specs.declared.counts.Counts.{Counts}
use Rattle.model.specs.declared.standing.Standing.{Standing}
use Rattle.model.specs.declared.standing.Standing.TheVariants.{Derived, Refuted, Open}
use Rattle.records.specs.Faults.{layer_of, cause_number}
use Rattle.listing.specs.declared.unread.Unread.{Unread}
use Rattle.listing.specs.declared.unread.Unread.TheVariants.{TooLong, Refused}

-- every line ends in byte 10
abbrev pub line : List ℕ → List ℕ
line text = text ++ 10 ∷ []

-- how many of each the case has
unfoldable pub line_of_counts : Counts → List ℕ
line_of_counts n =
    line (codes "formulas " ++ decimal n.formulas
    ++ codes " assumptions " ++ decimal n.assumptions
    ++ codes " lines " ++ decimal n.lines
    ++ codes " refutations " ++ decimal n.refutations)

-- how a formula stands, by the formula's number and that of its first line or refutation; an open one has no line, nor has one that is not entered
unfoldable pub line_of_standing : ℕ → Result Standing Refusal → List ℕ
line_of_standing f (Ok (Derived n)) = line (decimal f ++ codes " derived " ++ decimal n)
line_of_standing f (Ok (Refuted n)) = line (decimal f ++ codes " refuted " ++ decimal n)
line_of_standing f (Ok Open) = []
line_of_standing f (Err e) = []

-- the lines of the formulas below a number, by rising number
unfoldable pub standing_lines_to : Case → ℕ → List ℕ
standing_lines_to c zero = []
standing_lines_to c (suc f) = standing_lines_to c f ++ line_of_standing f (standing_in c f)

-- the lines of all formulas
abbrev pub standing_lines : Case → List ℕ
standing_lines c = standing_lines_to c (length c.formulas)

-- how the reading of the file ended
unfoldable pub line_of_ending : Result ℕ Unread → List ℕ
line_of_ending (Ok n) = line (codes "read " ++ decimal n)
line_of_ending (Err (Refused f)) =
    line (codes "refused " ++ decimal (layer_of f.cause)
    ++ codes " " ++ decimal (cause_number f.cause)
    ++ codes " " ++ decimal f.offset)
line_of_ending (Err TooLong) = line (codes "too long")

-- the whole text: a line for the counts, the lines of the formulas that are not open, and a line for the ending
abbrev pub listing : Case → Result ℕ Unread → List ℕ
listing c e = line_of_counts (counts_of c) ++ standing_lines c ++ line_of_ending e

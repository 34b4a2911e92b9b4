-- What a page is asked about a line of a case.
use Rattle.std.specs.Prelude.{ℕ, if◌then◌else◌, length, Some, None, Ok, Err, Option, Result, nat_le}
use Rattle.refusals.specs.declared.Refusal.{Refusal}
use Rattle.refusals.specs.declared.Refusal.TheVariants.{NotEntered}
use Rattle.rules.specs.declared.page.Question.{Question}
use Rattle.model.specs.declared.line.Line.{Line}
use Rattle.model.specs.Case.{Case}
use Rattle.model.specs.Reads.{line_in}

-- the number of the formula on a line that was read
abbrev pub formula_on : Result Line Refusal → Result (Option ℕ) Refusal
formula_on (Ok l) = Ok (Some l.formula)
formula_on (Err e) = Err e

-- the number of the formula on the line at a place, none for an empty place
abbrev pub premise_number : Case → Option ℕ → Result (Option ℕ) Refusal
premise_number c None = Ok None
premise_number c (Some k) = formula_on (line_in c k)

-- the question for a line once its premises are known
abbrev pub asked_with : Line → Result (Option ℕ) Refusal → Result (Option ℕ) Refusal → Result Question Refusal
asked_with l (Err e) q = Err e
asked_with l (Ok p) (Err e) = Err e
asked_with l (Ok p) (Ok q) = Ok (record { rule = l.rule; conclusion = l.formula; first = p; second = q })

-- the question for a line, or the refusal that stops it
abbrev pub question_for : Case → Line → Result Question Refusal
question_for c l =
    if nat_le (length c.formulas) l.formula then Err NotEntered
    else asked_with l (premise_number c l.first) (premise_number c l.second)

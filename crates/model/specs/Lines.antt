-- What line answers, and what it leaves of the case.
use Rattle.std.specs.Prelude.{ℕ, Bool, true, not, if◌then◌else◌, ◌&&◌, [], ◌∷◌, ◌++◌, length, Some, None, Ok, Err, Option, ◌==◌, nat_eq, nat_lt, nat_le, is_some, is_none}
use Rattle.std.specs.List.{slice_get}
use Rattle.std.specs.Option.{option_map}
use Rattle.refusals.specs.declared.Refusal.TheVariants.{NotEntered, LineNotHeld, LinesFull, NotAdmitted as NotAdmittedRefusal, BeyondLimit as BeyondLimitRefusal}
use Rattle.logic.specs.Formula.{Formula}
use Rattle.calculus.specs.declared.verdict.Verdict.{Verdict}
use Rattle.calculus.specs.declared.verdict.Verdict.TheVariants.{Admitted, NotAdmitted, BeyondLimit}
use Rattle.calculus.specs.Pages.{Page}
use Rattle.lists.specs.Adding.{first_like}
use Rattle.formulas.specs.Forming.{numbered}
use Rattle.model.specs.declared.line.Line.{Line}
use Rattle.model.specs.Case.{Case}
use Rattle.model.specs.Calls.{Outcome, unchanged}

-- a place is empty, or the number of a held line
abbrev pub place_held : Case → Option ℕ → Bool
place_held c None = true
place_held c (Some k) = nat_lt k (length c.lines)

-- the formula on the line at a place
abbrev pub premise : Case → Option ℕ → Option Formula
premise c None = None
premise c (Some k) = option_map (λ l. numbered c.formulas l.formula) (slice_get c.lines k)

-- rule 0 is the case's own: it admits an assumption, with both places empty
abbrev pub assumption_verdict : Case → Line → Verdict
assumption_verdict c l =
    if is_none l.first && (is_none l.second && is_some (first_like nat_eq c.assumptions l.formula)) then Admitted
    else NotAdmitted

-- every other rule is the page's
abbrev pub line_verdict : Case → Page → Line → Verdict
line_verdict c page l =
    if l.rule == 0 then assumption_verdict c l
    else page.verdict l.rule (numbered c.formulas l.formula) (premise c l.first) (premise c l.second)

-- a line is held if it is admitted
abbrev pub line_by : Case → Line → Verdict → Outcome ℕ
line_by c l Admitted = record { answer = Ok (length c.lines); after = record c { lines = c.lines ++ l ∷ [] } }
line_by c l NotAdmitted = unchanged c (Err NotAdmittedRefusal)
line_by c l BeyondLimit = unchanged c (Err BeyondLimitRefusal)

-- a line is entered under a page; a case holds 512
unfoldable pub line : Case → Page → Line → Outcome ℕ
line c page l =
    if nat_le (length c.formulas) l.formula then unchanged c (Err NotEntered)
    else if not (place_held c l.first && place_held c l.second) then unchanged c (Err LineNotHeld)
    else if nat_le 512 (length c.lines) then unchanged c (Err LinesFull)
    else line_by c l (line_verdict c page l)

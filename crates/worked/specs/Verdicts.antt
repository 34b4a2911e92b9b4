-- What the program's page says of small steps: of each rule an instance and what only looks like one.
use Rattle.std.specs.Prelude.{◌≡◌, ℕ, List, [], ◌∷◌, Some, None, Option, All}
use Rattle.logic.specs.Formula.{Formula, falsum, atom, implies, next, always}
use Rattle.logic.specs.Abbreviations.{not, and, iff, eventually}
use Rattle.calculus.specs.declared.verdict.Verdict.{Verdict}
use Rattle.calculus.specs.declared.verdict.Verdict.TheVariants.{Admitted, NotAdmitted, BeyondLimit}
use Rattle.checker.specs.Checked.{program_page}

pub record VerdictRow : Type 0 where
  pub rule : ℕ
  pub conclusion : Formula
  pub first : Option Formula
  pub second : Option Formula
  pub verdict : Verdict

abbrev pub IsGiven : VerdictRow → Type 0
IsGiven row = program_page.verdict row.rule row.conclusion row.first row.second ≡ row.verdict

-- a rule, a conclusion and its premises have a verdict
abbrev step : ℕ → Formula → Option Formula → Option Formula → Verdict → VerdictRow
step rule conclusion first second verdict = record { rule = rule; conclusion = conclusion; first = first; second = second; verdict = verdict }

abbrev v : ℕ → Formula
v a = atom a

abbrev pub verdicts : List VerdictRow
verdicts =
    -- taut: v0 → v0, ((v0 → v1) → v0) → v0, and that false implies anything; a tautology has no premises
    step 1 (implies (v 0) (v 0)) None None Admitted
    ∷ step 1 (implies (implies (implies (v 0) (v 1)) (v 0)) (v 0)) None None Admitted
    ∷ step 1 (implies falsum (next falsum)) None None Admitted
    ∷ step 1 (implies (v 0) (v 0)) (Some (v 0)) None NotAdmitted
    -- v0 → v1 is none
    ∷ step 1 (implies (v 0) (v 1)) None None NotAdmitted
    -- true on every run, and no tautology: its prime parts are □v0 and v0
    ∷ step 1 (implies (always (v 0)) (v 0)) None None NotAdmitted
    -- thirteen prime parts, whatever they say
    ∷ step 1
    (implies (v 0) (implies (v 1) (implies (v 2) (implies (v 3) (implies (v 4) (implies (v 5) (implies (v 6) (implies (v 7) (implies (v 8) (implies (v 9) (implies (v 10) (implies (v 11) (v 12)))))))))))))
    None
    None
    BeyondLimit
    -- twelve are within the limit
    ∷ step 1
    (implies (v 0) (implies (v 1) (implies (v 2) (implies (v 3) (implies (v 4) (implies (v 5) (implies (v 6) (implies (v 7) (implies (v 8) (implies (v 9) (implies (v 10) (v 11))))))))))))
    None
    None
    NotAdmitted
    -- ltl1, and one half of it
    ∷ step 2 (iff (not (next (v 0))) (next (not (v 0)))) None None Admitted
    ∷ step 2 (implies (not (next (v 0))) (next (not (v 0)))) None None NotAdmitted
    -- ltl2, and turned round
    ∷ step 3 (implies (next (implies (v 0) (v 1))) (implies (next (v 0)) (next (v 1)))) None None Admitted
    ∷ step 3 (implies (next (implies (v 0) (v 1))) (implies (next (v 1)) (next (v 0)))) None None NotAdmitted
    -- ltl3, and the same with ○ in the place of ○□
    ∷ step 4 (implies (always (v 0)) (and (v 0) (next (always (v 0))))) None None Admitted
    ∷ step 4 (implies (always (v 0)) (and (v 0) (next (v 0)))) None None NotAdmitted
    -- mp, its premises exchanged, and without its second
    ∷ step 5 (v 1) (Some (v 0)) (Some (implies (v 0) (v 1))) Admitted
    ∷ step 5 (v 1) (Some (implies (v 0) (v 1))) (Some (v 0)) NotAdmitted
    ∷ step 5 (v 1) (Some (v 0)) None NotAdmitted
    -- nex, of another formula, and with a premise too many
    ∷ step 6 (next (v 0)) (Some (v 0)) None Admitted
    ∷ step 6 (next (v 1)) (Some (v 0)) None NotAdmitted
    ∷ step 6 (next (v 0)) (Some (v 0)) (Some (v 0)) NotAdmitted
    -- ind, and with a step from B
    ∷ step 7 (implies (v 0) (always (v 1))) (Some (implies (v 0) (v 1))) (Some (implies (v 0) (next (v 0)))) Admitted
    ∷ step 7 (implies (v 0) (always (v 1))) (Some (implies (v 0) (v 1))) (Some (implies (v 1) (next (v 1)))) NotAdmitted
    -- no rules: the case's own rule, and 8 to 15
    ∷ step 0 (v 0) (Some (v 0)) None NotAdmitted
    ∷ step 8 (v 0) (Some (v 0)) None NotAdmitted
    ∷ step 15 (always (v 0)) (Some (v 0)) None NotAdmitted
    -- alw, ind1, som and chain, and what each does not give
    ∷ step 16 (always (v 0)) (Some (v 0)) None Admitted
    ∷ step 16 (always (v 0)) (Some (next (v 0))) None NotAdmitted
    ∷ step 17 (implies (v 0) (always (v 0))) (Some (implies (v 0) (next (v 0)))) None Admitted
    ∷ step 17 (implies (v 0) (always (v 1))) (Some (implies (v 0) (next (v 1)))) None NotAdmitted
    ∷ step 18 (implies (v 0) (eventually (v 1))) (Some (implies (v 0) (next (v 1)))) None Admitted
    ∷ step 18 (implies (v 0) (eventually (v 1))) (Some (next (implies (v 0) (v 1)))) None NotAdmitted
    ∷ step 19 (implies (v 0) (eventually (v 2))) (Some (implies (v 0) (eventually (v 1)))) (Some (implies (v 1) (eventually (v 2)))) Admitted
    ∷ step 19 (implies (v 0) (eventually (v 2))) (Some (implies (v 1) (eventually (v 2)))) (Some (implies (v 0) (eventually (v 1)))) NotAdmitted
    ∷ []

-- every row is given so
abbrev pub VerdictsGiven : Type 0
VerdictsGiven = All IsGiven verdicts

-- Calls on one new case, first open and then sealed.
use Rattle.std.specs.Prelude.{◌≡◌, ℕ, List, [], ◌∷◌, Ok, Err}
use Rattle.refusals.specs.declared.Refusal.{Refusal}
use Rattle.logic.specs.Formula.{Formula}
use Rattle.logic.specs.Run.{Run}
use Rattle.calculus.specs.Pages.{Page}
use Rattle.model.specs.declared.line.Line.{Line}
use Rattle.model.specs.Case.{Case, empty}
use Rattle.model.specs.Calls as calls
use Rattle.model.specs.Lines as lines
use Rattle.model.specs.Judging as judging
use Rattle.model.specs.Describes.{Describes}

-- a case is open until it is sealed
pub data Stage : Type 0 where
  open_stage : Stage
  sealed_stage : Stage

-- a call, by the stage at which it can be made. form: a kind and two fields; assume: a formula's number; line: a page of rules and a line; truth and refute: a run, a formula's number, a position, and how many scratch words there are. Page, run and scratch words are what each call brings itself
pub data Call : Stage → Type 0 where
  form : {s : Stage} → ℕ → ℕ → ℕ → Call s
  assume : ℕ → Call open_stage
  truth : {s : Stage} → Run → ℕ → ℕ → ℕ → Call s
  line : Page → Line → Call sealed_stage
  refute : Run → ℕ → ℕ → ℕ → Call sealed_stage

-- the case after a call
abbrev pub after_call : {s : Stage} → Case → Call s → Case
after_call c (form kind left right) = (calls.form c kind left right).after
after_call c (assume f) = (calls.assume c f).after
after_call c (truth r f i words) = (judging.truth c r f i words).after
after_call c (line page l) = (lines.line c page l).after
after_call c (refute r f i words) = (judging.refute c r f i words).after

-- a call on a case is refused
abbrev pub Refused : {s : Stage} → Case → Call s → Refusal → Type 0
Refused c (form kind left right) e = (calls.form c kind left right).answer ≡ Err e
Refused c (assume f) e = (calls.assume c f).answer ≡ Err e
Refused c (truth r f i words) e = (judging.truth c r f i words).answer ≡ Err e
Refused c (line page l) e = (lines.line c page l).answer ≡ Err e
Refused c (refute r f i words) e = (judging.refute c r f i words).answer ≡ Err e

-- a new case, then calls, with a seal between those of the two stages; any call may be refused
pub data History : Stage → Type 0 where
  new : History open_stage
  then : {s : Stage} → History s → Call s → History s
  then_seal : History open_stage → History sealed_stage

-- the case that a history ends in
abbrev pub after : {s : Stage} → History s → Case
after new = empty
after (then h x) = after_call (after h) x
after (then_seal h) = after h

-- in a history, form answered n for the formula A
pub data Formed : (s : Stage) → History s → ℕ → Formula → Type 0 where
  formed_last : {s : Stage} {h : History s} {kind left right n : ℕ} {A : Formula}
      → (calls.form (after h) kind left right).answer ≡ Ok n → Describes (after h).formulas kind left right A → Formed s (then h (form kind left right)) n A
  formed_earlier : {s : Stage} {h : History s} {x : Call s} {n : ℕ} {A : Formula} → Formed s h n A → Formed s (then h x) n A
  formed_before_seal : {h : History open_stage} {n : ℕ} {A : Formula} → Formed open_stage h n A → Formed sealed_stage (then_seal h) n A

-- in a history, assume answered k for the formula with the number f
pub data Assumed : (s : Stage) → History s → ℕ → ℕ → Type 0 where
  assumed_last : {h : History open_stage} {k f : ℕ} → (calls.assume (after h) f).answer ≡ Ok k → Assumed open_stage (then h (assume f)) k f
  assumed_earlier : {s : Stage} {h : History s} {x : Call s} {k f : ℕ} → Assumed s h k f → Assumed s (then h x) k f
  assumed_before_seal : {h : History open_stage} {k f : ℕ} → Assumed open_stage h k f → Assumed sealed_stage (then_seal h) k f

-- in a history, line answered n for the line l, under some page
pub data HeldLine : (s : Stage) → History s → ℕ → Line → Type 0 where
  line_last : {h : History sealed_stage} {page : Page} {n : ℕ} {l : Line} → (lines.line (after h) page l).answer ≡ Ok n → HeldLine sealed_stage (then h (line page l)) n l
  line_earlier : {s : Stage} {h : History s} {x : Call s} {n : ℕ} {l : Line} → HeldLine s h n l → HeldLine s (then h x) n l

-- in a history, refute answered n for the formula with the number f, at position i of the run r
pub data HeldRefutation : (s : Stage) → History s → ℕ → ℕ → ℕ → Run → Type 0 where
  refutation_last : {h : History sealed_stage} {n f i words : ℕ} {r : Run}
      → (judging.refute (after h) r f i words).answer ≡ Ok n → HeldRefutation sealed_stage (then h (refute r f i words)) n f i r
  refutation_earlier : {s : Stage} {h : History s} {x : Call s} {n f i : ℕ} {r : Run} → HeldRefutation s h n f i r → HeldRefutation s (then h x) n f i r

-- calls made one after another on a case, up to the first that is refused, lead to another case
pub data Leads (s : Stage) : Case → List (Call s) → Case → Type 0 where
  no_more : {c : Case} → Leads s c [] c
  refused_call : {c : Case} {x : Call s} {xs : List (Call s)} (e : Refusal) → Refused c x e → Leads s c (x ∷ xs) (after_call c x)
  answered_call : {c d : Case} {x : Call s} {xs : List (Call s)} → ((e : Refusal) → Refused c x e → ⊥) → Leads s (after_call c x) xs d → Leads s c (x ∷ xs) d

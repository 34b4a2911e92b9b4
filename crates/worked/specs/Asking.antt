-- What calls on a case are answered, one after another.
use Rattle.std.specs.Prelude.{◌≡◌, ℕ, Bool, List, [], ◌∷◌, Ok, Err, Result}
use Rattle.refusals.specs.declared.Refusal.{Refusal}
use Rattle.refusals.specs.Numbers.{number_of}
use Rattle.model.specs.Case.{Case}
use Rattle.model.specs.Calls as calls
use Rattle.model.specs.Lines as lines
use Rattle.model.specs.Judging as judging
use Rattle.model.specs.History.{Stage, sealed_stage, Call, form, assume, truth, line, refute, History, after_call, after}

-- a number, a truth, or a refusal, beside the number that a caller is told for it
pub data Answer : Type 0 where
  number : ℕ → Answer
  value : Bool → Answer
  refused : ℕ → Refusal → Answer

abbrev pub number_answer : Result ℕ Refusal → Answer
number_answer (Ok n) = number n
number_answer (Err e) = refused (number_of e) e

abbrev pub value_answer : Result Bool Refusal → Answer
value_answer (Ok b) = value b
value_answer (Err e) = refused (number_of e) e

-- what a call on a case is answered
abbrev pub answer_to : {s : Stage} → Case → Call s → Answer
answer_to c (form kind left right) = number_answer (calls.form c kind left right).answer
answer_to c (assume f) = number_answer (calls.assume c f).answer
answer_to c (truth r f i words) = value_answer (judging.truth c r f i words).answer
answer_to c (line page l) = number_answer (lines.line c page l).answer
answer_to c (refute r f i words) = number_answer (judging.refute c r f i words).answer

-- a call, and what it is answered
infix 70 ◌gives◌
pub data Exchange : Type 0 where
  ◌gives◌ : Call sealed_stage → Answer → Exchange

-- made one after another on a case, calls are answered so
abbrev pub Answered : Case → List Exchange → Type 0
Answered c [] = Unit {0}
Answered c ((x gives a) ∷ xs) = (answer_to c x ≡ a) × Answered (after_call c x) xs

-- what is asked after a history, and what is answered
pub record Row : Type 0 where
  pub before : History sealed_stage
  pub exchanges : List Exchange

abbrev pub RowHolds : Row → Type 0
RowHolds row = Answered (after row.before) row.exchanges

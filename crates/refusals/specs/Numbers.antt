-- The number that a caller is told for a refusal, and an answer whose refusal is one of form's.
use Rattle.std.specs.Prelude.{ℕ, Ok, Err, Result}
use Rattle.formulas.specs.declared.refusal.FormRefusal.{FormRefusal}
use Rattle.formulas.specs.Refusals.{form_number}
use Rattle.refusals.specs.declared.Refusal.{Refusal}
use Rattle.refusals.specs.declared.Refusal.TheVariants.{Form, NotEntered, AssumptionsFull, LineNotHeld, LinesFull, NotAdmitted, BeyondLimit, RunTooLong, PastRun, ScratchTooShort, AssumptionFalse, FormulaTrue, RefutationsFull, RefutationNotHeld}

-- form's keep their numbers, 1 to 3
abbrev pub number_of : Refusal → ℕ
number_of (Form e) = form_number e
number_of NotEntered = 4
number_of AssumptionsFull = 5
number_of LineNotHeld = 6
number_of LinesFull = 7
number_of NotAdmitted = 8
number_of BeyondLimit = 9
number_of RunTooLong = 10
number_of PastRun = 11
number_of ScratchTooShort = 12
number_of (AssumptionFalse place position) = 13
number_of FormulaTrue = 14
number_of RefutationsFull = 15
number_of RefutationNotHeld = 16

-- a refusal of form is a refusal that holds it whole
abbrev pub by_form : {A : Type 0} → Result A FormRefusal → Result A Refusal
by_form (Ok x) = Ok x
by_form (Err e) = Err (Form e)

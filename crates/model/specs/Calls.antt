-- What each call answers, and what it leaves of the case.
use Rattle.std.specs.Prelude.{ℕ, if◌then◌else◌, length, Err, Result, nat_eq, nat_le}
use Rattle.refusals.specs.declared.Refusal.{Refusal}
use Rattle.refusals.specs.Numbers.{by_form}
use Rattle.refusals.specs.declared.Refusal.TheVariants.{NotEntered, AssumptionsFull}
use Rattle.lists.specs.Adding.{first_like, add_answer, add_after}
use Rattle.formulas.specs.Forming.{form_answer, form_after}
use Rattle.model.specs.Case.{Case}

-- what a call answers, and the case that it leaves
pub record Outcome (A : Type 0) : Type 0 where
  pub answer : Result A Refusal
  pub after : Case

-- an answer that leaves the case as it is
abbrev pub unchanged : {A : Type 0} → Case → Result A Refusal → Outcome A
unchanged c a = record { answer = a; after = c }

-- a formula is entered, by its kind and two fields, unless it is there
unfoldable pub form : Case → ℕ → ℕ → ℕ → Outcome ℕ
form c kind left right = record {
  answer = by_form (form_answer c.formulas kind left right);
  after = record c { formulas = form_after c.formulas kind left right };
}

-- an entered formula is assumed, by its number, unless it is already; a case takes 16 assumptions
unfoldable pub assume : Case → ℕ → Outcome ℕ
assume c f =
    if nat_le (length c.formulas) f then unchanged c (Err NotEntered)
    else record {
      answer = add_answer 16 AssumptionsFull c.assumptions (first_like nat_eq c.assumptions f);
      after = record c { assumptions = add_after 16 c.assumptions f (first_like nat_eq c.assumptions f) };
    }

-- form and assume do what their relations say.
use Rattle.std.proofs.Common.{◌≡◌, ℕ, ◌<◌, eqb, List, length, Ok, Err, Result, sym, refl, ◌∙◌, subst, inl, inr}
use lib.Dec
use Rattle.std.proofs.lemmas.Bool.{cond_both, leb-true, leb-false}
use Rattle.formulas.specs.declared.refusal.FormRefusal.{FormRefusal}
use Rattle.formulas.specs.declared.refusal.FormRefusal.TheVariants.{FormulasFull}
use Rattle.refusals.specs.declared.Refusal.{Refusal}
use Rattle.refusals.specs.declared.Refusal.TheVariants.{Form, AssumptionsFull, NotEntered}
use Rattle.refusals.specs.Numbers.{by_form}
use Rattle.refusals.proofs.Answers.{ok_not_err}
use Rattle.logic.specs.Formula.{Formula}
use Rattle.logic.specs.Same.{same}
use Rattle.formulas.specs.declared.entry.Entry.{Entry}
use Rattle.formulas.specs.Entries.{asked}
use Rattle.formulas.specs.Decode.{of_entry}
use Rattle.formulas.specs.Forming.{numbered, answer_for, after_for, form_answer, form_after}
use Rattle.lists.proofs.Places.{eqb_tells}
use Rattle.lists.proofs.Added.{AddEnds, already_there, no_room, added, add_ends}
use Rattle.logic.proofs.Same.{same_tells}
use Rattle.model.specs.Case.{Case}
use Rattle.model.specs.Calls.{unchanged, form, assume}
use Rattle.model.specs.Describes.{Describes}
use Rattle.model.specs.Outcomes.{FormEnds, unknown_kind, bad_field, formula_there, formulas_full, formula_entered, AssumeEnds, not_entered, assumption_there, assumptions_full, newly_assumed}
use Rattle.model.specs.Promises.{FormExact, AssumeExact}
use Rattle.model.proofs.Describing.{asked_describes, asked_refuses, describes_asked}

module _ (c : Case) (kind left right : ℕ) where
  -- a formula that is described is entered unless it is there
  by_added : (A : Formula) → Describes c.formulas kind left right A → {r : Result ℕ FormRefusal} {fs : List Formula} → AddEnds 1024 FormulasFull c.formulas A r fs
      → FormEnds c kind left right (record { answer = by_form r; after = record c { formulas = fs } })
  by_added A described (already_there n there) = formula_there A described n there
  by_added A described (no_room absent full) = formulas_full A described absent full
  by_added A described (added absent room) = formula_entered A described absent room

  refusing : (x : FormRefusal) → asked (length c.formulas) kind left right ≡ Err x → FormEnds c kind left right (unchanged c (Err (Form x)))
  refusing x is = elim (asked_refuses c.formulas kind left right x is) [
    | inl known ↦ subst (λ (y : FormRefusal). FormEnds c kind left right (unchanged c (Err (Form y)))) (sym known.0) (unknown_kind known.1)
    | inr field ↦ subst (λ (y : FormRefusal). FormEnds c kind left right (unchanged c (Err (Form y)))) (sym field.0)
        (bad_field field.1 (λ A d.
        let p = describes_asked c.formulas d in
        ok_not_err (sym p.1 ∙ is)))
  ]

  by_asked : (r : Result Entry FormRefusal) → asked (length c.formulas) kind left right ≡ r
      → FormEnds c kind left right (record { answer = by_form (answer_for c.formulas r); after = record c { formulas = after_for c.formulas r } })
  by_asked (Ok e) is = by_added (of_entry (numbered c.formulas) e) (asked_describes c.formulas kind left right e is) (add_ends same same_tells 1024 FormulasFull c.formulas (of_entry (numbered c.formulas) e))
  by_asked (Err x) is = refusing x is

pub form_exact : FormExact
unfolding form form_answer form_after
form_exact c kind left right = by_asked c kind left right (asked (length c.formulas) kind left right) refl

module _ (c : Case) (f : ℕ) (known : f < length c.formulas) where
  by_assumed : {r : Result ℕ Refusal} {ks : List ℕ} → AddEnds 16 AssumptionsFull c.assumptions f r ks → AssumeEnds c f (record { answer = r; after = record c { assumptions = ks } })
  by_assumed (already_there k there) = assumption_there known k there
  by_assumed (no_room absent full) = assumptions_full known absent full
  by_assumed (added absent room) = newly_assumed known absent room

pub assume_exact : AssumeExact
unfolding assume
assume_exact c f =
    cond_both (Dec.leb (length c.formulas) f) (unchanged c (Err NotEntered)) _ (AssumeEnds c f)
    (λ past. not_entered (leb-true (length c.formulas) f past))
    (λ known. by_assumed c f (leb-false (length c.formulas) f known) (add_ends eqb eqb_tells 16 AssumptionsFull c.assumptions f))

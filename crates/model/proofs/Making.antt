-- Calls that lead from the case of a history lead to that of the history that they make.
use Rattle.std.proofs.Common.{◌≡◌, List, [], ◌∷◌, ◌⊎◌, inl, inr, sym, refl, ap, ◌∙◌, subst}
use Rattle.refusals.specs.declared.Refusal.{Refusal}
use Rattle.model.specs.Case.{Case}
use Rattle.model.specs.History.{Stage, Call, History, then, after_call, after, Refused, Leads, no_more, refused_call, answered_call}
use Rattle.model.specs.Making.{Makes, nothing_made, refused_made, answered_made, OneMade}

module _ (s : Stage) where
  -- made after a history, calls make one that ends in a case
  abbrev pub MakesCase : History s → List (Call s) → Case → Type 0
  MakesCase h xs d = (g : History s) × Makes s h xs g × (d ≡ after g)

  leads_made : {c d : Case} {xs : List (Call s)} → Leads s c xs d → (h : History s) → c ≡ after h → MakesCase h xs d
  leads_made no_more h is = (h, nothing_made, is)
  leads_made (refused_call {x = x} e refused) h is =
      (then h x, refused_made e (subst (λ (b : Case). Refused b x e) is refused), ap (λ (b : Case). after_call b x) is)
  leads_made (answered_call {x = x} answered more) h is =
      let rest = leads_made more (then h x) (ap (λ (b : Case). after_call b x) is) in
      (rest.0, answered_made (λ e refused. answered e (subst (λ (b : Case). Refused b x e) (sym is) refused)) rest.1, rest.2)

  pub made : (h : History s) {xs : List (Call s)} {d : Case} → Leads s (after h) xs d → MakesCase h xs d
  made h leads = leads_made leads h refl

-- ---- one history alone

-- how calls were made, by the first of them
abbrev First : (s : Stage) → History s → Call s → List (Call s) → History s → Type 0
First s h x xs g = ((e : Refusal) × Refused (after h) x e × (g ≡ then h x)) ⊎ (((e : Refusal) → Refused (after h) x e → ⊥) × Makes s (then h x) xs g)

first_made : {s : Stage} {h g : History s} {x : Call s} {xs : List (Call s)} → Makes s h (x ∷ xs) g → First s h x xs g
first_made (refused_made e refused) = inl (e, refused, refl)
first_made (answered_made answered more) = inr (answered, more)

none_made : {s : Stage} {h g : History s} → Makes s h [] g → g ≡ h
none_made nothing_made = refl

pub one_made : OneMade
one_made s h [] g k first second = none_made first ∙ sym (none_made second)
one_made s h (x ∷ xs) g k first second = elim (first_made first) [
  | inl (e, refused, is) ↦ elim (first_made second) [
    | inl (f, again, same) ↦ is ∙ sym same
    | inr (answered, more) ↦ absurd (answered e refused)
  ]
  | inr (answered, more) ↦ elim (first_made second) [
    | inl (f, refused, same) ↦ absurd (answered f refused)
    | inr (again, rest) ↦ one_made s (then h x) xs g k more rest
  ]
]

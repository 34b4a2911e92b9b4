-- What is asked for may be entered.
use Rattle.std.proofs.Common.{◌≡◌, ℕ, Bool, true, ◌&&◌, eqb, List, [], ◌∷◌, ◌++◌, length, Ok, Err, Result, sym, subst, inl, inr, arith}
use Rattle.std.proofs.lemmas.Bool.{and_parts, cond_both, cases_lt}
use Rattle.std.proofs.lemmas.List.{length_push, get_or_push, get_or_append_left}
use Rattle.formulas.specs.declared.refusal.FormRefusal.{FormRefusal}
use Rattle.formulas.specs.declared.refusal.FormRefusal.TheVariants.{UnknownKind, BadField}
use Rattle.formulas.specs.declared.entry.Entry.{Entry}
use Rattle.formulas.specs.declared.entry.Entry.TheVariants.{False, Atom, Implies, Next, Always}
use Rattle.formulas.specs.Entries.{placed, when_placed, asked, Lower}

-- an entry that is asked for may stand after n others
abbrev Fine : ℕ → Result Entry FormRefusal → Type 0
Fine n r = (e : Entry) → r ≡ Ok e → placed n e ≡ true

err_fine : (n : ℕ) (x : FormRefusal) → Fine n (Err x)
err_fine n x e is = absurd (let z : ◌≡◌ {A = ℕ} 0 1 = cc in omega arith)

when_fine : (n : ℕ) (d : Entry) (unused : Bool) → Fine n (when_placed n d unused)
when_fine n d unused =
    cond_both (unused && placed n d) (Ok d) (Err BadField) (Fine n)
    (λ h e is. let same : d ≡ e = cc in subst (λ (x : Entry). placed n x ≡ true) same (and_parts unused (placed n d) h).1)
    (λ h. err_fine n BadField)

pub asked_fine : (n kind left right : ℕ) → Fine n (asked n kind left right)
asked_fine n kind left right =
    cond_both (eqb kind 0) _ _ (Fine n) (λ _. when_fine n False _) (λ _.
    cond_both (eqb kind 1) _ _ (Fine n) (λ _. when_fine n (Atom left) _) (λ _.
    cond_both (eqb kind 2) _ _ (Fine n) (λ _. when_fine n (Implies left right) true) (λ _.
    cond_both (eqb kind 3) _ _ (Fine n) (λ _. when_fine n (Next left) _) (λ _.
    cond_both (eqb kind 4) _ _ (Fine n) (λ _. when_fine n (Always left) _) (λ _.
    err_fine n UnknownKind)))))

-- one more entry keeps operands lower
pub lower_push : (es : List Entry) (e : Entry) → Lower es → placed (length es) e ≡ true → Lower (es ++ e ∷ [])
lower_push es e low p i h =
    elim (cases_lt i (length es)) [
      | inl l ↦ subst (λ (x : Entry). placed i x ≡ true) (sym (get_or_append_left es (e ∷ []) False i l)) (low i l)
      | inr g ↦
          let at : length es ≡ i = omega (arith, length_push es e) in
          subst (λ (x : Entry). placed i x ≡ true) (sym (get_or_push es e False i at)) (subst (λ (k : ℕ). placed k e ≡ true) at p)
    ]

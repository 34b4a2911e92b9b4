-- `FormulaList::form` meets its contract: entering an entry is entering its formula.
use Rattle.std.proofs.Common.{◌≡◌, ℕ, ◌<◌, ◌≤◌, true, List, length, get_or, take, Some, Err, Option, Result, sym, refl, ap, ◌∙◌, subst, inl, inr, arith}
use Rattle.std.specs.Option.{ok_or}
use Rattle.std.proofs.lemmas.Result.{err_from_is_err_and}
use Rattle.formulas.specs.declared.refusal.FormRefusal.{FormRefusal}
use Rattle.formulas.specs.declared.refusal.FormRefusal.TheVariants.{FormulasFull}
use Rattle.formulas.specs.declared.entry.Entry.{Entry}
use Rattle.formulas.specs.declared.list.FormulaList.{FormulaList}
use Rattle.lists.specs.Adding.{first_like, first_like_from, number_for, add_after}
use Rattle.formulas.specs.Entries.{placed, asked}
use Rattle.formulas.proofs.Asked.{asked_fine}
use Rattle.lists.proofs.Places.{first_like_none, first_like_from_is}
use Rattle.lists.proofs.Members.{some_same, nth_within}
use Rattle.std.proofs.lemmas.List.{get_or-take, length-take}
use Rattle.std.proofs.lemmas.Option.{slice_get-get_or}
use Rattle.formulas.specs.declared.entry.Entry.TheVariants.{False}
use Rattle.std.proofs.lemmas.Bool.{cases_lt, true≢false}
use Rattle.std.specs.List.{slice_get}
use Rattle.formulas.specs.Listed.{entries_of}
use Rattle.lists.proofs.Added.{add_within}
use Rattle.formulas.proofs.Decoded.{decoded_length}
use Rattle.formulas.proofs.Likeness.{entry_eq, entry_tells}
use Rattle.formulas.proofs.Forming.{Formed, formed, formed_refused}
use Rattle.formulas.proofs.list.FormulaList.form.Goals as goal
use Rattle.formulas.proofs.list.FormulaList.form.Goals.{After-enter_from}

-- what was asked for, at the length of the list
at_length : (l : FormulaList) (n kind left right : ℕ) {r x : Result Entry FormRefusal} → n ≡ length (entries_of l) → r ≡ asked n kind left right → r ≡ x → asked (length (entries_of l)) kind left right ≡ x
at_length l n kind left right {x = x} long is found = subst (λ (k : ℕ). asked k kind left right ≡ x) long (sym is ∙ found)

pub returns-in_err-entry : goal.returns-in_err-entry
returns-in_err-entry c =
    let s = c.args.self.now in
    let p = err_from_is_err_and c.from_residual.result c.from_residual.ensures.1 in
    let is = at_length s _ c.args.kind c.args.left c.args.right (c.len.ensures ∙ decoded_length _) c.asked_for.ensures (c.in_err-entry.was ∙ ap Err (sym p.2)) in
    let f = formed_refused (entries_of s) s.lower s.distinct c.args.kind c.args.left c.args.right p.0 is in
    record { answer = p.1 ∙ f.answer; after = f.after; entries = f.entries; distinct = f.distinct }

-- no number below the lowest one is the entry's, so it is found as if all were looked at
found : (c : After-enter_from) → first_like_from entry_eq c.lowest.result (entries_of c.args.self.now) c.in_ok-entry.entry ≡ first_like entry_eq (entries_of c.args.self.now) c.in_ok-entry.entry
found c =
    let s = c.args.self.now in
    let e = c.in_ok-entry.entry in
    let es = entries_of s in
    let is = at_length s _ c.args.kind c.args.left c.args.right (c.len.ensures ∙ decoded_length _) c.asked_for.ensures c.in_ok-entry.was in
    let fine : placed (length es) e ≡ true = asked_fine (length es) c.args.kind c.args.left c.args.right e is in
    let there : c.lowest.result ≤ length es =
    elim (cases_lt (length es) c.lowest.result) [
      | inl l ↦ absurd (true≢false (sym fine ∙ c.lowest.ensures (length es) l))
      | inr le ↦ le
    ] in
    let passed : (k : ℕ) → slice_get (take c.lowest.result es) k ≡ Some e → ⊥ =
    λ k at.
    let below : k < c.lowest.result = omega (arith, nth_within (take c.lowest.result es) k at, length-take c.lowest.result es) in
    let here : get_or es k False ≡ e = sym (get_or-take c.lowest.result es k False below) ∙ some_same (sym (slice_get-get_or (take c.lowest.result es) k False (nth_within (take c.lowest.result es) k at)) ∙ at) in
    true≢false (sym (s.lower k (omega (arith, below, there))) ∙ ap (placed k) here ∙ c.lowest.ensures k below) in
    first_like_from_is entry_eq es c.lowest.result e there (first_like_none entry_eq entry_tells (take c.lowest.result es) e passed)

-- what it leaves, where an entry is asked for
entered : (c : After-enter_from) → Formed (entries_of c.args.self.now) c.enter_from.new.self c.args.kind c.args.left c.args.right (ok_or c.enter_from.result FormulasFull)
entered c =
    let s = c.args.self.now in
    let e = c.in_ok-entry.entry in
    let is = at_length s _ c.args.kind c.args.left c.args.right (c.len.ensures ∙ decoded_length _) c.asked_for.ensures c.in_ok-entry.was in
    let f = formed (entries_of s) s.lower s.distinct c.args.kind c.args.left c.args.right e is (first_like entry_eq (entries_of s) e) refl in
    subst (λ (o : Option ℕ). Formed (entries_of s) c.enter_from.new.self c.args.kind c.args.left c.args.right (ok_or o FormulasFull)) (sym (c.enter_from.ensures.number ∙ ap (number_for 1024 (entries_of s)) (found c)))
    (subst (λ (es : List Entry). Formed (entries_of s) es c.args.kind c.args.left c.args.right (ok_or (number_for 1024 (entries_of s) (first_like entry_eq (entries_of s) e)) FormulasFull)) (sym (c.enter_from.ensures.after ∙ ap (add_after 1024 (entries_of s) e) (found c))) f)

pub invariant_of-self : goal.invariant_of-self
invariant_of-self c =
    let s = c.args.self.now in
    let f = entered c in
    record {
      within = subst (λ (es : List Entry). length es ≤ 1024) (sym c.enter_from.ensures.after) (add_within 1024 (entries_of s) c.in_ok-entry.entry _ s.within);
      distinct = f.apart;
      lower = f.lower;
    }

pub returns : goal.returns
returns c = let f = entered (goal.at.returns c).After-enter_from in record { answer = c.ok_or.ensures.value ∙ f.answer; after = f.after; entries = f.entries; distinct = f.distinct }

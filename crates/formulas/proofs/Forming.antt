-- Entering an entry is entering its formula.
use Rattle.std.proofs.Common.{◌≡◌, ℕ, ◌<◌, ◌≤◌, Bool, true, cond, ltb, List, [], ◌∷◌, ◌++◌, length, get_or, Some, None, Ok, Err, Option, Result, sym, ap, ◌∙◌, subst, inl, inr, arith}
use Rattle.std.specs.List.{slice_get}
use Rattle.std.specs.Option.{ok_or}
use Rattle.std.proofs.lemmas.Bool.{cases_lt, cond-true, cond-false, lt-ltb, le-ltb}
use Rattle.std.proofs.lemmas.List.{length_push, get_or_push, get_or_append_left, ext_get_or}
use Rattle.std.proofs.lemmas.Option.{slice_get-get_or}
use Rattle.formulas.specs.declared.refusal.FormRefusal.{FormRefusal}
use Rattle.formulas.specs.declared.refusal.FormRefusal.TheVariants.{FormulasFull}
use Rattle.logic.specs.Formula.{Formula, falsum}
use Rattle.logic.specs.Same.{same}
use Rattle.formulas.specs.declared.entry.Entry.{Entry}
use Rattle.formulas.specs.declared.entry.Entry.TheVariants.{False}
use Rattle.lists.specs.Adding.{Distinct, first_like, number_for, add_answer, add_after}
use Rattle.formulas.specs.Entries.{placed, alike, asked, Lower}
use Rattle.formulas.specs.Decode.{of_entry, formula_at, decoded}
use Rattle.formulas.specs.Forming.{numbered, answer_for, after_for, entries_for, form_answer, form_after, entries_after}
use Rattle.lists.proofs.Members.{some_same, nth_within, distinct_push}
use Rattle.lists.proofs.Places.{first_like_is, first_like_only, first_like_none, none_there, same_first_like}
use Rattle.logic.proofs.Same.{same_tells}
use Rattle.formulas.proofs.Likeness.{entry_eq, entry_tells, alike_tells}
use Rattle.formulas.proofs.Decoded.{of_entry_same, of_entry_injective, formula_at_is, formula_kept, formula_injective, decoded_length, decoded_at, decoded_nth}
use Rattle.formulas.proofs.Asked.{asked_fine, lower_push}
use Rattle.lists.proofs.Added.{add_longer}

-- what `form` ensures, by the entries before and after
pub record Formed (es es' : List Entry) (kind left right : ℕ) (r : Result ℕ FormRefusal) : Type 0 where
  pub answer : r ≡ form_answer (decoded es) kind left right
  pub after : decoded es' ≡ form_after (decoded es) kind left right
  pub entries : es' ≡ entries_after es kind left right
  pub distinct : Distinct (decoded es')
  pub apart : Distinct es'
  pub lower : Lower es'

module _ (es : List Entry) (low : Lower es) (distinct : Distinct es) where
  -- no two entries stand for one formula
  pub decoded_distinct : Distinct (decoded es)
  decoded_distinct i j h l e =
      let j_in : j < length es = omega (arith, decoded_length es) in
      let i_in : i < length es = omega arith in
      let same_number = formula_injective es low distinct i j i_in j_in (some_same (sym (decoded_nth es i i_in) ∙ e ∙ decoded_nth es j j_in)) in
      omega arith

  module _ (e : Entry) (p : placed (length es) e ≡ true) where
    abbrev meaning : Formula
    meaning = of_entry (formula_at es) e

    entry_there : (k : ℕ) → slice_get (decoded es) k ≡ Some meaning → slice_get es k ≡ Some e
    entry_there k is =
        let k_in : k < length es = omega (arith, nth_within (decoded es) k is, decoded_length es) in
        let formulas : of_entry (formula_at es) (get_or es k False) ≡ meaning =
        sym (formula_at_is es low k k_in) ∙ some_same (sym (decoded_nth es k k_in) ∙ is) in
        slice_get-get_or es k False k_in ∙ ap Some (of_entry_injective (formula_at es) k (length es) (get_or es k False) e (low k k_in) p
        (λ a b m n u. formula_injective es low distinct a b (omega arith) (omega arith) u) formulas)

    formula_there : (k : ℕ) → slice_get es k ≡ Some e → slice_get (decoded es) k ≡ Some meaning
    formula_there k is =
        let k_in : k < length es = nth_within es k is in
        let here : get_or es k False ≡ e = some_same (sym (slice_get-get_or es k False k_in) ∙ is) in
        decoded_nth es k k_in ∙ ap Some (formula_at_is es low k k_in ∙ ap (of_entry (formula_at es)) here)

    -- an entry is found where its formula is
    places : (o : Option ℕ) → first_like entry_eq es e ≡ o → first_like same (decoded es) meaning ≡ o
    places (Some i) is = first_like_only same same_tells (decoded es) meaning decoded_distinct i (formula_there i (first_like_is entry_eq entry_tells es e i is))
    places None is = first_like_none same same_tells (decoded es) meaning (λ k there. none_there entry_eq entry_tells es e is k (entry_there k there))

    decoded_push : decoded (es ++ e ∷ []) ≡ decoded es ++ meaning ∷ []
    decoded_push =
        ext_get_or falsum (decoded (es ++ e ∷ [])) (decoded es ++ meaning ∷ [])
        (omega (arith, decoded_length (es ++ e ∷ []), decoded_length es, length_push es e, length_push (decoded es) meaning))
        (λ i h.
        let i_in : i < length (es ++ e ∷ []) = omega (arith, decoded_length (es ++ e ∷ [])) in
        decoded_at (es ++ e ∷ []) i i_in ∙ (elim (cases_lt i (length es)) as (λ _. formula_at (es ++ e ∷ []) i ≡ get_or (decoded es ++ meaning ∷ []) i falsum) [
          | inl old ↦
              formula_kept es low (e ∷ []) i old ∙ sym (decoded_at es i old)
              ∙ sym (get_or_append_left (decoded es) (meaning ∷ []) falsum i (omega (arith, decoded_length es)))
          | inr new ↦
              let at : length es ≡ i = omega (arith, length_push es e) in
              formula_at_is (es ++ e ∷ []) (lower_push es e low p) i i_in
              ∙ ap (of_entry (formula_at (es ++ e ∷ []))) (get_or_push es e False i at)
              ∙ of_entry_same (formula_at (es ++ e ∷ [])) (formula_at es) (length es) e p (λ a a_in. formula_kept es low (e ∷ []) a a_in)
              ∙ sym (get_or_push (decoded es) meaning falsum i (omega (arith, decoded_length es)))
        ]))

    -- by the formulas in the list, the entry stands for the same
    meant : of_entry (numbered (decoded es)) e ≡ meaning
    meant = of_entry_same (numbered (decoded es)) (formula_at es) (length es) e p (λ a a_in. decoded_at es a a_in)

  -- what `form` does where an entry is asked for
  module _ (kind left right : ℕ) (e : Entry) (is : asked (length es) kind left right ≡ Ok e) where
    fine : placed (length es) e ≡ true
    fine = asked_fine (length es) kind left right e is

    asked_here : asked (length (decoded es)) kind left right ≡ Ok e
    asked_here = ap (λ (n : ℕ). asked n kind left right) (decoded_length es) ∙ is

    answer_is : (o : Option ℕ) → first_like entry_eq es e ≡ o → add_answer 1024 FormulasFull (decoded es) o ≡ form_answer (decoded es) kind left right
    unfolding form_answer
    answer_is o found =
        sym (ap (answer_for (decoded es)) asked_here
        ∙ ap (λ (A : Formula). add_answer 1024 FormulasFull (decoded es) (first_like same (decoded es) A)) (meant e fine)
        ∙ ap (add_answer 1024 FormulasFull (decoded es)) (places e fine o found))

    after_is : (o : Option ℕ) → first_like entry_eq es e ≡ o → add_after 1024 (decoded es) (of_entry (formula_at es) e) o ≡ form_after (decoded es) kind left right
    unfolding form_after
    after_is o found =
        sym (ap (after_for (decoded es)) asked_here
        ∙ ap (λ (A : Formula). add_after 1024 (decoded es) A (first_like same (decoded es) A)) (meant e fine)
        ∙ ap (add_after 1024 (decoded es) (of_entry (formula_at es) e)) (places e fine o found))

    entries_are : (o : Option ℕ) → first_like entry_eq es e ≡ o → add_after 1024 es e o ≡ entries_after es kind left right
    unfolding entries_after
    entries_are o found = sym (ap (entries_for es) is ∙ ap (add_after 1024 es e) (same_first_like alike entry_eq alike_tells entry_tells es e ∙ found))

    formed_old : (i : ℕ) → first_like entry_eq es e ≡ Some i → Formed es es kind left right (Ok i)
    formed_old i found = record { answer = answer_is (Some i) found; after = after_is (Some i) found; entries = entries_are (Some i) found; distinct = decoded_distinct; apart = distinct; lower = low }

    module _ (found : first_like entry_eq es e ≡ None) where
      none_before : (k : ℕ) → slice_get es k ≡ Some e → ⊥
      none_before = none_there entry_eq entry_tells es e found

      formed_full : 1024 ≤ length es → Formed es es kind left right (Err FormulasFull)
      formed_full full =
          let b = le-ltb (length (decoded es)) 1024 (omega (arith, decoded_length es)) in
          record {
            answer = sym (cond-false (ltb (length (decoded es)) 1024) _ _ b) ∙ answer_is None found;
            after = sym (cond-false (ltb (length (decoded es)) 1024) _ _ b) ∙ after_is None found;
            entries = sym (cond-false (ltb (length es) 1024) _ _ (le-ltb (length es) 1024 full)) ∙ entries_are None found;
            distinct = decoded_distinct;
            apart = distinct;
            lower = low;
          }

      -- what the list has with the entry at its end
      pushed_apart : Distinct (es ++ e ∷ [])
      pushed_apart = distinct_push es e distinct none_before

      pushed_lower : Lower (es ++ e ∷ [])
      pushed_lower = lower_push es e low fine

-- a new entry stands at the end
formed_new : (es : List Entry) (low : Lower es) (distinct : Distinct es) (kind left right : ℕ) (e : Entry) (is : asked (length es) kind left right ≡ Ok e) → first_like entry_eq es e ≡ None
    → length es < 1024 → Formed es (es ++ e ∷ []) kind left right (Ok (length es))
formed_new es low distinct kind left right e is found room =
    let b = lt-ltb (length (decoded es)) 1024 (omega (arith, decoded_length es)) in
    let apart = pushed_apart es low distinct kind left right e is found in
    let lower = pushed_lower es low distinct kind left right e is found in
    record {
      answer =
          ap Ok (sym (decoded_length es)) ∙ sym (cond-true (ltb (length (decoded es)) 1024) (Ok (length (decoded es))) (Err FormulasFull) b)
          ∙ answer_is es low distinct kind left right e is None found;
      after =
          decoded_push es low distinct e (fine es low distinct kind left right e is)
          ∙ sym (cond-true (ltb (length (decoded es)) 1024) _ _ b) ∙ after_is es low distinct kind left right e is None found;
      entries = sym (cond-true (ltb (length es) 1024) _ _ (lt-ltb (length es) 1024 room)) ∙ entries_are es low distinct kind left right e is None found;
      distinct = decoded_distinct (es ++ e ∷ []) lower apart;
      apart = apart;
      lower = lower;
    }

-- entering what is asked for, by where it stands already
pub formed : (es : List Entry) (low : Lower es) (distinct : Distinct es) (kind left right : ℕ) (e : Entry) (is : asked (length es) kind left right ≡ Ok e)
    → (o : Option ℕ) → first_like entry_eq es e ≡ o → Formed es (add_after 1024 es e o) kind left right (ok_or (number_for 1024 es o) FormulasFull)
formed es low distinct kind left right e is (Some i) found = formed_old es low distinct kind left right e is i found
formed es low distinct kind left right e is None found =
    let by : Bool → Type 0 = λ b. Formed es (cond b (es ++ e ∷ []) es) kind left right (ok_or (cond b (Some (length es)) None) FormulasFull) in
    elim (cases_lt (length es) 1024) [
      | inl room ↦ subst by (sym (lt-ltb (length es) 1024 room)) (formed_new es low distinct kind left right e is found room)
      | inr full ↦ subst by (sym (le-ltb (length es) 1024 full)) (formed_full es low distinct kind left right e is found full)
    ]

-- what is refused before an entry is there changes nothing
pub formed_refused : (es : List Entry) (low : Lower es) (distinct : Distinct es) (kind left right : ℕ) (x : FormRefusal) → asked (length es) kind left right ≡ Err x → Formed es es kind left right (Err x)
unfolding form_answer form_after entries_after
formed_refused es low distinct kind left right x is =
    let here : asked (length (decoded es)) kind left right ≡ Err x = ap (λ (n : ℕ). asked n kind left right) (decoded_length es) ∙ is in
    record {
      answer = sym (ap (answer_for (decoded es)) here);
      after = sym (ap (after_for (decoded es)) here);
      entries = sym (ap (entries_for es) is);
      distinct = decoded_distinct es low distinct;
      apart = distinct;
      lower = low;
    }

-- no list of formulas gets shorter
pub form_longer : (fs : List Formula) (kind left right : ℕ) → length fs ≤ length (form_after fs kind left right)
unfolding form_after
form_longer fs kind left right = longer (asked (length fs) kind left right)
  where
    longer : (r : Result Entry FormRefusal) → length fs ≤ length (after_for fs r)
    longer (Ok e) = add_longer 1024 fs _ _
    longer (Err x) = omega arith

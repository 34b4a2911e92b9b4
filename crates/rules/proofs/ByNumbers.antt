-- Matching by numbers finds out what is an instance of a schema, since no two numbers stand for one formula.
use Rattle.std.proofs.Common.{◌≡◌, ℕ, zero, suc, ◌<◌, true, false, ◌&&◌, ◌↔◌, ◌⊎◌, ltb, List, length, set, replicate, get_or, Some, None, Option, is_some, sym, refl, ap, ap₂, ◌∙◌, subst, inl, inr, arith}
use Rattle.std.specs.List.{slice_get}
use Rattle.std.specs.Option.{option_map, option_map_or, option_and_then, unwrap_or}
use Rattle.std.proofs.lemmas.Bool.{cond_both, and_parts, ltb-true, eqb-true, eq-eqb, cases_eq, cases_Bool, lt-ltb, true≢false, false≢true}
use Rattle.std.proofs.lemmas.List.{length-set, length-replicate, get_or-set_same, get_or-set_other}
use Rattle.std.proofs.lemmas.Option.{slice_get-get_or}
use Rattle.logic.specs.Formula.{Formula, falsum, atom, implies, next, always}
use Rattle.formulas.specs.declared.entry.Entry.{Entry}
use Rattle.formulas.specs.declared.entry.Entry.TheVariants.{False, Implies, Next, Always}
use Rattle.lists.specs.Adding.{Distinct}
use Rattle.formulas.specs.Entries.{placed, Lower}
use Rattle.formulas.specs.Decode.{of_entry, formula_at}
use Rattle.formulas.proofs.Decoded.{formula_at_is, formula_injective}
use Rattle.lists.proofs.Members.{some_same, some_not_none}
use Rattle.calculus.specs.Schemas.{RuleSchema, filled, is_instance}
use Rattle.calculus.proofs.Instances.{instance_filled, filled_instance}
use Rattle.rules.specs.Matching.{may_be, letters_below, has_room, with_letter, if_false, if_implies, if_next, if_always, matched_in, premise_matched_in, letters_in}

abbrev Letters : Type 0
Letters = List (Option ℕ)

-- at first nothing stands for any letter
none_known : (most a : ℕ) → get_or {A = Option ℕ} (replicate most None) a None ≡ None
none_known zero a = refl
none_known (suc k) zero = refl
none_known (suc k) (suc a) = none_known k a

module _ (es : List Entry) (low : Lower es) (distinct : Distinct es) where
  abbrev at : ℕ → Formula
  at = formula_at es

  -- n stands for the letter a
  abbrev For : Letters → ℕ → ℕ → Type 0
  For ls a n = get_or ls a None ≡ Some n

  -- formulas for all letters are those that stand for some
  abbrev Agrees : (ℕ → Formula) → Letters → Type 0
  Agrees s ls = (a n : ℕ) → For ls a n → s a ≡ at n

  -- numbers are of entries
  abbrev Entered : Letters → Type 0
  Entered ls = (a n : ℕ) → For ls a n → n < length es

  module _ (most : ℕ) where
    -- formulas for the letters are as T says exactly when they agree with what is found; where nothing is, none are
    abbrev Finds : ((ℕ → Formula) → Type 0) → Option Letters → Type 0
    Finds T None = (s : ℕ → Formula) → T s → ⊥
    Finds T (Some ls) = Entered ls × (length ls ≡ most) × ((s : ℕ → Formula) → Agrees s ls ↔ T s)

    same_finds : {T U : (ℕ → Formula) → Type 0} → ((s : ℕ → Formula) → T s ↔ U s) → (o : Option Letters) → Finds T o → Finds U o
    same_finds same None none = λ s u. none s ((same s).1 u)
    same_finds same (Some ls) (entered, long, both) = (entered, long, λ s. (λ g. (same s).0 ((both s).0 g), λ u. (both s).1 ((same s).1 u)))

    -- one search after another
    then_finds : (T U : (ℕ → Formula) → Type 0) (f : Letters → Option Letters) (o : Option Letters) → Finds T o
        → ((ls : Letters) → Entered ls → length ls ≡ most → Finds (λ s. Agrees s ls × U s) (f ls)) → Finds (λ s. T s × U s) (option_and_then f o)
    then_finds T U f None none more = λ s t. none s t.0
    then_finds T U f (Some ls) (entered, long, both) more = same_finds (λ s. (λ t. ((both s).0 t.0, t.1), λ t. ((both s).1 t.0, t.1))) (f ls) (more ls entered long)

    module _ (ls : Letters) (entered : Entered ls) (long : length ls ≡ most) where
      -- one letter
      module _ (a n : ℕ) (there : n < length es) (small : a < most) where
        abbrev set_ls : Letters
        set_ls = set ls a (Some n)

        set_here : For set_ls a n
        set_here = get_or-set_same ls a (Some n) None (omega arith)

        set_is : (b m : ℕ) → For set_ls b m → ((b ≡ a) × (m ≡ n)) ⊎ For ls b m
        set_is b m is = elim (cases_eq b a) [
          | inl e ↦ inl (e, some_same (sym is ∙ ap (λ k. get_or set_ls k None) e ∙ set_here))
          | inr ne ↦ inr (sym (get_or-set_other ls a b (Some n) None ne) ∙ is)
        ]

        set_keeps : may_be (get_or ls a None) n ≡ true → (b m : ℕ) → For ls b m → For set_ls b m
        set_keeps may b m is = elim (cases_eq b a) [
          | inl e ↦
              let known : get_or ls a None ≡ Some m = ap (λ k. get_or ls k None) (sym e) ∙ is in
              let same : m ≡ n = eqb-true m n (subst (λ o. may_be o n ≡ true) known may) in
              ap (λ k. get_or set_ls k None) e ∙ set_here ∙ ap Some (sym same)
          | inr ne ↦ get_or-set_other ls a b (Some n) None ne ∙ is
        ]

        refused : (o : Option ℕ) → get_or ls a None ≡ o → may_be o n ≡ false → (s : ℕ → Formula) → Agrees s ls × (s a ≡ at n) → ⊥
        refused None is not s t = absurd (true≢false not)
        refused (Some m) is not s t =
            let same : m ≡ n = formula_injective es low distinct m n (entered a m is) there (sym (t.0 a m is) ∙ t.1) in
            true≢false (sym (eq-eqb m n same) ∙ not)

        letter_finds : Finds (λ s. Agrees s ls × (s a ≡ at n)) (with_letter ls a n)
        letter_finds = elim (cases_Bool (may_be (get_or ls a None) n)) [
          | inl may ↦
              let found : Finds (λ s. Agrees s ls × (s a ≡ at n)) (Some set_ls) = (
                λ b m is. elim (set_is b m is) [ inl new ↦ rw (new.1) there | inr old ↦ entered b m old ],
                length-set ls a (Some n) ∙ long,
                λ s. (
                  λ g. (λ b m is. g b m (set_keeps may b m is), g a n set_here),
                  λ t b m is. elim (set_is b m is) [ inl new ↦ ap s new.0 ∙ t.1 ∙ ap at (sym new.1) | inr old ↦ t.0 b m old ],
                ),
              ) in
              rw (may, lt-ltb a (length ls) (omega arith)) found
          | inr not ↦ rw not (cond_both (ltb a (length ls) && false) _ None (Finds (λ s. Agrees s ls × (s a ≡ at n))) (λ e. absurd (false≢true (and_parts _ _ e).1)) (λ _. refused (get_or ls a None) refl not))
        ]

    -- the formulas that agree with what is found, if it is, are those that agree with ls and make X of a formula A
    abbrev Told : Letters → Formula → Formula → Option Letters → Type 0
    Told ls A X o = Finds (λ s. Agrees s ls × (filled s A ≡ X)) o

    -- so it is of every entry and a formula that is matched with it
    abbrev Matches : Formula → Type 0
    Matches A = letters_below most A ≡ true → (n : ℕ) → n < length es → (ls : Letters) → Entered ls → length ls ≡ most → Told ls A (at n) (matched_in es A n ls)

    module _ (n : ℕ) (there : n < length es) (ls : Letters) (entered : Entered ls) (long : length ls ≡ most) where
      -- what holds of an entry, and of the formula made of its operands, holds of its number and its formula
      at_entry : (R : Option Entry → Formula → Type 0) → ((e : Entry) → placed n e ≡ true → R (Some e) (of_entry at e)) → R (slice_get es n) (at n)
      at_entry R here = rw (slice_get-get_or es n False there, formula_at_is es low n there) (here (get_or es n False) (low n there))

      at_false : (e : Entry) → placed n e ≡ true → Told ls falsum (of_entry at e) (if_false (Some e) (Some ls))
      at_false False p = (entered, long, λ s. (λ g. (g, refl), λ t. t.0))
      at_false e p = λ s t. cc

      at_implies : (A B : Formula) → Matches A → Matches B → letters_below most A && letters_below most B ≡ true → (e : Entry) → placed n e ≡ true
          → Told ls (implies A B) (of_entry at e) (if_implies (Some e) (λ a b. option_and_then (matched_in es B b) (matched_in es A a ls)))
      at_implies A B left right few (Implies a b) p =
          let (a_low, b_low) = and_parts (ltb a n) (ltb b n) p in
          let (few_left, few_right) = and_parts (letters_below most A) (letters_below most B) few in
          same_finds (λ s. (λ t. (t.0.0, ap₂ implies t.0.1 t.1), λ t. ((t.0, cc (t.1)), cc (t.1)))) _
          (then_finds (λ s. Agrees s ls × (filled s A ≡ at a)) (λ s. filled s B ≡ at b) (matched_in es B b) (matched_in es A a ls)
          (left few_left a (omega (arith, ltb-true a n a_low)) ls entered long)
          (right few_right b (omega (arith, ltb-true b n b_low))))
      at_implies A B left right few e p = λ s t. cc

      at_next : (A : Formula) → Matches A → letters_below most A ≡ true → (e : Entry) → placed n e ≡ true
          → Told ls (next A) (of_entry at e) (if_next (Some e) (λ a. matched_in es A a ls))
      at_next A inner few (Next a) p = same_finds (λ s. (λ t. (t.0, ap next t.1), λ t. (t.0, cc (t.1)))) _ (inner few a (omega (arith, ltb-true a n p)) ls entered long)
      at_next A inner few e p = λ s t. cc

      at_always : (A : Formula) → Matches A → letters_below most A ≡ true → (e : Entry) → placed n e ≡ true
          → Told ls (always A) (of_entry at e) (if_always (Some e) (λ a. matched_in es A a ls))
      at_always A inner few (Always a) p = same_finds (λ s. (λ t. (t.0, ap always t.1), λ t. (t.0, cc (t.1)))) _ (inner few a (omega (arith, ltb-true a n p)) ls entered long)
      at_always A inner few e p = λ s t. cc

    matches : (A : Formula) → Matches A
    matches falsum few n there ls entered long = at_entry n there ls entered long (λ o X. Told ls falsum X (if_false o (Some ls))) (at_false n there ls entered long)
    matches (atom a) few n there ls entered long = rw (slice_get-get_or es n False there) (letter_finds ls entered long a n there (ltb-true a most few))
    matches (implies A B) few n there ls entered long =
        at_entry n there ls entered long (λ o X. Told ls (implies A B) X (if_implies o (λ a b. option_and_then (matched_in es B b) (matched_in es A a ls))))
        (at_implies n there ls entered long A B (matches A) (matches B) few)
    matches (next A) few n there ls entered long =
        at_entry n there ls entered long (λ o X. Told ls (next A) X (if_next o (λ a. matched_in es A a ls))) (at_next n there ls entered long A (matches A) few)
    matches (always A) few n there ls entered long =
        at_entry n there ls entered long (λ o X. Told ls (always A) X (if_always o (λ a. matched_in es A a ls))) (at_always n there ls entered long A (matches A) few)

    premise_finds : (A : Option Formula) (p : Option ℕ) → option_map_or (letters_below most) A true ≡ true → option_map_or (λ n. ltb n (length es)) p true ≡ true
        → (ls : Letters) → Entered ls → length ls ≡ most → Finds (λ s. Agrees s ls × (option_map (filled s) A ≡ option_map at p)) (premise_matched_in es A p ls)
    premise_finds None None few there ls entered long = (entered, long, λ s. (λ g. (g, refl), λ t. t.0))
    premise_finds (Some A) (Some n) few there ls entered long =
        same_finds (λ s. (λ t. (t.0, ap Some t.1), λ t. (t.0, cc (t.1)))) _ (matches A few n (ltb-true n _ there) ls entered long)
    premise_finds A p few there ls entered long = λ s t. cc

    -- an instance of a schema
    pub instance_by_numbers : (h : RuleSchema) → has_room most h ≡ true → (n : ℕ) (p q : Option ℕ) → n < length es
        → option_map_or (λ n. ltb n (length es)) p true ≡ true → option_map_or (λ n. ltb n (length es)) q true ≡ true
        → is_some (letters_in most es h n p q) ≡ is_instance h (at n) (option_map at p) (option_map at q)
    instance_by_numbers h room n p q n_in p_in q_in =
        let (few, rest) = and_parts _ _ room in
        let (few_first, few_second) = and_parts _ _ rest in
        by (letters_in most es h n p q)
        (then_finds _ (λ s. option_map (filled s) h.second ≡ option_map at q) (premise_matched_in es h.second q) _
        (then_finds _ (λ s. option_map (filled s) h.first ≡ option_map at p) (premise_matched_in es h.first p) _
        (matches h.conclusion few n n_in (replicate most None) (λ a m is. absurd (some_not_none (sym is ∙ none_known most a))) (length-replicate most None))
        (premise_finds h.first p few_first p_in))
        (premise_finds h.second q few_second q_in))
      where
        by : (o : Option Letters)
            → Finds (λ s. ((Agrees s (replicate most None) × (filled s h.conclusion ≡ at n)) × (option_map (filled s) h.first ≡ option_map at p)) × (option_map (filled s) h.second ≡ option_map at q)) o
            → is_some o ≡ is_instance h (at n) (option_map at p) (option_map at q)
        by None none = elim (cases_Bool (is_instance h (at n) (option_map at p) (option_map at q))) [
          | inl is ↦
              let f = instance_filled h (at n) (option_map at p) (option_map at q) is in
              absurd (none _ (((λ a m is. absurd (some_not_none (sym is ∙ none_known most a)), f.conclusion), f.first), f.second))
          | inr not ↦ sym not
        ]
        by (Some ls) (entered, long, both) =
            let s = λ (a : ℕ). unwrap_or (option_map at (get_or ls a None)) falsum in
            let t = (both s).0 (λ a m is. ap (λ o. unwrap_or (option_map at o) falsum) is) in
            sym (filled_instance {s = s} (record { conclusion = t.0.0.1; first = t.0.1; second = t.1 }))

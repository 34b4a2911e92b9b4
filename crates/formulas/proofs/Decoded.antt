-- What entries stand for: how it is read, that more entries keep it, and that entries differ in it.
use Rattle.std.proofs.Common.{◌≡◌, ℕ, zero, suc, ◌<◌, true, ltb, List, ◌++◌, length, get_or, Some, sym, refl, ap, ◌∙◌, inl, inr, arith}
use Rattle.std.specs.List.{slice_get}
use Rattle.std.proofs.lemmas.Option.{slice_get-get_or}
use Rattle.std.proofs.lemmas.List.FromFn.{length-map-range_with_len, get_or-map-range_with_len}
use Rattle.std.proofs.lemmas.Bool.{and_parts, ltb-true, cases_order}
use Rattle.std.proofs.lemmas.List.{get_or_append_left}
use Rattle.logic.specs.Formula.{Formula, falsum, implies, next, always}
use Rattle.formulas.specs.declared.entry.Entry.{Entry}
use Rattle.formulas.specs.declared.entry.Entry.TheVariants.{False, Atom, Implies, Next, Always}
use Rattle.lists.specs.Adding.{Distinct}
use Rattle.formulas.specs.Entries.{placed, Lower}
use Rattle.formulas.specs.Decode.{of_entry, read_to, formula_at, decoded}

-- an entry's formula rests on the formulas below it alone
pub of_entry_same : (f g : ℕ → Formula) (i : ℕ) (n : Entry) → placed i n ≡ true → ((a : ℕ) → a < i → f a ≡ g a) → of_entry f n ≡ of_entry g n
of_entry_same f g i False p h = refl
of_entry_same f g i (Atom a) p h = refl
of_entry_same f g i (Implies a b) p h =
    let q = and_parts (ltb a i) (ltb b i) p in
    let l = h a (ltb-true a i q.0) in
    let r = h b (ltb-true b i q.1) in
    λ t. implies (l t) (r t)
of_entry_same f g i (Next a) p h = ap next (h a (ltb-true a i p))
of_entry_same f g i (Always a) p h = ap always (h a (ltb-true a i p))

module _ (es : List Entry) (low : Lower es) where
  pub read_deep : (d e i : ℕ) → i < d → i < e → i < length es → read_to d es i ≡ read_to e es i
  unfolding read_to
  read_deep zero e i h k l = absurd (omega arith)
  read_deep (suc d) zero i h k l = absurd (omega arith)
  read_deep (suc d) (suc e) i h k l =
      of_entry_same (read_to d es) (read_to e es) i (get_or es i False) (low i l)
      (λ a m. read_deep d e a (omega arith) (omega arith) (omega arith))

  -- the formula of an entry, by those of its operands
  pub formula_at_is : (i : ℕ) → i < length es → formula_at es i ≡ of_entry (formula_at es) (get_or es i False)
  unfolding formula_at read_to
  formula_at_is i h =
      of_entry_same (read_to i es) (formula_at es) i (get_or es i False) (low i h)
      (λ a m. read_deep i (suc a) a m (omega arith) (omega arith))

  read_kept : (ms : List Entry) (d i : ℕ) → i < length es → read_to d (es ++ ms) i ≡ read_to d es i
  unfolding read_to
  read_kept ms zero i h = refl
  read_kept ms (suc d) i h =
      ap (of_entry (read_to d (es ++ ms))) (get_or_append_left es ms False i h)
      ∙ of_entry_same (read_to d (es ++ ms)) (read_to d es) i (get_or es i False) (low i h) (λ a m. read_kept ms d a (omega arith))

  -- more entries leave the formulas of those before
  pub formula_kept : (ms : List Entry) (i : ℕ) → i < length es → formula_at (es ++ ms) i ≡ formula_at es i
  unfolding formula_at
  formula_kept ms i h = read_kept ms (suc i) i h

-- two entries with one formula are one, if that holds of their operands
pub of_entry_injective : (at : ℕ → Formula) (i j : ℕ) (m n : Entry) → placed i m ≡ true → placed j n ≡ true → ((a b : ℕ) → a < i → b < j → at a ≡ at b → a ≡ b) → of_entry at m ≡ of_entry at n → m ≡ n
of_entry_injective at i j False False p q h e = refl
of_entry_injective at i j (Atom a) (Atom b) p q h e = let k : a ≡ b = cc in ap Atom k
of_entry_injective at i j (Implies a c) (Implies b d) p q h e =
    let s = and_parts (ltb a i) (ltb c i) p in
    let t = and_parts (ltb b j) (ltb d j) q in
    let u : at a ≡ at b = cc in
    let v : at c ≡ at d = cc in
    let k = h a b (ltb-true a i s.0) (ltb-true b j t.0) u in
    let l = h c d (ltb-true c i s.1) (ltb-true d j t.1) v in
    λ x. Implies (k x) (l x)
of_entry_injective at i j (Next a) (Next b) p q h e = let u : at a ≡ at b = cc in ap Next (h a b (ltb-true a i p) (ltb-true b j q) u)
of_entry_injective at i j (Always a) (Always b) p q h e = let u : at a ≡ at b = cc in ap Always (h a b (ltb-true a i p) (ltb-true b j q) u)
of_entry_injective at i j m n p q h e = cc

nth_same : (es : List Entry) (i j : ℕ) → i < length es → j < length es → get_or es i False ≡ get_or es j False → slice_get es i ≡ slice_get es j
nth_same es i j h l e = slice_get-get_or es i False h ∙ ap Some e ∙ sym (slice_get-get_or es j False l)

module _ (es : List Entry) (low : Lower es) (distinct : Distinct es) where
  same_below : (d i j : ℕ) → i < d → i < length es → j < length es → formula_at es i ≡ formula_at es j → i ≡ j
  same_below zero i j h k l e = absurd (omega arith)
  same_below (suc d) i j h k l e =
      let entries : get_or es i False ≡ get_or es j False =
      of_entry_injective (formula_at es) i j (get_or es i False) (get_or es j False) (low i k) (low j l)
      (λ a b m n u. same_below d a b (omega arith) (omega arith) (omega arith) u)
      (sym (formula_at_is es low i k) ∙ e ∙ formula_at_is es low j l) in
      elim (cases_order i j) [
        | inl s ↦ s
        | inr (inl s) ↦ absurd (distinct i j s l (nth_same es i j k l entries))
        | inr (inr s) ↦ absurd (distinct j i s k (nth_same es j i l k (sym entries)))
      ]

  -- entries with one formula are one
  pub formula_injective : (i j : ℕ) → i < length es → j < length es → formula_at es i ≡ formula_at es j → i ≡ j
  formula_injective i j h l e = same_below (suc i) i j (omega arith) h l e

-- the list of all formulas
pub decoded_length : (es : List Entry) → length (decoded es) ≡ length es
unfolding decoded
decoded_length es = length-map-range_with_len (formula_at es) 0 (length es)

pub decoded_at : (es : List Entry) (i : ℕ) → i < length es → get_or (decoded es) i falsum ≡ formula_at es i
unfolding decoded
decoded_at es i h = get_or-map-range_with_len (formula_at es) 0 (length es) i i falsum h (omega arith)

pub decoded_nth : (es : List Entry) (i : ℕ) → i < length es → slice_get (decoded es) i ≡ Some (formula_at es i)
decoded_nth es i h = slice_get-get_or (decoded es) i falsum (omega (arith, decoded_length es)) ∙ ap Some (decoded_at es i h)

-- A formula and the entry that is read for it.
use Rattle.std.proofs.Common.{◌≡◌, ℕ, ◌<◌, ◌≤◌, true, List, length, get_or, Some, None, Option, unwrap_or, sym, refl, ap, ◌∙◌, subst, ap₂, inl, inr, arith}
use lib.Dec
use Rattle.std.specs.List.{slice_get}
use Rattle.std.specs.Option.{option_map}
use Rattle.std.proofs.lemmas.Option.{slice_get-get_or, slice_get_past}
use Rattle.std.proofs.lemmas.Bool.{and_parts, ltb-true, cases_lt}
use Rattle.logic.specs.Formula.{Formula}
use Rattle.logic.specs.Same.{same}
use Rattle.formulas.specs.declared.entry.Entry.{Entry}
use Rattle.formulas.specs.declared.entry.Entry.TheVariants.{False, Atom, Implies, Next, Always}
use Rattle.lists.specs.Adding.{Distinct}
use Rattle.formulas.specs.Entries.{kind_of, left_of, right_of, placed, Lower}
use Rattle.formulas.specs.Decode.{of_entry, formula_at, decoded}
use Rattle.lists.proofs.Members.{some_same, some_not_none}
use Rattle.lists.proofs.Places.{first_like_only}
use Rattle.logic.proofs.Same.{same_tells}
use Rattle.formulas.proofs.Likeness.{entry_by_fields}
use Rattle.formulas.proofs.Decoded.{formula_at_is, decoded_nth, decoded_length}
use Rattle.formulas.proofs.Forming.{decoded_distinct}
use Rattle.model.specs.Case.{Case}
use Rattle.model.specs.Describes.{Number, Describes, false_kind, atom_kind, implies_kind, next_kind, always_kind}
use Rattle.model.specs.Reads.{number_in, as_entry, entry_in}
use Rattle.model.specs.Limits.{Limits}

-- the number of a formula that is in a list
number_is : (fs : List Formula) → Distinct fs → (n : ℕ) (A : Formula) → Number fs n A → number_in fs A ≡ n
number_is fs distinct n A is = ap (λ (o : Option ℕ). unwrap_or o 0) (first_like_only same same_tells fs A distinct n is)

-- ---- what the list of entries answers

module _ (es : List Entry) (low : Lower es) (distinct : Distinct es) where
  operand : (a : ℕ) → a < length es → number_in (decoded es) (formula_at es a) ≡ a
  operand a a_in = number_is (decoded es) (decoded_distinct es low distinct) a (formula_at es a) (decoded_nth es a a_in)

  entry_back : (n : ℕ) → n ≤ length es → (e : Entry) → placed n e ≡ true → as_entry (decoded es) (of_entry (formula_at es) e) ≡ e
  entry_back n n_in False p = refl
  entry_back n n_in (Atom a) p = refl
  entry_back n n_in (Implies a b) p =
      let q = and_parts (Dec.ltb a n) (Dec.ltb b n) p in
      ap₂ Implies (operand a (omega (arith, ltb-true a n q.0))) (operand b (omega (arith, ltb-true b n q.1)))
  entry_back n n_in (Next a) p = ap Next (operand a (omega (arith, ltb-true a n p)))
  entry_back n n_in (Always a) p = ap Always (operand a (omega (arith, ltb-true a n p)))

  pub entry_read : (n : ℕ) → slice_get es n ≡ option_map (as_entry (decoded es)) (slice_get (decoded es) n)
  entry_read n = elim (cases_lt n (length es)) [
    | inl n_in ↦
        slice_get-get_or es n False n_in
        ∙ ap Some (sym (ap (as_entry (decoded es)) (formula_at_is es low n n_in) ∙ entry_back n (omega arith) (get_or es n False) (low n n_in)))
        ∙ sym (ap (option_map (as_entry (decoded es))) (decoded_nth es n n_in))
    | inr past ↦ slice_get_past es n past ∙ sym (ap (option_map (as_entry (decoded es))) (slice_get_past (decoded es) n (omega (arith, decoded_length es))))
  ]

-- ---- what it means in the model

-- an entry has these three numbers
record Fields (e : Entry) (kind left right : ℕ) : Type 0 where
  kind_is : kind_of e ≡ kind
  left_is : left_of e ≡ left
  right_is : right_of e ≡ right

as_described : (fs : List Formula) → Distinct fs → {kind left right : ℕ} {A : Formula} → Describes fs kind left right A → Fields (as_entry fs A) kind left right
as_described fs distinct false_kind = record { kind_is = refl; left_is = refl; right_is = refl }
as_described fs distinct (atom_kind a small) = record { kind_is = refl; left_is = refl; right_is = refl }
as_described fs distinct (implies_kind l r A B left right) =
    record { kind_is = refl; left_is = number_is fs distinct l A left; right_is = number_is fs distinct r B right }
as_described fs distinct (next_kind l A left) = record { kind_is = refl; left_is = number_is fs distinct l A left; right_is = refl }
as_described fs distinct (always_kind l A left) = record { kind_is = refl; left_is = number_is fs distinct l A left; right_is = refl }

-- the entry that is read for a number describes the formula with that number
module _ (c : Case) (limits : Limits c) (n : ℕ) (e : Entry) where
  pub entry_describes : entry_in c n ≡ Some e → (A : Formula) × Number c.formulas n A × Describes c.formulas (kind_of e) (left_of e) (right_of e) A
  entry_describes is = by_formula (slice_get c.formulas n) refl is
    where
      by_formula : (o : Option Formula) → slice_get c.formulas n ≡ o → option_map (as_entry c.formulas) o ≡ Some e
          → (A : Formula) × Number c.formulas n A × Describes c.formulas (kind_of e) (left_of e) (right_of e) A
      by_formula None there found = absurd (some_not_none (sym found))
      by_formula (Some A) there found =
          let d = limits.formulas_closed n A there in
          let f = as_described c.formulas limits.formulas_distinct d.3 in
          let same_entry : as_entry c.formulas A ≡ e = some_same found in (
            A,
            there,
            subst (λ (x : Entry). Describes c.formulas (kind_of x) (left_of x) (right_of x) A) same_entry
                (rw (f.kind_is, f.left_is, f.right_is) d.3),
          )

  pub describes_entry : (A : Formula) → Number c.formulas n A → Describes c.formulas (kind_of e) (left_of e) (right_of e) A → entry_in c n ≡ Some e
  describes_entry A there described =
      ap (option_map (as_entry c.formulas)) there
      ∙ (let f = as_described c.formulas limits.formulas_distinct described in ap Some (entry_by_fields (as_entry c.formulas A) e f.kind_is f.left_is f.right_is))

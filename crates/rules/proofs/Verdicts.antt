-- What is said of a question, of formulas by their numbers.
use Rattle.std.proofs.Common.{◌≡◌, ℕ, true, cond, ◌&&◌, eqb, List, length, ltb, Some, None, is_none, Option, is_some, sym, refl, ap, ◌∙◌, inl, inr, arith}
use Rattle.std.specs.Map.{lookup}
use Rattle.std.specs.Option.{option_map, option_map_or}
use Rattle.std.proofs.lemmas.Bool.Decides.{nat_tests}
use Rattle.std.proofs.Math.Bool.{and-true}
use Rattle.std.proofs.lemmas.Bool.{cond_both, cond-true, cond-false, ne_eqb, eq-eqb, and_parts, ltb-true, cases_Bool}
use Rattle.logic.specs.Formula.{Formula}
use Rattle.formulas.specs.Forming.{numbered}
use Rattle.formulas.specs.Decode.{formula_at}
use Rattle.formulas.specs.declared.list.FormulaList.{FormulaList}
use Rattle.formulas.specs.Listed.{entries_of, formulas_of}
use Rattle.lists.proofs.Members.{some_same}
use Rattle.formulas.proofs.Decoded.{decoded_length, decoded_at}
use Rattle.calculus.specs.declared.verdict.Verdict.TheVariants.{NotAdmitted}
use Rattle.calculus.specs.declared.verdict.Verdict.{Verdict}
use Rattle.calculus.specs.Schemas.{RuleSchema, is_instance, admitted_if, by_schema}
use Rattle.calculus.specs.Pages.{Verdicts}
use Rattle.calculus.specs.Published.{taut_verdict, published_schemas, published}
use Rattle.calculus.specs.Derived.{derived_schemas, derived}
use Rattle.tautologies.specs.Verdicts.{taut_verdict_in}
use Rattle.rules.specs.declared.page.Question.{Question}
use Rattle.rules.specs.declared.letters.TheConstants.{LETTERS}
use Rattle.rules.specs.Questions.{all_entered, premise_entered, verdict_on}
use Rattle.rules.specs.Matching.{has_room, letters_in}
use Rattle.rules.specs.Rules.{instance_verdict, taut_on}
use Rattle.rules.proofs.ByNumbers.{instance_by_numbers}

module _ (l : FormulaList) where
  -- a premise that is entered has the formula of its entry
  premise_at : (p : Option ℕ) → premise_entered (formulas_of l) p ≡ true
      → (option_map_or (λ n. ltb n (length (entries_of l))) p true ≡ true) × (option_map (formula_at (entries_of l)) p ≡ option_map (numbered (formulas_of l)) p)
  premise_at None entered = (refl, refl)
  premise_at (Some n) entered =
      let there : ltb n (length (entries_of l)) ≡ true = ap (ltb n) (sym (decoded_length (entries_of l))) ∙ entered in
      (there, ap Some (sym (decoded_at (entries_of l) n (ltb-true n _ there))))

  pub instance_told : (h : RuleSchema) → has_room LETTERS h ≡ true → (q : Question)
      → cond (all_entered (formulas_of l) q) (admitted_if (is_some (letters_in LETTERS (entries_of l) h q.conclusion q.first q.second))) NotAdmitted ≡ instance_verdict h (formulas_of l) q
  instance_told h room q = elim (cases_Bool (all_entered (formulas_of l) q)) [
    | inl entered ↦
        let (conclusion_in, premises) = and_parts (premise_entered (formulas_of l) (Some q.conclusion)) _ entered in
        let (first_in, second_in) = and_parts (premise_entered (formulas_of l) q.first) (premise_entered (formulas_of l) q.second) premises in
        let conclusion = premise_at (Some q.conclusion) conclusion_in in
        let first = premise_at q.first first_in in
        let second = premise_at q.second second_in in
        ap (λ b. cond (all_entered (formulas_of l) q) (admitted_if b) NotAdmitted)
        (instance_by_numbers (entries_of l) l.lower l.distinct LETTERS h room q.conclusion q.first q.second (ltb-true _ _ conclusion.0) first.0 second.0
        ∙ (λ i. is_instance h (some_same conclusion.1 i) (first.1 i) (second.1 i)))
    | inr out ↦ rw out refl
  ]

module _ (fs : List Formula) (q : Question) where
  abbrev X : Formula
  X = numbered fs q.conclusion

  abbrev P : Option Formula
  P = option_map (numbered fs) q.first

  abbrev Q : Option Formula
  Q = option_map (numbered fs) q.second

  -- what is said of numbers that are in the list
  abbrev of_entered : Verdict → Verdict
  of_entered v = cond (all_entered fs q) v NotAdmitted

  -- what a rule's schema says, or what is said where there is none
  by_rule : (v : Verdict) (o : Option RuleSchema) → option_map_or (λ h. instance_verdict h fs q) o (of_entered v) ≡ of_entered (by_schema o v X P Q)
  by_rule v None = refl
  by_rule v (Some h) = refl

  pub derived_told : (below : Verdicts) (o : Option RuleSchema) → o ≡ lookup (eqb q.rule) derived_schemas
      → option_map_or (λ h. instance_verdict h fs q) o (verdict_on below fs q) ≡ verdict_on (derived below) fs q
  unfolding derived
  derived_told below o is = by_rule (below q.rule X P Q) o ∙ ap (λ o. of_entered (by_schema o (below q.rule X P Q) X P Q)) is

  pub derived_passed : (below : Verdicts) → None ≡ lookup (eqb q.rule) derived_schemas → verdict_on below fs q ≡ verdict_on (derived below) fs q
  derived_passed below is = derived_told below None is

  refused : of_entered NotAdmitted ≡ NotAdmitted
  refused = cond_both (all_entered fs q) NotAdmitted NotAdmitted (λ v. v ≡ NotAdmitted) (λ _. refl) (λ _. refl)

  pub published_told : (q.rule ≡ 1 → ⊥) → (o : Option RuleSchema) → o ≡ lookup (eqb q.rule) published_schemas
      → option_map_or (λ h. instance_verdict h fs q) o NotAdmitted ≡ verdict_on published fs q
  unfolding published
  published_told other o is =
      ap (option_map_or (λ h. instance_verdict h fs q) o) (sym refused) ∙ by_rule NotAdmitted o
      ∙ ap (λ o. of_entered (by_schema o NotAdmitted X P Q)) is ∙ ap of_entered (sym (cond-false (eqb q.rule 1) _ _ (ne_eqb q.rule 1 other)))

  -- a question without premises is entered where its conclusion is
  pub taut_told : q.rule ≡ 1 → taut_on fs q ≡ verdict_on published fs q
  unfolding published
  taut_told is = same_verdict q.first q.second ∙ ap of_entered (sym (cond-true (eqb q.rule 1) _ _ (eq-eqb q.rule 1 is)))
    where
      same_verdict : (p s : Option ℕ) → cond (is_none p && is_none s) (taut_verdict_in fs q.conclusion) NotAdmitted
          ≡ cond (premise_entered fs (Some q.conclusion) && (premise_entered fs p && premise_entered fs s)) (cond (is_none (option_map (numbered fs) p) && is_none (option_map (numbered fs) s)) (taut_verdict X) NotAdmitted) NotAdmitted
      same_verdict None None = ap (λ b. cond b (taut_verdict X) NotAdmitted) (sym (and-true (ltb q.conclusion (length fs))))
      same_verdict None (Some n) = grind (arith, nat_tests)
      same_verdict (Some n) None = grind (arith, nat_tests)
      same_verdict (Some n) (Some m) = grind (arith, nat_tests)

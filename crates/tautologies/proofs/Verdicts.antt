-- What is said of a formula, by its prime parts and by what it is under all choices.
use Rattle.std.proofs.Common.{◌≡◌, ℕ, ◌<◌, ◌≤◌, false, cond, leb, ltb, List, length, get_or, sym, ap, ◌∙◌, inl, inr, arith}
use Rattle.std.proofs.lemmas.Bool.{cases_Bool, cond-true, cond-false, lt-ltb, le-ltb, le-leb}
use Rattle.logic.specs.Formula.{Formula, falsum}
use Rattle.formulas.specs.declared.entry.Entry.{Entry}
use Rattle.formulas.specs.Decode.{formula_at, decoded}
use Rattle.formulas.proofs.Decoded.{decoded_length, decoded_at}
use Rattle.calculus.specs.declared.verdict.Verdict.TheVariants.{Admitted, NotAdmitted, BeyondLimit}
use Rattle.calculus.specs.Tautology.{Tautology}
use Rattle.calculus.specs.PrimeParts.{prime_parts, is_tautology}
use Rattle.calculus.specs.Published.{taut_verdict}
use Rattle.calculus.proofs.Exact.{taut_admitted, taut_limit}
use Rattle.calculus.proofs.Tautologies.{tautology}
use Rattle.tautologies.specs.Verdicts.{taut_verdict_in}

pub verdict_of_entry : (es : List Entry) (n : ℕ) → n < length es → taut_verdict (formula_at es n) ≡ taut_verdict_in (decoded es) n
verdict_of_entry es n h =
    sym (cond-true (ltb n (length (decoded es))) (taut_verdict (get_or (decoded es) n falsum)) NotAdmitted (lt-ltb n (length (decoded es)) (omega (arith, decoded_length es)))
    ∙ ap taut_verdict (decoded_at es n h))

pub no_entry : (es : List Entry) (n : ℕ) → length es ≤ n → NotAdmitted ≡ taut_verdict_in (decoded es) n
no_entry es n h = sym (cond-false (ltb n (length (decoded es))) (taut_verdict (get_or (decoded es) n falsum)) NotAdmitted (le-ltb n (length (decoded es)) (omega (arith, decoded_length es))))

module _ (A : Formula) where
  pub beyond_limit : 12 < length (prime_parts A) → BeyondLimit ≡ taut_verdict A
  beyond_limit many = sym ((taut_limit A).1 many)

  module _ (few : length (prime_parts A) ≤ 12) where
    within : taut_verdict A ≡ cond (is_tautology A) Admitted NotAdmitted
    within = cond-true (leb (length (prime_parts A)) 12) (cond (is_tautology A) Admitted NotAdmitted) BeyondLimit (le-leb (length (prime_parts A)) 12 few)

    pub admitted : Tautology A → Admitted ≡ taut_verdict A
    admitted holds = sym ((taut_admitted A).1 (holds, few))

    pub not_admitted : (Tautology A → ⊥) → NotAdmitted ≡ taut_verdict A
    not_admitted fails = sym (within ∙ cond-false (is_tautology A) Admitted NotAdmitted no)
      where
        no : is_tautology A ≡ false
        no = elim (cases_Bool (is_tautology A)) [ inl t ↦ absurd (fails ((tautology A).0 t)) | inr f ↦ f ]

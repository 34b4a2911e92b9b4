-- What the page that the program enters lines under admits, and which lines are held under it.
use Rattle.std.proofs.Common.{◌≡◌, ℕ, ◌<◌, ◌≤◌, ◌⊎◌, ◌↔◌, eqb, length, None, Ok, Option, sym, refl, ap, ◌∙◌, inl, inr, arith}
use Rattle.std.proofs.lemmas.Bool.{cases_lt, cond_both, eqb-true, eqb-false}
use Rattle.logic.specs.Formula.{Formula}
use Rattle.calculus.specs.declared.verdict.Verdict.{Verdict}
use Rattle.calculus.specs.declared.verdict.Verdict.TheVariants.{Admitted, BeyondLimit}
use Rattle.calculus.specs.PrimeParts.{prime_parts}
use Rattle.calculus.specs.Rules.{Gives, DerivedGives}
use Rattle.calculus.specs.Published.{published}
use Rattle.calculus.proofs.Exact.{published_exact, published_numbers, published_limit, derived_exact, derived_numbers}
use Rattle.model.specs.declared.line.Line.{Line}
use Rattle.model.specs.Case.{Case}
use Rattle.model.specs.Lines.{assumption_verdict, line_verdict}
use Rattle.model.specs.Outcomes.{Stated}
use Rattle.model.specs.Promises.{as_assumption, by_its_rule}
use Rattle.model.proofs.AssumptionLines.{assumption_admitted}
use Rattle.model.proofs.LineGoes.{line_allowed}
use Rattle.model.proofs.LineExactly.{page_verdict, assumption_line_admitted, stated_held, allowed_stated}
use Rattle.checker.specs.Promises.{PagePublishes, PageExact, PageLimit, ProgramGives, by_calculus, by_derived_rule, ProgramLineExactly}
use Rattle.checker.specs.Checked.{program_page}

-- a rule that is none of the derived ones is the published page's
others_published : (rule : ℕ) → (16 ≤ rule → rule ≤ 19 → ⊥) → program_page.verdict rule ≡ published rule
others_published rule other = λ i X P Q. (derived_exact published rule X P Q).1 other i

pub page_publishes : PagePublishes
page_publishes = (λ rule. (λ low high. others_published rule (λ from to. omega arith), λ from to. refl), others_published)

abbrev Given : ℕ → Formula → Option Formula → Option Formula → Type 0
Given rule X P Q = (Gives rule X P Q × (rule ≡ 1 → length (prime_parts X) ≤ 12)) ⊎ DerivedGives rule X P Q

module _ (rule : ℕ) (X : Formula) (P Q : Option Formula) where
  by_others : (16 ≤ rule → rule ≤ 19 → ⊥) → (program_page.verdict rule X P Q ≡ Admitted) ↔ Given rule X P Q
  by_others other =
      let as_published = (derived_exact published rule X P Q).1 other in (
        λ is. inl ((published_exact rule X P Q).0 (sym as_published ∙ is)),
        λ g. elim g [
          | inl basic ↦ as_published ∙ (published_exact rule X P Q).1 basic
          | inr derives ↦ absurd (let n = derived_numbers derives in other n.0 n.1)
        ],
      )

  by_derived : 16 ≤ rule → rule ≤ 19 → (program_page.verdict rule X P Q ≡ Admitted) ↔ Given rule X P Q
  by_derived low high =
      let exact = ((derived_exact published rule X P Q).0 low high).0 in (
        λ is. inr (exact.0 is),
        λ g. elim g [
          | inl basic ↦ absurd (let n = published_numbers basic.0 in omega (arith, n.0, n.1))
          | inr derives ↦ exact.1 derives
        ],
      )

module _ (rule : ℕ) (X : Formula) (P Q : Option Formula) where
  -- the page is beyond its limit just there
  abbrev IsLimit : Type 0
  IsLimit = (program_page.verdict rule X P Q ≡ BeyondLimit) ↔ ((rule ≡ 1) × (P ≡ None) × (Q ≡ None) × (12 < length (prime_parts X)))

  limit_of_others : (16 ≤ rule → rule ≤ 19 → ⊥) → IsLimit
  limit_of_others other =
      let as_published = (derived_exact published rule X P Q).1 other in
      let limit = published_limit rule X P Q in
      (λ is. limit.0 (sym as_published ∙ is), λ many. as_published ∙ limit.1 many)

  limit_of_derived : 16 ≤ rule → rule ≤ 19 → IsLimit
  limit_of_derived low high = (λ is. absurd (((derived_exact published rule X P Q).0 low high).1 is), λ many. absurd (omega (arith, low, many.0)))

pub page_limit : PageLimit
page_limit rule X P Q = elim (cases_lt rule 16) [
  | inl low ↦ limit_of_others rule X P Q (λ from to. omega arith)
  | inr from ↦ elim (cases_lt 19 rule) [
    | inl high ↦ limit_of_others rule X P Q (λ _ to. omega arith)
    | inr to ↦ limit_of_derived rule X P Q from to
  ]
]

pub page_exact : PageExact
page_exact rule X P Q = elim (cases_lt rule 16) [
  | inl low ↦ by_others rule X P Q (λ from to. omega arith)
  | inr from ↦ elim (cases_lt 19 rule) [
    | inl high ↦ by_others rule X P Q (λ _ to. omega arith)
    | inr to ↦ by_derived rule X P Q from to
  ]
]

module _ (c : Case) (l : Line) where
  -- a stated line that is admitted under the page is given
  admitted_given : Stated c l → line_verdict c program_page l ≡ Admitted → ProgramGives c l
  admitted_given s admitted =
      cond_both (eqb l.rule 0) (assumption_verdict c l) _ (λ (v : Verdict). v ≡ Admitted → ProgramGives c l)
      (λ zero is. by_calculus (as_assumption s (assumption_admitted c l (eqb-true l.rule 0 zero) is)))
      (λ other _.
      let verdict = page_verdict c program_page l s (eqb-false l.rule 0 other) in
      elim ((page_exact l.rule s.formula s.first s.second).0 (sym verdict ∙ admitted)) [
        | inl basic ↦ by_calculus (by_its_rule s basic.0 basic.1)
        | inr derives ↦ by_derived_rule s derives
      ])
      admitted

  given_stated : ProgramGives c l → Stated c l
  given_stated (by_calculus (as_assumption s a)) = s
  given_stated (by_calculus (by_its_rule s gives few)) = s
  given_stated (by_derived_rule s derives) = s

  -- and a given line is admitted
  given_admitted : ProgramGives c l → line_verdict c program_page l ≡ Admitted
  given_admitted (by_calculus (as_assumption s a)) = assumption_line_admitted c program_page l a
  given_admitted (by_calculus (by_its_rule s gives few)) =
      let number = published_numbers gives in
      page_verdict c program_page l s (λ zero. omega (arith, number.0)) ∙ (page_exact l.rule s.formula s.first s.second).1 (inl (gives, few))
  given_admitted (by_derived_rule s derives) =
      let number = derived_numbers derives in
      page_verdict c program_page l s (λ zero. omega (arith, number.0)) ∙ (page_exact l.rule s.formula s.first s.second).1 (inr derives)

pub program_line_exactly : ProgramLineExactly
program_line_exactly c entered l n = (
  λ is.
      let p = line_allowed c program_page l n is in
      (p.0, p.1.room, admitted_given c l (allowed_stated c program_page l entered p.1) p.1.admitted),
  λ p. ap (λ o. o.answer) (stated_held c program_page l (given_stated c l p.2) p.1 (given_admitted c l p.2)) ∙ ap Ok (sym p.0),
)

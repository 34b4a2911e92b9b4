-- The formula is judged by its prime parts, which are gathered or too many.
use Rattle.std.proofs.Common.{◌≡◌, ℕ, ◌≤◌, false, List, [], replicate, length, sym, ◌∙◌, subst, arith, rules}
use Rattle.std.proofs.lemmas.Bool.{both_ways}
use Rattle.formulas.specs.declared.entry.Entry.{Entry}
use Rattle.formulas.specs.Decode.{formula_at, decoded}
use Rattle.calculus.specs.declared.verdict.Verdict.{Verdict}
use Rattle.calculus.specs.PrimeParts.{prime_parts}
use Rattle.tautologies.specs.Gathering.{Entered, Going}
use Rattle.tautologies.specs.Verdicts.{taut_verdict_in}
use Rattle.tautologies.proofs.Marks.{started, ended, few}
use Rattle.tautologies.proofs.Verdicts.{verdict_of_entry, no_entry, beyond_limit, admitted, not_admitted}
use Rattle.tautologies.proofs.taut_verdict.Goals as goal
use Rattle.tautologies.proofs.taut_verdict.Goals.{After-as_slice}

-- the verdict on the entries that were lent is that on the list's
of_list : {es fs : List Entry} (n : ℕ) {v : Verdict} → es ≡ fs → v ≡ taut_verdict_in (decoded es) n → v ≡ taut_verdict_in (decoded fs) n
of_list n {v} same is = subst (λ (xs : List Entry). v ≡ taut_verdict_in (decoded xs) n) same is

-- at first nothing is marked
begun : (es : List Entry) → Entered es → (n : ℕ) (parts : List ℕ) → parts ≡ [] → Going es n (λ _. false) (replicate 1024 false) parts
begun es entered n parts empty = subst (λ (ps : List ℕ). Going es n (λ _. false) (replicate 1024 false) ps) (sym empty) (started es entered n)

pub returns-then-from-entries : goal.returns-then-from-entries
returns-then-from-entries c = of_list c.args.number c.entries-entries.ensures (no_entry c.entries-entries.result.now c.args.number (omega arith))

-- what is known where the entry was met
module _ (c : After-as_slice) where
  gone : Going c.entries-entries.result.now c.args.number (λ _. false) c.meet.new.seen c.as_slice.result.now
  gone = subst (λ (ps : List ℕ). Going c.entries-entries.result.now c.args.number (λ _. false) c.meet.new.seen ps) (sym c.as_slice.ensures.items)
      (c.in-Ok.ensures.on c.args.number (λ _. false) (begun c.entries-entries.result.now (search rules) c.args.number c.new-parts.result c.new-parts.ensures) (λ P p. p) (λ P p. p))

  -- few parts are few prime parts
  few_parts : length (prime_parts (formula_at c.entries-entries.result.now c.args.number)) ≤ 12
  few_parts = omega (arith, few c.entries-entries.result.now (search rules) c.args.number c.meet.new.seen c.as_slice.result.now gone c.in-Ok.ensures.first, c.as_slice.ensures.within)

pub true_everywhere-requires-clause-gathered : goal.true_everywhere-requires-clause-gathered
true_everywhere-requires-clause-gathered c = ended c.entries-entries.result.now (search rules) c.args.number c.meet.new.seen c.as_slice.result.now (gone c) c.in-Ok.ensures.first

pub true_everywhere-requires-clause-marked : goal.true_everywhere-requires-clause-marked
true_everywhere-requires-clause-marked c = c.in-Ok.ensures.first

pub returns-then-true_everywhere : goal.returns-then-true_everywhere
returns-then-true_everywhere c =
    let es = c.entries-entries.result.now in
    let A = formula_at es c.args.number in
    of_list c.args.number c.entries-entries.ensures
    (admitted A (few_parts (goal.at.returns-then-true_everywhere c).After-as_slice) (c.true_everywhere.ensures.0 c.if-true_everywhere.true)
    ∙ verdict_of_entry es c.args.number (omega arith))

pub returns-else-true_everywhere : goal.returns-else-true_everywhere
returns-else-true_everywhere c =
    let es = c.entries-entries.result.now in
    let A = formula_at es c.args.number in
    of_list c.args.number c.entries-entries.ensures
    (not_admitted A (few_parts (goal.at.returns-else-true_everywhere c).After-as_slice) (λ holds. both_ways c.true_everywhere.result c.if-true_everywhere.false (c.true_everywhere.ensures.1 holds))
    ∙ verdict_of_entry es c.args.number (omega arith))

pub returns-in-Err : goal.returns-in-Err
returns-in-Err c =
    let es = c.entries-entries.result.now in
    let many = c.in-Err.ensures c.args.number (λ _. false) (begun es (search rules) c.args.number c.new-parts.result c.new-parts.ensures) (λ P p. p) (λ P p. p) in
    of_list c.args.number c.entries-entries.ensures (beyond_limit (formula_at es c.args.number) many ∙ verdict_of_entry es c.args.number (omega arith))

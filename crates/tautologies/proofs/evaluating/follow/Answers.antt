-- One row more at each turn, of rows that stand before it.
use Rattle.std.proofs.Common.{◌≡◌, ℕ, ◌+◌, ◌-◌, ◌*◌, ◌^◌, ◌<◌, ◌≤◌, List, length, get_or, set, sym, ap, ap₂, ◌∙◌, subst, inl, inr, arith, length-set}
use Rattle.std.specs.Prelude.{bit_or}
use Rattle.std.specs.List.{slice_get}
use Rattle.std.proofs.Math.Nat.{mul-le-mul}
use Rattle.std.proofs.lemmas.Bool.{cases_eq}
use Rattle.std.proofs.lemmas.Option.{slice_get-get_or}
use Rattle.lists.proofs.Members.{some_same, nth_within}
use Rattle.tautologies.specs.declared.step.Step.{Step}
use Rattle.tautologies.specs.Planning.{LowerSteps, word_at}
use Rattle.tautologies.proofs.Filling.{word_same, word_other}
use Rattle.tautologies.proofs.evaluating.follow.Goals as goal

-- the step at a place
abbrev step_at : List Step → ℕ → Step
step_at steps n = get_or steps n (record { left = 0; right = 0 })

operands : (steps : List Step) (n : ℕ) → LowerSteps steps → n < length steps → ((step_at steps n).left < 13 + n) × ((step_at steps n).right < 13 + n)
operands steps n lower h = lower n (step_at steps n) (slice_get-get_or steps n (record { left = 0; right = 0 }) h)

pub bounds-rows-from : goal.bounds-rows-from
bounds-rows-from g c = omega (arith, c.from.ensures, operands c.args.steps.now c.loop-number.number c.requires.lower c.loop-number-test.true, c.requires.room, c.loop-number-test.true)

pub bounds-rows-from-in-loop-number : goal.bounds-rows-from-in-loop-number
bounds-rows-from-in-loop-number g c =
    omega (arith, c.from-in-loop-number.ensures, operands c.args.steps.now c.loop-number.number c.requires.lower c.loop-number-test.true, c.requires.room, c.loop-number-test.true)

-- where another row is written, a word made of two others is as before
module _ (rows : List (List ℕ)) (p : ℕ) (row : List ℕ) (a b w : ℕ) (a-before : a < p) (b-before : b < p) where
  still : bit_or (word_at rows b w) (2 ^ 64 - 1 - word_at rows a w) ≡ bit_or (word_at (set rows p row) b w) (2 ^ 64 - 1 - word_at (set rows p row) a w)
  still = ap₂ (λ x y. bit_or x (2 ^ 64 - 1 - y)) (sym (word_other rows p b w row (λ e. omega arith))) (sym (word_other rows p a w row (λ e. omega arith)))

pub loop-number-preserved : goal.loop-number-preserved
loop-number-preserved g c =
    let steps = c.args.steps.now in
    let rows = c.loop-number.rows in
    let n : ℕ = c.loop-number.number in
    let p : ℕ = 13 + n in
    let row = c.implied-row.result in
    let room : p < length rows = omega (arith, c.loop-number.invariant.long, c.requires.room, c.loop-number-test.true) in
    let own : Step = step_at steps n in
    let low = operands steps n c.requires.lower c.loop-number-test.true in
    record {
      long = length-set rows p row ∙ c.loop-number.invariant.long;
      made = λ j s before is w h. elim (cases_eq j n) [
        | inl e ↦
            let same : own ≡ s = some_same (sym (slice_get-get_or steps n (record { left = 0; right = 0 }) c.loop-number-test.true) ∙ ap (slice_get steps) (sym e) ∙ is) in
            let here : word_at (set rows p row) p w ≡ bit_or (word_at (set rows p row) own.right w) (2 ^ 64 - 1 - word_at (set rows p row) own.left w) =
            word_same rows p w row room ∙ c.implied-row.ensures w h
            ∙ ap₂ (λ a b. bit_or (word_at rows b w) (2 ^ 64 - 1 - word_at rows a w)) c.from.ensures c.from-in-loop-number.ensures
            ∙ still rows p row own.left own.right w low.0 low.1 in
            subst (λ (m : ℕ). word_at (set rows p row) (13 + m) w ≡ bit_or (word_at (set rows p row) s.right w) (2 ^ 64 - 1 - word_at (set rows p row) s.left w)) (sym e)
            (subst (λ (t : Step). word_at (set rows p row) p w ≡ bit_or (word_at (set rows p row) t.right w) (2 ^ 64 - 1 - word_at (set rows p row) t.left w)) same here)
        | inr ne ↦
            let its = c.requires.lower j s is in
            word_other rows p (13 + j) w row (λ e. ne (omega arith))
            ∙ c.loop-number.invariant.made j s (omega (arith, ne)) is w h
            ∙ still rows p row s.left s.right w (omega (arith, its, before)) (omega (arith, its, before))
      ];
      others = λ q w before. word_other rows p q w row (λ e. omega arith) ∙ c.loop-number.invariant.others q w before;
    }

-- a row's offset is small
small : (x words rows : ℕ) → x < rows → rows ≤ 2048 → words ≤ 16 → x * (words * 8) ≤ 2048 * 128
small x words rows h r w = mul-le-mul {n₁ = x} {m₁ = words * 8} {n₂ = 2048} {m₂ = 128} (omega arith) (omega arith)

pub offset_bounds-rows-from : goal.offset_bounds-rows-from
offset_bounds-rows-from g c = omega (arith, small c.from.result 16 g.row.ROWS (bounds-rows-from g c) c.requires.few)

pub offset_bounds-rows-from-in-loop-number : goal.offset_bounds-rows-from-in-loop-number
offset_bounds-rows-from-in-loop-number g c = omega (arith, small c.from-in-loop-number.result 16 g.row.ROWS (bounds-rows-from-in-loop-number g c) c.requires.few)

pub returns-clause-made : goal.returns-clause-made
returns-clause-made g c = λ j s is. c.loop-number.invariant.made j s (omega (arith, nth_within c.args.steps.now j is, c.loop-number-test.false)) is

-- `copy_standings` has room for each line: the buffer's length is that of all lines.
use Rattle.std.proofs.Common.{◌+◌, List, take, Some, None, Option, MatchOption, refl, length-append, ◌≡◌, ◌<◌, ℕ, ◌++◌, length, sym, ap, ap₂, ◌∙◌, arith}
use Rattle.cases.specs.Model.{sealed}
use Rattle.std.proofs.lemmas.List.{append-nil}
use Rattle.model.specs.Reads.{standing_in}
use Rattle.listing.specs.Listing.{line_of_standing, standing_lines_to}
use Rattle.listing.proofs.Growing.{lines_within, lines_more, line_told}
use Rattle.listing.proofs.standings.copy_standings.Goals as goal
use Rattle.listing.proofs.standings.copy_standings.Goals.{in-Some, in_default}

-- where no line is made, what holds without one
no_line : {X A : Type 0} (B : X → Type 0) (o : Option X) → MatchOption o A B → ((x : X) → o ≡ Some x → ⊥) → A
no_line B None none not = none
no_line B (Some x) some not = absurd (not x refl)

pub copy_at-at-requires : goal.copy_at-at-requires
copy_at-at-requires c =
    let m = sealed c.args.case.now in
    let n : ℕ = c.loop-number.number in
    let there : n < length m.formulas = omega (arith, c.loop-number-test.true, ap (λ x. x.formulas) c.counts-number-end.ensures.value) in
    let within = lines_within m n (length m.formulas) there in
    let told = line_told m c.args.standings.now c.told-standings c.requires.so n c.from.result _ c.from.ensures there (omega (arith, c.loop-number-test.true, c.counts-number-end.ensures.few_formulas)) in
    let same = ap length (c.as_slice.ensures.text ∙ c.in-Some.ensures ∙ told) in
    omega (arith, same, within, c.loop-number.invariant.end, c.loop-number.invariant.size, c.requires.long)

pub loop-number-preserved : goal.loop-number-preserved
loop-number-preserved c =
    let m = sealed c.args.case.now in
    let n : ℕ = c.loop-number.number in
    let so = c.loop-number.invariant in
    let there : n < length m.formulas = omega (arith, c.loop-number-test.true, ap (λ x. x.formulas) c.counts-number-end.ensures.value) in
    let told = line_told m c.args.standings.now c.told-standings c.requires.so n c.from.result _ c.from.ensures there (omega (arith, c.loop-number-test.true, c.counts-number-end.ensures.few_formulas)) in
    elim c.match-standing_line.branch [
      | in-Some w ↦
          let line = w.as_slice.ensures.text ∙ w.in-Some.ensures ∙ told in
          let copied = w.copy_at-at.ensures.copied ∙ ap₂ (λ x y. x ++ y) so.copied line ∙ sym (lines_more m n) in
          record {
            size = ap length w.buffer-is ∙ w.copy_at-at.ensures.size ∙ so.size;
            end = w.at-is ∙ w.copy_at-at.ensures.end ∙ ap₂ (λ x y. x + y) so.end (ap length line) ∙ sym (length-append (standing_lines_to m n) (line_of_standing n (standing_in m n))) ∙ ap length (sym (lines_more m n));
            copied = (λ i. take (w.at-is i) (w.buffer-is i)) ∙ copied;
          }
      | in_default w ↦
          let none = no_line _ c.standing_line.result c.standing_line.ensures w.in_default.not-Some in
          let same : standing_lines_to m n ≡ standing_lines_to m (n + 1) =
          sym (append-nil (standing_lines_to m n)) ∙ ap (λ (l : List ℕ). standing_lines_to m n ++ l) (sym none ∙ told) ∙ sym (lines_more m n) in
          record {
            size = ap length w.buffer-is ∙ so.size;
            end = w.at-is ∙ so.end ∙ ap length same;
            copied = (λ i. take (w.at-is i) (w.buffer-is i)) ∙ so.copied ∙ same;
          }
    ]

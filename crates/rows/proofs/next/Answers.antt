-- One position on, and at the loop's end at its first.
use Rattle.std.proofs.Common.{ℕ, ◌+◌, ◌-◌, ◌&&◌, ◌||◌, eqb, sym, ap, ◌∙◌, arith}
use Rattle.std.proofs.Math.Bool.{or-false}
use Rattle.rows.specs.Row.{bit}
use Rattle.rows.proofs.Rows.{said, row_of_same}
use Rattle.rows.proofs.Steps.{next_row}
use Rattle.rows.proofs.next.Goals as goal

pub returns-then-bit_at : goal.returns-then-bit_at
returns-then-bit_at c =
    let l = c.args.lasso in
    let last : ℕ = l.stem + l.loop_length - 1 in
    next_row c.args.a l.inner c.earlier.result c.and-row.result c.or.result l.stem (l.stem + l.loop_length)
    (omega (arith, l.turns)) (omega (arith, l.fits)) l.before c.earlier.ensures c.and-row.ensures
    (c.or.ensures ∙ row_of_same _ _
    (λ i h. ap (λ b. bit c.and-row.result i || b) (said l.last (λ i. eqb i last) l.end i h ∙ ap (λ b. b && eqb i last) (sym (sym c.bit_at.ensures ∙ c.if-bit_at.true)))))

pub returns-else-bit_at : goal.returns-else-bit_at
returns-else-bit_at c =
    let l = c.args.lasso in
    let last : ℕ = l.stem + l.loop_length - 1 in
    let row = c.and-row.result in
    next_row c.args.a l.inner c.earlier.result row row l.stem (l.stem + l.loop_length)
    (omega (arith, l.turns)) (omega (arith, l.fits)) l.before c.earlier.ensures c.and-row.ensures
    (c.and-row.ensures ∙ row_of_same _ _
    (λ i h. sym (said row (λ i. bit l.inner i && bit c.earlier.result i) c.and-row.ensures i h)
    ∙ sym (or-false (bit row i)) ∙ ap (λ b. bit row i || (b && eqb i last)) (sym (sym c.bit_at.ensures ∙ c.if-bit_at.false))))

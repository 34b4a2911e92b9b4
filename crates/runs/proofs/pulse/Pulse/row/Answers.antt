-- Twice as much is filled at each turn, until the row is.
use Rattle.std.proofs.Common.{◌≡◌, ℕ, sym, ap, ap₂, ◌∙◌, ◌-◌, ◌*◌, ◌&&◌, ◌||◌, leb, ltb, arith}
use Rattle.rows.specs.Row.{bit}
use Rattle.rows.proofs.Rows.{said, row_of_same}
use Rattle.runs.proofs.Doubling.{widths, one_period, doubled, filled_up}
use Rattle.runs.proofs.pulse.Pulse.row.Goals as goal

pub loop-filled-init : goal.loop-filled-init
loop-filled-init c =
    let p = c.args.self.period in
    let w = c.args.self.width in
    let is : c.from-filled.result ≡ p = c.from-filled.ensures in (
      omega (arith, is, c.requires),
      (1, omega (arith, is)),
      c.and-widths.ensures ∙ row_of_same _ _
          (λ i h. ap₂ (λ x y. x && y) (said c.mask.result (λ i. ltb i c.from-filled.result) c.mask.ensures i h) (said c.mask-2.result (λ i. ltb i c.from.result) c.mask-2.ensures i h)
          ∙ ap₂ (λ m n. ltb i m && ltb i n) is c.from.ensures
          ∙ one_period p w i
          ∙ ap (λ n. widths p w n i) (sym is)),
    )

pub loop-filled-preserved : goal.loop-filled-preserved
loop-filled-preserved c =
    let (some, (m, is), row) = c.loop-filled.invariant in
    let p = c.args.self.period in
    let w = c.args.self.width in
    let n : ℕ = c.loop-filled.filled in (
      omega (arith, some),
      (m * 2, grind (arith, is)),
      c.or-more.ensures ∙ row_of_same _ _
          (λ i h. ap₂ (λ x y. x || y) (said c.loop-filled.widths (widths p w n) row i h)
          (said c.later.result (λ i. leb n i && bit c.loop-filled.widths (i - n)) c.later.ensures i h
          ∙ ap (λ b. leb n i && b) (said c.loop-filled.widths (widths p w n) row (i - n) (omega (arith, h))))
          ∙ doubled p w m n i is),
    )

pub returns : goal.returns
returns c =
    let (some, whole, row) = c.loop-filled.invariant in
    let e = c.args.self in
    let n : ℕ = c.loop-filled.filled in
    c.later-2.ensures ∙ row_of_same _ _
    (λ i h. ap (λ k. leb k i && bit c.loop-filled.widths (i - k)) c.from-2.ensures
    ∙ ap (λ b. leb e.first i && b)
    (said c.loop-filled.widths (widths e.period e.width n) row (i - e.first) (omega (arith, h))
    ∙ filled_up e.period e.width n (i - e.first) (omega (arith, h, c.loop-filled-test.false))))

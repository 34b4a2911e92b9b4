-- Nowhere if `a` fails in the loop, else after the last place of the stem where it fails.
use Rattle.std.proofs.Common.{ℕ, ◌+◌, arith}
use Rattle.rows.proofs.Rows.{empty_row}
use Rattle.rows.proofs.Steps.{always_none, always_some}
use Rattle.rows.proofs.always.Goals as goal

pub returns-then-fails-lasso : goal.returns-then-fails-lasso
returns-then-fails-lasso c =
    let l = c.args.lasso in
    let n : ℕ = l.stem + l.loop_length in
    empty_row _
    (λ i _. always_none c.args.a l.all c.minus.result l.stem n c.end-fails.result
    (omega (arith, l.turns)) (omega (arith, l.fits)) l.whole
    c.minus.ensures c.end-fails.ensures (omega arith) i)

pub returns-else-fails-lasso : goal.returns-else-fails-lasso
returns-else-fails-lasso c =
    let l = c.args.lasso in
    let n : ℕ = l.stem + l.loop_length in
    always_some c.args.a l.all c.minus.result l.stem n c.end-fails.result
    (omega (arith, l.turns)) (omega (arith, l.fits)) l.whole
    c.minus.ensures c.end-fails.ensures c.mask.result
    c.minus-else-fails-lasso.result (omega arith) c.mask.ensures c.minus-else-fails-lasso.ensures

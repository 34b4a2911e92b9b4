-- The row grows by one position at a time.
use Rattle.std.proofs.Common.{Less, ◌≡◌, ℕ, min, cond, ◌<◌, ◌≤◌, sym, ap, ⊎_elim, ◌∙◌, arith}
use Rattle.std.proofs.lemmas.Bool.{cases_lt, cond_both}
use Rattle.std.specs.Ordering.{nat_cmp, ord_min, is_lt}
use Rattle.std.specs.Cmp.{nat_cmp_is}
use Rattle.std.proofs.lemmas.Bool.Decides.{nat_tests}
use Rattle.rows.proofs.Rows.{empty_row}
use Rattle.runs.proofs.Growing.{none_yet, one_more, far_enough}
use Rattle.runs.proofs.looped.Positions.row.Goals as goal

-- the least of two numbers, as code asks for it
least : (a b : ℕ) → ord_min nat_cmp a b ≡ min a b
least a b =
    ⊎_elim (λ (l : b < a). ap (λ o. cond (is_lt o) b a) (sym (nat_cmp_is b a Less l)) ∙ omega arith)
    (λ (l : a ≤ b). cond_both (is_lt (nat_cmp b a)) b a (λ n. n ≡ min a b) (λ h. grind (arith, nat_tests)) (λ h. omega arith))
    (cases_lt b a)

pub loop-position-init : goal.loop-position-init
loop-position-init g c = empty_row _ (none_yet (g.Self.Positions.truths c.args.self.now c.args.atom))

pub loop-position-preserved : goal.loop-position-preserved
loop-position-preserved g c =
    one_more (g.Self.Positions.truths c.args.self.now c.args.atom) c.loop-position.position c.loop-position.row _ c.is_true.result c.loop-position.invariant c.is_true.ensures c.put-more.ensures

pub returns : goal.returns
returns g c =
    let n : ℕ = c.loop-position.position in
    let is : n ≡ min c.args.end 256 = omega (arith, least c.args.end 256, c.min-position-end.ensures, c.loop-position-test.false, c.loop-position.auto.position-end) in
    far_enough (g.Self.Positions.truths c.args.self.now c.args.atom) n c.args.end c.loop-position.row c.loop-position.invariant (λ j h. grind (arith, nat_tests, is))

-- Ten parts have 1,024 choices, and each further part twice as many.
use Rattle.std.proofs.Common.{◌≡◌, ℕ, ◌+◌, ◌-◌, ◌^◌, ◌≤◌, ap, arith, pow-add, pow_mono}
use Rattle.std.proofs.lemmas.Nat.{one_shl}
use Rattle.tautologies.proofs.evaluating.passes.Goals as goal

pub returns-then-parts-le-PASS_PARTS-clause-all : goal.returns-then-parts-le-PASS_PARTS-clause-all
returns-then-parts-le-PASS_PARTS-clause-all c =
    let h : 2 ^ c.args.parts ≤ 2 ^ 10 = pow_mono c.if-parts-le-PASS_PARTS.true in
    omega arith

pub returns-else-parts-le-PASS_PARTS-clause-few : goal.returns-else-parts-le-PASS_PARTS-clause-few
returns-else-parts-le-PASS_PARTS-clause-few c =
    let le : c.args.parts - 10 ≤ 2 = omega arith in
    let h : 2 ^ (c.args.parts - 10) ≤ 2 ^ 2 = pow_mono le in
    omega (arith, one_shl (c.args.parts - 10) 64 (omega arith))

pub returns-else-parts-le-PASS_PARTS-clause-all : goal.returns-else-parts-le-PASS_PARTS-clause-all
returns-else-parts-le-PASS_PARTS-clause-all c =
    let e : c.args.parts ≡ 10 + (c.args.parts - 10) = omega arith in
    omega (arith, one_shl (c.args.parts - 10) 64 (omega arith), ap (λ (n : ℕ). 2 ^ n) e, pow-add 2 10 (c.args.parts - 10))

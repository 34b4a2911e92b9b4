-- From the last to the first, so that the first stays.
use Rattle.std.proofs.Common.{refl, arith}
use Rattle.cases.specs.Model.{sealed}
use Rattle.model.specs.Reads.{standing_by, first_refutation_of}
use Rattle.listing.proofs.ByFirst.{one_more, at_start}
use Rattle.listing.proofs.standings.standings.Goals as goal

pub loop-number-preserved : goal.loop-number-preserved
loop-number-preserved c =
    one_more (λ x. x.formula) c.lines-lines.result.now (λ f first. standing_by first (first_refutation_of (sealed c.args.case.now) f)) c.loop-number.number _ c.loop-number.standings c.put.new.standings _
    (omega arith) (omega arith) refl c.put.ensures c.loop-number.invariant

pub returns : goal.returns
returns c = at_start (λ x. x.formula) c.lines-lines.result.now (λ f first. standing_by first (first_refutation_of (sealed c.args.case.now) f)) _ c.loop-number.number c.loop-number.standings (omega arith) c.lines-lines.ensures.held c.loop-number.invariant

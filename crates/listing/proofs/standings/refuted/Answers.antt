-- From the last to the first, so that the first stays.
use Rattle.std.proofs.Common.{None, refl, sym, ap, ◌∙◌, arith}
use Rattle.std.proofs.lemmas.List.{get_or-replicate}
use Rattle.model.specs.declared.standing.Standing.TheVariants.{Open}
use Rattle.model.specs.Reads.{standing_by}
use Rattle.listing.proofs.ByFirst.{none_behind, one_more, at_start}
use Rattle.listing.proofs.standings.refuted.Goals as goal

pub loop-number-init : goal.loop-number-init
loop-number-init c = (refl, λ f h. get_or-replicate 1024 f Open Open h ∙ ap (standing_by None) (sym (none_behind (λ x. x.formula) c.refutations-refutations.result.now (λ f first. standing_by None first) _ f (omega arith))))

pub loop-number-preserved : goal.loop-number-preserved
loop-number-preserved c =
    one_more (λ x. x.formula) c.refutations-refutations.result.now (λ f first. standing_by None first) c.loop-number.number _ c.loop-number.standings c.put.new.standings _
    (omega arith) (omega arith) refl c.put.ensures c.loop-number.invariant

pub returns : goal.returns
returns c = at_start (λ x. x.formula) c.refutations-refutations.result.now (λ f first. standing_by None first) _ c.loop-number.number c.loop-number.standings (omega arith) c.refutations-refutations.ensures.held c.loop-number.invariant

-- From the loop's number on, the first refutation of each formula is told.
use Rattle.model.specs.Reads.{standing_by}
use Rattle.std.proofs.Common.{None}
use Rattle.listing.proofs.ByFirst.{ByFirstFrom}
use Rattle.listing.proofs.standings.refuted.Given as goal

abbrev pub invariant-loop-number : goal.invariant-loop-number
invariant-loop-number l = ByFirstFrom (λ x. x.formula) l.refutations (λ f first. standing_by None first) l.number l.standings

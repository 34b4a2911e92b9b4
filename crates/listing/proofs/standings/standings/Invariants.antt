-- From the loop's number on, the first line of each formula is told, and else its first refutation.
use Rattle.cases.specs.Model.{sealed}
use Rattle.model.specs.Reads.{standing_by, first_refutation_of}
use Rattle.listing.proofs.ByFirst.{ByFirstFrom}
use Rattle.listing.proofs.standings.standings.Given as goal

abbrev pub invariant-loop-number : goal.invariant-loop-number
invariant-loop-number l = ByFirstFrom (λ x. x.formula) l.lines (λ f first. standing_by first (first_refutation_of (sealed l.case) f)) l.number l.standings

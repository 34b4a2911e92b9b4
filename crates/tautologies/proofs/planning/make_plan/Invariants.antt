-- The plan has the steps of the marked implications that the loop has passed.
use Rattle.tautologies.specs.Planning.{PlannedBelow}
use Rattle.tautologies.proofs.planning.make_plan.Given as goal

abbrev pub invariant-loop-number : goal.invariant-loop-number
invariant-loop-number l = PlannedBelow l.entries l.seen l.parts l.number l.plan.steps l.plan.places

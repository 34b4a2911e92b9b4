-- Numbers fall from an implication to its operands.
use Rattle.std.proofs.Common.{◌+◌, ◌*◌, max}
use Rattle.tautologies.proofs.gathering.+gather.Given as goal

abbrev pub decreases-meet : goal.decreases-meet
decreases-meet l = 2 * l.number + 1

abbrev pub decreases-gather : goal.decreases-gather
decreases-gather l = 2 * max l.left l.right + 2

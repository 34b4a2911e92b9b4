-- What is found first in what is left of the front gives the record, or what is wrong there.
use Rattle.std.proofs.Common.{arith}
use Rattle.records.proofs.NextItem.{next_yields}
use Rattle.files.proofs.Start.{front_from}
use Rattle.files.proofs.front.read_front.Goals as goal

pub returns-in_err-record-clause-answer : goal.returns-in_err-record-clause-answer
returns-in_err-record-clause-answer c = let y = next_yields _ _ _ c.in-Some.ensures.steps in grind (arith, front_from)

pub returns-in_err-record-clause-after : goal.returns-in_err-record-clause-after
returns-in_err-record-clause-after c = let y = next_yields _ _ _ c.in-Some.ensures.steps in grind (arith, front_from)

pub returns-in_err-form-clause-answer : goal.returns-in_err-form-clause-answer
returns-in_err-form-clause-answer c = let y = next_yields _ _ _ c.in-Some.ensures.steps in grind (arith, front_from)

pub returns-in_err-form-clause-after : goal.returns-in_err-form-clause-after
returns-in_err-form-clause-after c = let y = next_yields _ _ _ c.in-Some.ensures.steps in grind (arith, front_from)

pub loop-record-preserved-in_ok-with_offset-in-FormRecord : goal.loop-record-preserved-in_ok-with_offset-in-FormRecord
loop-record-preserved-in_ok-with_offset-in-FormRecord c = let y = next_yields _ _ _ c.in-Some.ensures.steps in grind (arith, front_from)

pub returns-in_err-with_offset-in-FormRecord-clause-answer : goal.returns-in_err-with_offset-in-FormRecord-clause-answer
returns-in_err-with_offset-in-FormRecord-clause-answer c = let y = next_yields _ _ _ c.in-Some.ensures.steps in grind (arith, front_from)

pub returns-in_err-with_offset-in-FormRecord-clause-after : goal.returns-in_err-with_offset-in-FormRecord-clause-after
returns-in_err-with_offset-in-FormRecord-clause-after c = let y = next_yields _ _ _ c.in-Some.ensures.steps in grind (arith, front_from)

pub loop-record-preserved : goal.loop-record-preserved
loop-record-preserved c = let y = next_yields _ _ _ c.in-Some.ensures.steps in grind (arith, front_from)

pub returns-in_err-with_offset-in-AssumeRecord-clause-answer : goal.returns-in_err-with_offset-in-AssumeRecord-clause-answer
returns-in_err-with_offset-in-AssumeRecord-clause-answer c = let y = next_yields _ _ _ c.in-Some.ensures.steps in grind (arith, front_from)

pub returns-in_err-with_offset-in-AssumeRecord-clause-after : goal.returns-in_err-with_offset-in-AssumeRecord-clause-after
returns-in_err-with_offset-in-AssumeRecord-clause-after c = let y = next_yields _ _ _ c.in-Some.ensures.steps in grind (arith, front_from)

pub returns-in-SealRecord-clause-answer : goal.returns-in-SealRecord-clause-answer
returns-in-SealRecord-clause-answer c = let y = next_yields _ _ _ c.in-Some.ensures.steps in grind (arith, front_from)

pub returns-in-SealRecord-clause-after : goal.returns-in-SealRecord-clause-after
returns-in-SealRecord-clause-after c = let y = next_yields _ _ _ c.in-Some.ensures.steps in grind (arith, front_from)

pub returns-clause-answer : goal.returns-clause-answer
returns-clause-answer c = let y = next_yields _ _ _ c.in-None.ensures.steps in grind (arith, front_from)

pub returns-clause-after : goal.returns-clause-after
returns-clause-after c = let y = next_yields _ _ _ c.in-None.ensures.steps in grind (arith, front_from)

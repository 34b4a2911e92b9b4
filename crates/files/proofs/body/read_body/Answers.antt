-- What is found first in what is left of the body gives the record, or what is wrong there.
use Rattle.std.proofs.Common.{arith}
use Rattle.records.proofs.NextItem.{next_yields}
use Rattle.files.proofs.Start.{body_from}
use Rattle.files.proofs.body.read_body.Goals as goal

pub returns-in_err-record-clause-answer : goal.returns-in_err-record-clause-answer
returns-in_err-record-clause-answer g c = let y = next_yields _ _ _ c.in-Some.ensures.steps in grind (arith, body_from)

pub returns-in_err-record-clause-after : goal.returns-in_err-record-clause-after
returns-in_err-record-clause-after g c = let y = next_yields _ _ _ c.in-Some.ensures.steps in grind (arith, body_from)

pub returns-in_err-record-clause-words : goal.returns-in_err-record-clause-words
returns-in_err-record-clause-words g c = let y = next_yields _ _ _ c.in-Some.ensures.steps in grind (arith, body_from)

pub returns-in_err-request-clause-answer : goal.returns-in_err-request-clause-answer
returns-in_err-request-clause-answer g c = let y = next_yields _ _ _ c.in-Some.ensures.steps in grind (arith, body_from)

pub returns-in_err-request-clause-after : goal.returns-in_err-request-clause-after
returns-in_err-request-clause-after g c = let y = next_yields _ _ _ c.in-Some.ensures.steps in grind (arith, body_from)

pub returns-in_err-request-clause-words : goal.returns-in_err-request-clause-words
returns-in_err-request-clause-words g c = let y = next_yields _ _ _ c.in-Some.ensures.steps in grind (arith, body_from)

pub loop-record-preserved : goal.loop-record-preserved
loop-record-preserved g c = let y = next_yields _ _ _ c.in-Some.ensures.steps in grind (arith, body_from)

pub returns-in_err-with_offset-clause-answer : goal.returns-in_err-with_offset-clause-answer
returns-in_err-with_offset-clause-answer g c = let y = next_yields _ _ _ c.in-Some.ensures.steps in grind (arith, body_from)

pub returns-in_err-with_offset-clause-after : goal.returns-in_err-with_offset-clause-after
returns-in_err-with_offset-clause-after g c = let y = next_yields _ _ _ c.in-Some.ensures.steps in grind (arith, body_from)

pub returns-in_err-with_offset-clause-words : goal.returns-in_err-with_offset-clause-words
returns-in_err-with_offset-clause-words g c = let y = next_yields _ _ _ c.in-Some.ensures.steps in grind (arith, body_from)

pub returns-clause-answer : goal.returns-clause-answer
returns-clause-answer g c = let y = next_yields _ _ _ c.in-None.ensures.steps in grind (arith, body_from)

pub returns-clause-after : goal.returns-clause-after
returns-clause-after g c = let y = next_yields _ _ _ c.in-None.ensures.steps in grind (arith, body_from)

pub returns-clause-words : goal.returns-clause-words
returns-clause-words g c = let y = next_yields _ _ _ c.in-None.ensures.steps in grind (arith, body_from)

-- `make_call` meets its contract: a record asks for the call that is made.
use Rattle.std.proofs.Common.{ap}
use Rattle.std.specs.Result.{result_err}
use Rattle.files.proofs.body.make_call.Goals as goal

pub returns-in-LineRecord-clause-refusal : goal.returns-in-LineRecord-clause-refusal
returns-in-LineRecord-clause-refusal g c = rw (c.in-LineRecord.is) (ap result_err c.line.ensures.answer)

pub returns-in-PulseRecord : goal.returns-in-PulseRecord
returns-in-PulseRecord g c =
    let e = c.refute-in-PulseRecord.ensures in
    rw (c.in-PulseRecord.is) (record { refusal = ap result_err e.answer; after = e.after; words = e.words })

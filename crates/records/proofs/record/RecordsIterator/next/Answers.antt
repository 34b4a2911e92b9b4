-- `next` meets its contract: what is found at the offset is the first of what is left.
use Rattle.std.proofs.Common.{◌≡◌, Some, rules}
use Rattle.records.proofs.NextItem.{found, offset_behind}
use Rattle.records.proofs.record.RecordsIterator.next.Goals as goal

pub returns-in_err-record-clause-steps : goal.returns-in_err-record-clause-steps
returns-in_err-record-clause-steps c =
    let y = found c.args.self.now c.record_at.result c.record_at.ensures.value c.record_at.ensures.place in
    rw (c.from_residual.ensures) (rw (← c.with_offset.ensures, ← c.transpose.ensures, c.in_err-record.was) at y)

pub returns-clause-steps : goal.returns-clause-steps
returns-clause-steps c =
    let y = found c.args.self.now c.record_at.result c.record_at.ensures.value c.record_at.ensures.place in
    let at : c.map_or-self.result ≡ offset_behind c.args.self.now (Some c.in_ok-record.record) = search rules in
    rw at (rw (← c.with_offset.ensures, ← c.transpose.ensures, c.in_ok-record.was) at y)

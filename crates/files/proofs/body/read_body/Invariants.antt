-- What is left of the body gives what the whole body gives.
use Rattle.std.proofs.Common.{◌≡◌, length}
use Rattle.cases.specs.Model.{sealed}
use Rattle.records.specs.Contents.{records_left}
use Rattle.files.specs.Reading.{read, body_part, body_carries, body}
use Rattle.files.proofs.body.read_body.Given as goal

abbrev pub invariant-loop-record : goal.invariant-loop-record
invariant-loop-record g l = record {
  file : l.record-iterator.file.now ≡ l.file;
  rest : body (g.P.RulePage.meaning l.page) (sealed l.initial.case) l.start l.initial.scratch l.file ≡ read (body_part (g.P.RulePage.meaning l.page) (length l.initial.scratch)) (sealed l.case) (body_carries l.scratch) l.record-iterator.offset (records_left l.record-iterator);
  words : length l.scratch ≡ length l.initial.scratch;
}

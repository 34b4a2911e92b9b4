-- What is left of the front gives what the whole front gives.
use Rattle.std.proofs.Common.{◌≡◌}
use Rattle.cases.specs.Model.{opened}
use Rattle.records.specs.Contents.{records_left}
use Rattle.files.specs.Reading.{read, front_part, front}
use Rattle.files.proofs.front.read_front.Given as goal

abbrev pub invariant-loop-record : goal.invariant-loop-record
invariant-loop-record l = record {
  file : l.record-iterator.file.now ≡ l.file;
  rest : front (opened l.initial.case) l.file ≡ read front_part (opened l.case) tt l.record-iterator.offset (records_left l.record-iterator);
}

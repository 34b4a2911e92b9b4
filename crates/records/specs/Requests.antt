-- What the program's records of the body ask for.
use Rattle.std.specs.Prelude.{Ok, Err, Result}
use Rattle.runs.specs.Meanings.{table_meaning, pulse_meaning}
use Rattle.records.specs.declared.body_record.BodyRecord.{BodyRecord}
use Rattle.records.specs.declared.body_record.BodyRecord.TheVariants.{FormRecord, LineRecord, TableRecord, PulseRecord}
use Rattle.records.specs.Payloads.{Request, form_request, line_request, refute_request}

-- a run of the program stands for the run that it means
abbrev pub request_of : BodyRecord → Request
request_of (FormRecord form) = form_request form
request_of (LineRecord line) = line_request line
request_of (TableRecord refutation run) = refute_request refutation (table_meaning run)
request_of (PulseRecord refutation run) = refute_request refutation (pulse_meaning run)

abbrev pub requested : {E : Type 0} → Result BodyRecord E → Result Request E
requested (Ok r) = Ok (request_of r)
requested (Err e) = Err e

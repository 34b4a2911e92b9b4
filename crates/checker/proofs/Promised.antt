-- What is promised of the way from a file to its listing.
use Rattle.model.proofs.Enough.{scratch_suffices}
use Rattle.model.proofs.Making.{one_made}
use Rattle.model.proofs.Promises as cases
use Rattle.files.proofs.CallsMade.{front_makes_calls, body_makes_calls, front_makes_history, body_makes_history}
use Rattle.files.proofs.FileReads.{front_exact, body_exact, body_past_end}
use Rattle.records.proofs.Asking.{records_ask}
use Rattle.records.proofs.ReadBack.{records_read_back}
use Rattle.files.proofs.Scratch.{body_keeps_scratch_length, body_leaves_last_rows}
use Rattle.files.proofs.Within.{offsets_within}
use Rattle.checker.specs.Promises.{FilePromises, AllPromises}
use Rattle.checker.proofs.Fitting.{listings_fit}
use Rattle.checker.proofs.Listed.{listed_after_history, one_file_history}
use Rattle.checker.proofs.Page.{page_publishes, page_exact, page_limit, program_line_exactly}
use Rattle.checker.proofs.Starting.{start_suffices}

pub promises : FilePromises
promises = record {
  records_read_back = records_read_back;
  records_ask = records_ask;
  front_exact = front_exact;
  body_exact = body_exact;
  body_past_end = body_past_end;
  offsets_within = offsets_within;
  front_makes_calls = front_makes_calls;
  body_makes_calls = body_makes_calls;
  front_makes_history = front_makes_history;
  body_makes_history = body_makes_history;
  one_made = one_made;
  body_keeps_scratch_length = body_keeps_scratch_length;
  body_leaves_last_rows = body_leaves_last_rows;
  page_publishes = page_publishes;
  page_exact = page_exact;
  page_limit = page_limit;
  program_line_exactly = program_line_exactly;
  listed_after_history = listed_after_history;
  one_file_history = one_file_history;
}

pub all_promises : AllPromises
all_promises = record {
  cases = cases.promises;
  files = promises;
  fits = listings_fit;
  suffices = scratch_suffices;
  start = start_suffices;
}

-- `try_from` meets its contract: each test is one of the check's, and the pulses are those of the bytes after the loop.
use Rattle.std.proofs.Common.{◌≡◌, ◌%◌, true, false, length, drop, Ok, ap, ap₂, sym, ◌∙◌, arith}
use Rattle.std.specs.Simd.{first_chunks}
use Rattle.std.proofs.lemmas.Slice.{between_to_end}
use Rattle.std.proofs.lemmas.Bool.Decides.{nat_tests}
use Rattle.runs.specs.Bytes.{word}
use Rattle.runs.specs.Pulses.{pulses_of, pulses_in, pulsed, latest, in_order, pulse_check}
use Rattle.runs.proofs.Checks.{looped_same, run_given, pulses_passed_run}
use Rattle.runs.proofs.pulses.PulseRunTryFromRefSliceU8.try_from.Goals as goal
use Rattle.runs.proofs.pulses.PulseRunTryFromRefSliceU8.try_from.Goals.{After-from_le_bytes-loop_length, then-loop_length-eq0-via-then-loop_length-eq0, then-loop_length-eq0-via-else-loop_length-eq0+then-not-are_in_order}

-- the arrays have the pulses of the bytes, and as many
arrays_same : (c : After-from_le_bytes-loop_length) → (pulses_of c.as_chunks.result.0.now ≡ pulses_in c.args.bytes.now) × (length (drop 2 c.args.bytes.now) % 8 ≡ 0)
arrays_same c =
    let bytes = c.args.bytes.now in
    let rest = between_to_end bytes 2 (length bytes) (omega arith) in
    let many = ap length rest in
    (ap pulses_of (c.as_chunks.ensures.front ∙ ap₂ (first_chunks 8) (omega arith) rest), omega arith)

pub returns-then-loop_length-eq0 : goal.returns-then-loop_length-eq0
unfolding pulse_check
returns-then-loop_length-eq0 c =
    let bytes = c.args.bytes.now in
    let loop : c.from_le_bytes-loop_length.result ≡ word bytes 0 = omega arith in
    let same = arrays_same (goal.at.returns-then-loop_length-eq0 c).After-from_le_bytes-loop_length in
    elim c.then-loop_length-eq0.branch [
      | then-loop_length-eq0-via-then-loop_length-eq0 w ↦ grind (arith, nat_tests)
      | then-loop_length-eq0-via-else-loop_length-eq0+then-not-are_in_order w ↦
          let broken : in_order (word bytes 0) (pulses_in bytes) ≡ false = cc (w.are_in_order.ensures, w.if-not-are_in_order.true) in
          grind (arith, nat_tests)
    ]

pub returns : goal.returns
unfolding pulse_check
returns c =
    let bytes = c.args.bytes.now in
    let loop : c.from_le_bytes-loop_length.result ≡ word bytes 0 = omega arith in
    let same = arrays_same (goal.at.returns c).After-from_le_bytes-loop_length in
    let orderly : in_order (word bytes 0) (pulses_in bytes) ≡ true = cc in
    let passes : pulse_check bytes ≡ Ok tt = grind (arith, nat_tests) in
    run_given (pulse_check bytes) passes
    (looped_same (c.latest_first.ensures ∙ ap latest same.0) loop (ap pulsed same.0) ∙ sym (pulses_passed_run bytes passes))

-- `PulseRun::new` meets its contract: bytes that give no pulse run give the silent run.
use Rattle.std.proofs.Common.{ap, ◌∙◌, sym}
use Rattle.runs.specs.Meanings.{pulse_meaning}
use Rattle.runs.specs.Pulses.{pulses_of, pulsed, pulse_check, pulse_run}
use Rattle.runs.proofs.Checks.{looped_same, run_or, pulses_failed_run}
use Rattle.runs.proofs.pulses.PulseRun.new.Goals as goal

pub returns-clause-run : goal.returns-clause-run
returns-clause-run c =
    let bytes = c.args.bytes.now in
    let silent = c.of_one_position in
    ap pulse_meaning c.unwrap_or.ensures
    ∙ run_or (pulse_check bytes) (pulse_run bytes) pulse_meaning c.try_from.result silent.result c.try_from.ensures
    (λ e failed. looped_same silent.ensures.stem silent.ensures.loops (ap (λ pulses. pulsed (pulses_of pulses.0.now)) silent.ensures.positions) ∙ sym (pulses_failed_run bytes e failed))

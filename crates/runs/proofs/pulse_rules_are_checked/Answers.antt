-- The bytes of wrong length are those that `pulse_wrong_length` names.
use Rattle.runs.proofs.Checks.{pulse_wrong_length}
use Rattle.runs.proofs.pulse_rules_are_checked.Goals as goal

pub returns-clause-wrong_length : goal.returns-clause-wrong_length
returns-clause-wrong_length c = pulse_wrong_length

-- After every history, the counts tell which numbers are in use.
use Rattle.model.specs.Promises.{CountsTell}
use Rattle.model.proofs.Reading.{counted}
use Rattle.model.proofs.Histories.{formulas_exactly, assumptions_exactly}
use Rattle.model.proofs.HeldLines.{lines_exactly}
use Rattle.model.proofs.HeldRefutations.{refutations_exactly}

pub counts_tell : CountsTell
counts_tell s h n = (
  counted (formulas_exactly s h) n,
  counted (assumptions_exactly s h) n,
  counted (lines_exactly s h) n,
  let refutations = counted (refutations_exactly s h) n in (
    λ within. let p = refutations.0 within in (p.0.formula, p.0.position, p.1.0, p.1.1),
    λ p. refutations.1 (record { formula = p.0; position = p.1 }, (p.2, p.3)),
  ),
)

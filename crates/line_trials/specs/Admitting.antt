-- What pages of the trials' own say, and that they keep the law of pages.
use Rattle.std.proofs.Common.{subst}
use Rattle.calculus.specs.declared.verdict.Verdict.{Verdict}
use Rattle.calculus.specs.declared.verdict.Verdict.TheVariants.{Admitted, NotAdmitted, BeyondLimit}
use Rattle.calculus.specs.Pages.{Verdicts, Lawful}
use Rattle.calculus.specs.Published.{published}
use Rattle.calculus.proofs.Lawful.{published_lawful}

-- nothing is admitted
abbrev pub nothing : Verdicts
nothing rule X P Q = NotAdmitted

IsOther : Verdict → Type 0
IsOther Admitted = ⊥
IsOther NotAdmitted = Unit {0}
IsOther BeyondLimit = Unit {0}

pub nothing_lawful : Lawful nothing
unfolding IsOther
nothing_lawful rule X P Q e = absurd (subst IsOther e tt)

-- every rule admits tautologies, whatever its number
abbrev pub always_taut : Verdicts
always_taut rule = published 1

pub always_taut_lawful : Lawful always_taut
always_taut_lawful rule = published_lawful 1

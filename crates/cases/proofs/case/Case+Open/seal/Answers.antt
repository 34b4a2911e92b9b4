-- The sealed case has the open one's formulas and assumptions, and no lines or refutations. Written out, so that an edit of `seal` is refused by what it changes.
use Rattle.cases.specs.Model.{modelled}
use Rattle.cases.proofs.case.Case+Open.seal.Goals as goal

pub returns : goal.returns
unfolding modelled
returns c =
    let s = c.args.self in
    λ i. record (modelled s) { lines = s.stage.no_lines i; refutations = s.stage.no_refutations i }

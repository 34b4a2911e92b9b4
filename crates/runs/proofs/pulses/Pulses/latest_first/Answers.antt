-- `latest_first` meets its contract: the largest of the first positions, one by one, is the latest.
use Rattle.std.proofs.Common.{◌≡◌, max, fold, ◌∙◌, rules, arith}
use Rattle.runs.proofs.Arrays.{firsts_of, latest_from_fold}
use Rattle.runs.proofs.pulses.Pulses.latest_first.Goals as goal

pub returns : goal.returns
returns c =
    let folded : c.fold.result ≡ fold max 0 (firsts_of c.args.self.now.0.now) = search rules in
    folded ∙ latest_from_fold c.args.self.now.0.now 0 ∙ omega arith

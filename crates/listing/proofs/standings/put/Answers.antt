-- `put` meets its contract: what is set past the end changes nothing.
use Rattle.std.proofs.Common.{sym, arith}
use Rattle.std.proofs.lemmas.List.{set_past}
use Rattle.listing.proofs.standings.put.Goals as goal

pub returns-else-place-lt-PLACES : goal.returns-else-place-lt-PLACES
returns-else-place-lt-PLACES c = sym (set_past c.args.standings.now c.args.formula c.args.standing (omega arith))

-- `listing_of` has room for every listing.
use Rattle.std.proofs.Common.{Err, length, ap, subst, ◌∙◌, arith}
use Rattle.checker.specs.Unwritten.{ListsInto}
use Rattle.checker.proofs.InBuffer.{lists_cut, lists_always}
use Rattle.checker.proofs.Listed.{lists_history}
use Rattle.checker.proofs.listing_of.Goals as goal

pub unreachable-requires : goal.unreachable-requires
unreachable-requires c =
    let into = subst (λ r. ListsInto 4096 c.args.file.now c.deref_mut.result.now r c.list_into.new.buffer) (c.in-Err-BufferTooShort.is ∙ ap Err c.in-Err-BufferTooShort.field-0-is) c.list_into.ensures.text in
    lists_always 4096 c.args.file.now c.deref_mut.result.now c.list_into.new.buffer (omega (arith, ap length c.deref_mut.ensures.value, c.in_ok-buffer.ensures.len)) into

pub returns-in-Ok-clause-text : goal.returns-in-Ok-clause-text
returns-in-Ok-clause-text c =
    let into = subst (λ r. ListsInto 4096 c.args.file.now c.deref_mut.result.now r c.list_into.new.buffer) c.in-Ok.is c.list_into.ensures.text in
    c.truncate.ensures.items ∙ lists_cut 4096 c.args.file.now c.deref_mut.result.now c.list_into.new.buffer c.in-Ok.length c.in_ok-buffer.buffer.len _ (omega (arith, ap length c.deref_mut.ensures.value, c.in_ok-buffer.buffer.ok.0)) into

pub returns-in-Ok-clause-history : goal.returns-in-Ok-clause-history
returns-in-Ok-clause-history c = lists_history 4096 c.args.file.now _ (returns-in-Ok-clause-text c)

-- `list_into` answers by its own case and scratch.
use Rattle.std.proofs.Common.{◌≡◌, ℕ, List, Err, Result, IsErr, IsErrAnd, ap, ◌∙◌, sym}
use Rattle.checker.specs.declared.unwritten.Unwritten.{Unwritten}
use Rattle.checker.specs.declared.unwritten.Unwritten.TheVariants.{NoMemory}
use Rattle.checker.specs.Unwritten.{ListsInto}
use Rattle.std.proofs.lemmas.Result.{err_from_is_err_and}
use Rattle.cases.specs.Model.{opened}
use Rattle.checker.proofs.InBuffer.{lists_nothing, lists_whole, lists_too_long, lists_made}
use Rattle.checker.proofs.list_into.Goals as goal

-- an error that memory is lacking is told as such
lacking : (bytes before : List ℕ) (r : Result ℕ Unwritten) → IsErr r → IsErrAnd r (λ e. e ≡ NoMemory) → ListsInto 4096 bytes before r before
lacking bytes before r is and =
    let p = err_from_is_err_and r and in
    rw (p.1 ∙ ap Err p.2) (lists_nothing 4096 bytes before)

pub returns-in_err-scratch-clause-text : goal.returns-in_err-scratch-clause-text
returns-in_err-scratch-clause-text c = lacking c.args.file.now c.args.buffer.now c.from_residual.result c.from_residual.ensures.0 c.from_residual.ensures.1

pub returns-in_err-case-clause-text : goal.returns-in_err-case-clause-text
returns-in_err-case-clause-text c = lacking c.args.file.now c.args.buffer.now c.from_residual-in_err-case.result c.from_residual-in_err-case.ensures.0 c.from_residual-in_err-case.ensures.1

pub returns-clause-text : goal.returns-clause-text
returns-clause-text c =
    lists_whole 4096 c.args.file.now c.deref_mut.result.now c.args.buffer.now c.list_file.new.buffer (opened c.in_ok-case.case) c.in_ok-case.ensures.empty
    (c.deref_mut.ensures.value ∙ c.in_ok-scratch.ensures.items_if_clones_equal (λ y e. e))
    c.list_file.ensures.after
    c.in_ok-list_file.field-0
    (sym (c.in_ok-list_file.was) ∙ c.list_file.ensures.answer)

pub returns-in_err-list_file-clause-text : goal.returns-in_err-list_file-clause-text
returns-in_err-list_file-clause-text c =
    let p = err_from_is_err_and c.from_residual-in_err-list_file.result c.from_residual-in_err-list_file.ensures.1 in
    let r = p.1 ∙ ap Err p.2 in
    rw r (lists_too_long 4096 c.args.file.now c.deref_mut.result.now c.args.buffer.now c.list_file.new.buffer (opened c.in_ok-case.case) c.in_ok-case.ensures.empty
    (c.deref_mut.ensures.value ∙ c.in_ok-scratch.ensures.items_if_clones_equal (λ y e. e))
    c.list_file.ensures.after
    c.in_err-list_file.field-0.0
    (sym (c.in_err-list_file.was) ∙ c.list_file.ensures.answer))

pub returns-clause-history : goal.returns-clause-history
returns-clause-history c = lists_made 4096 c.args.file.now c.args.buffer.now c.list_file.new.buffer c.in_ok-list_file.field-0 (returns-clause-text c)

-- `first_false` meets its contract: what is left of the search gives what all of it gives.
use Rattle.std.proofs.Common.{◌≡◌, false, get_or, Some, None, sym, ◌∙◌}
use Rattle.row_writer.specs.RowsAlong.{row_says}
use Rattle.row_writer.specs.Searching.{first_false_from}
use Rattle.row_writer.proofs.Failing.{false_later, false_here, false_nowhere, failing_later, failing_here, failing_nowhere, nothing_false}
use Rattle.rows.proofs.Rows.{true_from_at}
use Rattle.row_writer.proofs.searching.first_false.Goals as goal

pub loop-position-preserved : goal.loop-position-preserved
loop-position-preserved c =
    let p = row_says c.args.words.now (get_or c.args.formulas.now c.search.place 0) in
    (c.loop-position.invariant.0, c.loop-position.invariant.1 ∙ false_later c.args.positions p c.loop-position.position c.loop-position-test.true (sym c.if-not-truth_at.ensures))

pub search-preserved : goal.search-preserved
search-preserved c =
    let t = row_says c.args.words.now in
    let none : first_false_from c.args.positions 0 (t (get_or c.args.formulas.now c.search.place 0)) ≡ None =
    c.loop-position.invariant.1
    ∙ false_nowhere c.args.positions (t (get_or c.args.formulas.now c.search.place 0)) c.loop-position.position c.loop-position-test.false in
    (c.loop-position.invariant.0, c.search.invariant.1 ∙ failing_later t c.args.positions c.args.formulas.now c.search.place c.search-test.true none)

pub returns-after-search : goal.returns-after-search
returns-after-search c =
    c.search.invariant.0
    ∙ sym (c.search.invariant.1 ∙ failing_nowhere (row_says c.args.words.now) c.args.positions c.args.formulas.now c.search.place c.search-test.false)

pub returns-then-not-truth_at : goal.returns-then-not-truth_at
returns-then-not-truth_at c =
    let t = row_says c.args.words.now in
    let p = t (get_or c.args.formulas.now c.search.place 0) in
    let here : p c.loop-position.position ≡ false = sym c.if-not-truth_at.ensures in
    let found : first_false_from c.args.positions 0 p ≡ Some c.loop-position.position =
    c.loop-position.invariant.1 ∙ false_here c.args.positions p c.loop-position.position c.loop-position-test.true here in
    sym (c.search.invariant.1 ∙ failing_here t c.args.positions c.args.formulas.now c.search.place c.search-test.true c.loop-position.position found)

pub search-preserved-then-is_never_false : goal.search-preserved-then-is_never_false
search-preserved-then-is_never_false c =
    let t = row_says c.args.words.now in
    let p = t (get_or c.args.formulas.now c.search.place 0) in
    let none = nothing_false c.args.positions 0 p (λ j le lt. true_from_at p 0 c.args.positions j (sym c.if-is_never_false.ensures) le lt) in
    (c.search.invariant.0, c.search.invariant.1 ∙ failing_later t c.args.positions c.args.formulas.now c.search.place c.search-test.true none)

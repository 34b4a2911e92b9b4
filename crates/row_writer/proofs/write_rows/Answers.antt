-- Row by row, the words get the rows of all formulas.
use Rattle.std.proofs.Common.{◌≡◌, ℕ, ◌+◌, ◌*◌, ◌<◌, ◌≤◌, true, false, List, length, get_or, sym, ap, ◌∙◌, ap₂, arith, rules}
use Rattle.std.proofs.lemmas.List.{take_all}
use Rattle.std.proofs.lemmas.Bool.{and_from, and_right, le-leb, lt-leb, cond-true, cond-false}
use Rattle.formulas.specs.declared.entry.Entry.{Entry}
use Rattle.formulas.specs.declared.entry.Entry.TheVariants.{False}
use Rattle.formulas.specs.declared.list.FormulaList.{FormulaList}
use Rattle.formulas.specs.Listed.{entries_of, formulas_of}
use Rattle.formulas.proofs.Decoded.{decoded_length}
use Rattle.row_writer.specs.RowsAlong.{rows_fit, with_rows}
use Rattle.row_writer.specs.Steps.{entry_row}
use Rattle.row_writer.proofs.Entries.{with_rows_none, with_rows_more}
use Rattle.row_writer.proofs.write_rows.Goals as goal

-- there are as many formulas as entries
as_many : (l : FormulaList) (es : List Entry) → es ≡ entries_of l → length (formulas_of l) ≡ length es
as_many l es is = decoded_length (entries_of l) ∙ sym (ap (length {A = Entry}) is)

pub returns-then-words-entries : goal.returns-then-words-entries
returns-then-words-entries g c =
    let r = g.R.RunSource.meaning c.args.source.now in
    let fs = formulas_of c.args.formulas.now in
    let old = c.args.words.now in
    let many = as_many c.args.formulas.now c.entries-entries.result.now c.entries-entries.ensures in
    let none : rows_fit r fs (length old) ≡ false = and_right _ _ (lt-leb (4 * length fs) (length old) (omega arith)) in
    record { answer = sym none; after = sym (cond-false (rows_fit r fs (length old)) (with_rows r fs old) old none) }

pub loop-number-init : goal.loop-number-init
loop-number-init g c = with_rows_none (g.R.RunSource.meaning c.args.source.now) (formulas_of c.args.formulas.now) c.args.words.now

pub loop-number-preserved : goal.loop-number-preserved
loop-number-preserved g c =
    let l = c.args.formulas.now in
    let es = entries_of l in
    let n : ℕ = c.loop-number.number in
    let r = g.R.RunSource.meaning c.args.source.now in
    let long : r.stem + r.loop ≤ 256 = c.new.ensures.room.0 (search rules) in
    let below : n < length es = omega (arith, ap (length {A = Entry}) c.entries-entries.ensures) in
    let made : c.row-row.result ≡ entry_row r c.loop-number.words (get_or es n False) =
    c.row-row.ensures ∙ ap₂ (λ s (xs : List Entry). entry_row (g.R.RunSource.meaning s) c.loop-number.words (get_or xs n False)) c.in-Some.ensures.same c.entries-entries.ensures in
    c.store.ensures ∙ with_rows_more r long es l.lower c.args.words.now n below c.loop-number.words c.row-row.result c.loop-number.invariant made

pub returns : goal.returns
returns g c =
    let r = g.R.RunSource.meaning c.args.source.now in
    let fs = formulas_of c.args.formulas.now in
    let old = c.args.words.now in
    let many = as_many c.args.formulas.now c.entries-entries.result.now c.entries-entries.ensures in
    let long : r.stem + r.loop ≤ 256 = c.new.ensures.room.0 (search rules) in
    let room : rows_fit r fs (length old) ≡ true = and_from _ _ (le-leb (r.stem + r.loop) 256 long) (le-leb (4 * length fs) (length old) (omega arith)) in
    record {
      answer = sym room;
      after =
          c.loop-number.invariant ∙ ap (λ done. with_rows r done old) (take_all c.loop-number.number fs (omega arith))
          ∙ sym (cond-true (rows_fit r fs (length old)) (with_rows r fs old) old room);
    }

-- `Case::truth` meets its contract: the formula's row says its truth.
use Rattle.std.proofs.Common.{◌≡◌, ℕ, Bool, List, length, Ok, sym, refl, ap, ◌∙◌, ap₂, arith}
use Rattle.std.proofs.lemmas.Result.{err_from_is_err_and}
use Rattle.row_writer.specs.RowsAlong.{row_says}
use Rattle.model.specs.Judging.{truth, truth_scratch}
use Rattle.model.proofs.Scratch.{judgeable, rows_written, row_tells}
use Rattle.cases.specs.Model.{modelled}
use Rattle.cases.proofs.case.Case.truth.Goals as goal

pub returns-in_err-check : goal.returns-in_err-check
unfolding truth truth_scratch
returns-in_err-check g c =
    let p = err_from_is_err_and c.from_residual.result c.from_residual.ensures.1 in
    let refused = c.in_err-check.ensures in
    rw (p.1, p.2, ← refused) (record { answer = refl; words = refl })

pub returns : goal.returns
unfolding modelled truth truth_scratch
returns g c =
    let t = modelled c.args.self.now in
    let run = g.R.RunSource.meaning c.args.source.now in
    let passed = sym c.in_ok-check.ensures in
    let can = judgeable t run c.args.formula c.args.position (length c.args.scratch.now) passed in
    let written = c.write_rows.ensures.after ∙ rows_written t run c.args.formula c.args.position c.args.scratch.now can in
    let said : ◌≡◌ {A = Bool} c.truth_at.result (row_says c.write_rows.new.words c.args.formula c.from.result) = c.truth_at.ensures in
    let at : c.from.result ≡ c.args.position = omega arith in
    let tells = said ∙ ap₂ (λ (ws : List ℕ) (i : ℕ). row_says ws c.args.formula i) written at ∙ row_tells t run c.args.formula c.args.position c.args.scratch.now can in
    rw passed (record { answer = ap Ok tells; words = written })

-- `Case::judge` meets its contract: the rows tell which assumption fails, and whether the formula is true.
use Rattle.std.proofs.Common.{◌≡◌, ℕ, ◌+◌, ◌<◌, Bool, true, false, List, length, Some, Option, sym, ap, ◌∙◌, ap₂, arith}
use Rattle.logic.specs.Run.{Run}
use Rattle.row_writer.specs.RowsAlong.{with_rows, row_says}
use Rattle.row_writer.specs.Searching.{first_failing}
use Rattle.row_writer.proofs.Failing.{found_below}
use Rattle.model.specs.Case.{Case}
use Rattle.model.specs.Judging.{true_at, judged_by}
use Rattle.model.specs.Outcomes.{Judgeable}
use Rattle.model.proofs.Scratch.{judgeable, rows_written, row_tells, search_tells}
use Rattle.cases.specs.Model.{modelled}
use Rattle.cases.proofs.case.Case.judge.Goals as goal
use Rattle.cases.proofs.case.Case.judge.Given as given
use Rattle.cases.proofs.case.Case.judge.Goals.{After-first_false}

module _ (g : given.Over) (c : After-first_false g) where
  abbrev model : Case
  model = modelled c.args.self.now

  abbrev run : Run
  run = g.R.RunSource.meaning c.args.source.now

  can : Judgeable model run c.args.formula c.args.position (length c.args.scratch.now)
  can = judgeable model run c.args.formula c.args.position (length c.args.scratch.now) c.requires

  written : c.write_rows.new.words ≡ with_rows run model.formulas c.args.scratch.now
  unfolding modelled
  written = c.write_rows.ensures.after ∙ rows_written model run c.args.formula c.args.position c.args.scratch.now can

  -- what the search in the rows finds is what fails along the run
  found : c.first_false.result ≡ first_failing (true_at model run) (run.stem + run.loop) 0 model.assumptions
  unfolding modelled
  found =
      c.first_false.ensures
      ∙ ap (first_failing (row_says c.write_rows.new.words) c.positions-positions.result 0) c.as_slice.ensures.items
      ∙ ap₂ (λ (ws : List ℕ) (n : ℕ). first_failing (row_says ws) n 0 model.assumptions) written c.positions-positions.ensures
      ∙ search_tells model run c.args.formula c.args.position c.args.scratch.now can c.args.self.now.entered

  -- what the formula's row says is its truth
  told : (b : Bool) (i : ℕ) → b ≡ row_says c.write_rows.new.words c.args.formula i → i ≡ c.args.position → b ≡ true_at model run c.args.formula c.args.position
  told b i is at =
      is ∙ ap₂ (λ (ws : List ℕ) (j : ℕ). row_says ws c.args.formula j) written at
      ∙ row_tells model run c.args.formula c.args.position c.args.scratch.now can

  -- both numbers that are found are small
  small : (k j : ℕ) → c.first_false.result ≡ Some (k, j) → (k < 16) × (j < 256)
  unfolding modelled
  small k j is =
      let p = found_below (true_at model run) (run.stem + run.loop) model.assumptions k j (sym found ∙ is) in
      (omega (arith, p.0, c.args.self.now.within), omega (arith, p.1, can.short))

pub overflow_cast-result : goal.overflow_cast-result
overflow_cast-result g c = omega (arith, (small g (goal.at.overflow_cast-result g c).After-first_false c.in-Some.place c.in-Some.at c.in-Some.is).0)

pub overflow_cast-result-in-Some : goal.overflow_cast-result-in-Some
overflow_cast-result-in-Some g c = omega (arith, (small g (goal.at.overflow_cast-result-in-Some g c).After-first_false c.in-Some.place c.in-Some.at c.in-Some.is).1)

pub returns-in-Some : goal.returns-in-Some
returns-in-Some g c =
    let w = (goal.at.returns-in-Some g c).After-first_false in
    record {
      answer = ap (λ (o : Option (ℕ × ℕ)). judged_by o (true_at (model g w) (run g w) c.args.formula c.args.position)) (sym c.in-Some.is ∙ found g w);
      words = written g w;
    }

pub returns-then-truth_at : goal.returns-then-truth_at
returns-then-truth_at g c =
    let w = (goal.at.returns-then-truth_at g c).After-first_false in
    record {
      answer = ap₂ judged_by (sym c.in_default.is ∙ found g w) (told g w true c.from.result c.if-truth_at.ensures (omega arith));
      words = written g w;
    }

pub returns : goal.returns
returns g c =
    let w = (goal.at.returns g c).After-first_false in
    record {
      answer = ap₂ judged_by (sym c.in_default.is ∙ found g w) (told g w false c.from.result c.if-truth_at.ensures (omega arith));
      words = written g w;
    }

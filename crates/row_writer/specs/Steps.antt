-- How the row of an entry comes from the rows of its operands.
use Rattle.std.specs.Prelude.{ℕ, ◌+◌, ◌-◌, min, false, not, ◌||◌, List}
use Rattle.logic.specs.Run.{Run}
use Rattle.formulas.specs.declared.entry.Entry.{Entry}
use Rattle.formulas.specs.declared.entry.Entry.TheVariants.{False, Atom, Implies, Next, Always}
use Rattle.runs.specs.SourceSays.{source_says}
use Rattle.row_writer.specs.RowsAlong.{row_at}
use Rattle.rows.specs.Row.{bit, row_of, row_up_to, true_from, after}

-- the rows of compound formulas, by those of their parts
abbrev pub implies_row : Run → List ℕ → List ℕ → List ℕ
implies_row r a b = row_up_to (r.stem + r.loop) (λ i. not (bit a i) || bit b i)

abbrev pub next_row : Run → List ℕ → List ℕ
next_row r a = row_up_to (r.stem + r.loop) (λ i. bit a (after r.stem (r.stem + r.loop) i))

abbrev pub always_row : Run → List ℕ → List ℕ
always_row r a = row_up_to (r.stem + r.loop) (λ i. true_from (r.stem + r.loop - min i r.stem) (min i r.stem) (bit a))

-- the row of an entry, by what the run's source tells and the rows of its operands in the words
abbrev pub entry_row : Run → List ℕ → Entry → List ℕ
entry_row r words False = row_of (λ i. false)
entry_row r words (Atom a) = row_of (source_says r a)
entry_row r words (Implies a b) = implies_row r (row_at words a) (row_at words b)
entry_row r words (Next a) = next_row r (row_at words a)
entry_row r words (Always a) = always_row r (row_at words a)

-- The formulas that entries stand for.
use Rattle.std.specs.Prelude.{ℕ, zero, suc, List, map, length, slice_index_or}
use Rattle.std.specs.List.{range_with_len}
use Rattle.logic.specs.Formula.{Formula, falsum, atom, implies, next, always}
use Rattle.formulas.specs.declared.entry.Entry.{Entry}
use Rattle.formulas.specs.declared.entry.Entry.TheVariants.{False, Atom, Implies, Next, Always}

-- an entry's formula, by the formulas of its operands
abbrev pub of_entry : (ℕ → Formula) → Entry → Formula
of_entry at False = falsum
of_entry at (Atom a) = atom a
of_entry at (Implies a b) = implies (at a) (at b)
of_entry at (Next a) = next (at a)
of_entry at (Always a) = always (at a)

-- the formula of entry i, read to a depth
unfoldable pub read_to : ℕ → List Entry → ℕ → Formula
read_to zero es i = falsum
read_to (suc depth) es i = of_entry (read_to depth es) (slice_index_or es i False)

-- operands are lower, so that a depth of i + 1 reads all of entry i
unfoldable pub formula_at : List Entry → ℕ → Formula
formula_at es i = read_to (suc i) es i

-- the formulas of all entries, by number
unfoldable pub decoded : List Entry → List Formula
decoded es = map (formula_at es) (range_with_len 0 (length es))

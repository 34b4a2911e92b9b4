-- What a formula list holds.
use Rattle.std.specs.Prelude.{List}
use Rattle.logic.specs.Formula.{Formula}
use Rattle.formulas.specs.declared.entry.Entry.{Entry}
use Rattle.formulas.specs.declared.list.FormulaList.{FormulaList}
use Rattle.formulas.specs.Decode.{decoded}

-- its entries, by number
abbrev pub entries_of : FormulaList → List Entry
entries_of l = l.table

-- its formulas, by number
abbrev pub formulas_of : FormulaList → List Formula
formulas_of l = decoded (entries_of l)

-- The model that a case of the program stands for.
use Rattle.formulas.specs.Listed.{formulas_of}
use Rattle.model.specs.Case.{Case}
use Rattle.cases.specs.declared.case.Case as declared
use Rattle.cases.specs.declared.stage.open.Open.{Open}
use Rattle.cases.specs.declared.stage.sealed.Sealed.{Sealed}

-- its formulas and assumptions, and what it holds at its stage
unfoldable pub modelled : {S : Type 0} {stage : _} → declared.Case S stage → Case
modelled {stage = stage} c = record {
  formulas = formulas_of c.formulas;
  assumptions = c.assumptions;
  lines = (stage.held c.stage).lines;
  refutations = (stage.held c.stage).refutations;
}

-- that of a case at a given stage
abbrev pub opened : {stage : _} → declared.Case Open stage → Case
opened c = modelled c

abbrev pub sealed : {stage : _} → declared.Case Sealed stage → Case
sealed c = modelled c

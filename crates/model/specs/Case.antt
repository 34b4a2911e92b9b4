-- A case as a model: its formulas as trees, and what refers to them by their numbers.
use Rattle.std.specs.Prelude.{ℕ, List, []}
use Rattle.logic.specs.Formula.{Formula}
use Rattle.model.specs.declared.line.Line.{Line}
use Rattle.model.specs.declared.refutation.Refutation.{Refutation}

-- an assumption is a formula's number
pub record Case : Type 0 where
  pub formulas : List Formula
  pub assumptions : List ℕ
  pub lines : List Line
  pub refutations : List Refutation

-- a new case
abbrev pub empty : Case
empty = record { formulas = []; assumptions = []; lines = []; refutations = [] }

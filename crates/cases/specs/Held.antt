-- What a case holds at its stage.
use Rattle.std.specs.Prelude.{List, []}
use Rattle.model.specs.declared.line.Line.{Line}
use Rattle.model.specs.declared.refutation.Refutation.{Refutation}

pub record Held : Type 0 where
  pub lines : List Line
  pub refutations : List Refutation

abbrev pub nothing_held : Held
nothing_held = record { lines = []; refutations = [] }

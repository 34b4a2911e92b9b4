-- What a case keeps to after every history.
use Rattle.std.specs.Prelude.{◌≡◌, ℕ, ◌<◌, ◌≤◌, ◌⊎◌, List, length, Some}
use Rattle.std.specs.List.{slice_get}
use Rattle.logic.specs.Formula.{Formula}
use Rattle.lists.specs.Adding.{Distinct}
use Rattle.model.specs.declared.line.Line.{Line}
use Rattle.model.specs.declared.refutation.Refutation.{Refutation}
use Rattle.model.specs.Case.{Case}
use Rattle.model.specs.Describes.{Number, Describes}

-- each formula of a list is described by a kind and two fields, so its operands are in the list and its atoms are at most 31
abbrev pub Closed : List Formula → Type 0
Closed fs = (n : ℕ) (A : Formula) → Number fs n A → (kind : ℕ) × (left : ℕ) × (right : ℕ) × Describes fs kind left right A

-- where fs are the formulas, each assumption is the number of an entered formula
abbrev pub AssumptionsEntered : List Formula → List ℕ → Type 0
AssumptionsEntered fs ks = (k f : ℕ) → slice_get ks k ≡ Some f → f < length fs

-- and so is the formula of each line
abbrev pub LinesEntered : List Formula → List Line → Type 0
LinesEntered fs ls = (n : ℕ) (l : Line) → slice_get ls n ≡ Some l → l.formula < length fs

-- each place of a line is empty, or the number of an earlier line
abbrev pub PlacesEarlier : List Line → Type 0
PlacesEarlier ls = (n : ℕ) (l : Line) → slice_get ls n ≡ Some l → (k : ℕ) → (l.first ≡ Some k) ⊎ (l.second ≡ Some k) → k < n

-- all that a case keeps to
pub record Limits (c : Case) : Type 0 where
  pub formulas_distinct : Distinct c.formulas
  pub formulas_few : length c.formulas ≤ 1024
  pub formulas_closed : Closed c.formulas
  pub assumptions_distinct : Distinct c.assumptions
  pub assumptions_few : length c.assumptions ≤ 16
  pub assumptions_entered : AssumptionsEntered c.formulas c.assumptions
  pub lines_few : length c.lines ≤ 512
  pub lines_entered : LinesEntered c.formulas c.lines
  pub places_earlier : PlacesEarlier c.lines
  pub refutations_few : length c.refutations ≤ 64
  pub refutations_entered : (n : ℕ) (x : Refutation) → slice_get c.refutations n ≡ Some x → x.formula < length c.formulas
  pub refutations_within : (n : ℕ) (x : Refutation) → slice_get c.refutations n ≡ Some x → x.position < 256

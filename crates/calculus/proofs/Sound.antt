-- What is derived holds on each run on which the assumptions do.
use Rattle.std.proofs.Common.{◌≡◌, ℕ, zero, suc, ◌<◌, List, Some, Option, arith}
use Rattle.std.specs.List.{slice_get}
use Rattle.logic.specs.Formula.{Formula}
use Rattle.logic.specs.Run.{Run}
use Rattle.logic.specs.Truth.{Throughout}
use Rattle.lists.specs.Adding.{Member}
use Rattle.calculus.specs.Pages.{Given}
use Rattle.calculus.specs.Derivations.{DerivationLine, PremiseOf, no_premise, on_earlier, Justified, by_assumption, by_rule, by_derived_rule}
use Rattle.calculus.specs.Promises.{DerivationsSound}
use Rattle.calculus.proofs.Lawful.{gives_lawful, derived_gives_lawful}

module _ (r : Run) (steps : List DerivationLine) where
  -- the formulas of the lines before line n hold throughout
  abbrev HoldBefore : ℕ → Type 0
  HoldBefore n = (k : ℕ) (s : DerivationLine) → k < n → slice_get steps k ≡ Some s → Throughout r s.formula

  -- so do the premises on them
  given : {n : ℕ} {place : Option ℕ} {P : Option Formula} → PremiseOf steps n place P → HoldBefore n → Given r P
  given no_premise before = tt
  given (on_earlier k s earlier is) before = before k s earlier is

  module _ (assumptions : List Formula) (hold : (A : Formula) → Member assumptions A → Throughout r A) where
    line_holds : {n : ℕ} {s : DerivationLine} → Justified assumptions steps n s → HoldBefore n → Throughout r s.formula
    line_holds (by_assumption rule first second k is) before = hold _ (k, is)
    line_holds (by_rule P Q first second gives) before = gives_lawful gives r (given first before) (given second before)
    line_holds (by_derived_rule P Q first second derives) before = derived_gives_lawful derives r (given first before) (given second before)

    all_hold : ((n : ℕ) (s : DerivationLine) → slice_get steps n ≡ Some s → Justified assumptions steps n s) → (n : ℕ) → HoldBefore n
    all_hold justified zero k s before is = absurd (omega arith)
    all_hold justified (suc n) k s before is = line_holds (justified k s is) (λ j t earlier at. all_hold justified n j t (omega arith) at)

pub derivations_sound : DerivationsSound
derivations_sound D r hold s is = all_hold r D.steps D.assumptions hold D.justified (suc is.0) is.0 s (omega arith) is.1

-- Runs that keep the assumptions of a case, what follows from these, and what breaks a formula.
use Rattle.std.specs.Prelude.{◌≡◌, ℕ, List, Some}
use Rattle.std.specs.List.{slice_get}
use Rattle.logic.specs.Formula.{Formula}
use Rattle.logic.specs.Run.{Run}
use Rattle.logic.specs.Truth.{Holds, Throughout}
use Rattle.model.specs.declared.line.Line.{Line}
use Rattle.model.specs.declared.refutation.Refutation.{Refutation}
use Rattle.model.specs.Describes.{Number}

module _ (fs : List Formula) (ks : List ℕ) where
  -- where fs are the formulas and ks the assumptions, by their numbers, A is assumed at place k
  pub record Assumes (k : ℕ) (A : Formula) : Type 0 where
    pub number : ℕ
    pub assumed : slice_get ks k ≡ Some number
    pub numbered : Number fs number A

  -- every assumption holds throughout the run
  abbrev pub Keeps : Run → Type 0
  Keeps r = (k : ℕ) (A : Formula) → Assumes k A → Throughout r A

  -- the formula with the number f holds throughout every run that keeps the assumptions
  pub record Follows (f : ℕ) : Type 0 where
    pub formula : Formula
    pub numbered : Number fs f formula
    pub holds : (r : Run) → Keeps r → Throughout r formula

  -- the formulas of all these lines follow from the assumptions
  abbrev pub LinesFollow : List Line → Type 0
  LinesFollow ls = (n : ℕ) (l : Line) → slice_get ls n ≡ Some l → ∥ Follows l.formula ∥₁

  -- a run keeps the assumptions, and the formula with the number f does not hold at its position i
  pub record Breaks (r : Run) (f i : ℕ) : Type 0 where
    pub keeps : Keeps r
    pub formula : Formula
    pub numbered : Number fs f formula
    pub fails : Holds r formula i → ⊥

  -- each of these refutations has a run that keeps the assumptions and breaks its formula at its position
  abbrev pub HaveRuns : List Refutation → Type 0
  HaveRuns xs = (n : ℕ) (x : Refutation) → slice_get xs n ≡ Some x → ∥ ((r : Run) × Breaks r x.formula x.position) ∥₁

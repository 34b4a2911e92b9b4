-- More formulas leave it as it is what follows from the assumptions, and which runs keep them and break a formula.
use Rattle.std.proofs.Common.{◌≡◌, ℕ, ◌<◌, List, length, Some, sym, ◌∙◌, subst}
use mathlib.Core.Logic.{∥∥₁_map}
use Rattle.std.specs.List.{slice_get}
use Rattle.logic.specs.Formula.{Formula}
use Rattle.logic.specs.Run.{Run}
use Rattle.lists.proofs.Members.{some_same, nth_there}
use Rattle.model.specs.Describes.{Number}
use Rattle.model.specs.declared.line.Line.{Line}
use Rattle.model.specs.declared.refutation.Refutation.{Refutation}
use Rattle.model.specs.Breaking.{Assumes, Keeps, Follows, LinesFollow, Breaks, HaveRuns}

module _ (fs gs : List Formula) (ks : List ℕ) (more : (n : ℕ) (A : Formula) → Number fs n A → Number gs n A)
    (entered : (k a : ℕ) → slice_get ks k ≡ Some a → a < length fs) where
  -- an assumption is the same formula in both lists
  assumed_before : (k : ℕ) (A : Formula) → Assumes gs ks k A → Assumes fs ks k A
  assumed_before k A s =
      let p = nth_there fs s.number (entered k s.number s.assumed) in
      let same_formula : p.0 ≡ A = some_same (sym (more s.number p.0 p.1) ∙ s.numbered) in
      record { number = s.number; assumed = s.assumed; numbered = subst (Number fs s.number) same_formula p.1 }

  keeps_before : (r : Run) → Keeps gs ks r → Keeps fs ks r
  keeps_before r keeps k A s = keeps k A (record { number = s.number; assumed = s.assumed; numbered = more s.number A s.numbered })

  pub follows_kept : (f : ℕ) → Follows fs ks f → Follows gs ks f
  follows_kept f w = record {
    formula = w.formula;
    numbered = more f w.formula w.numbered;
    holds = λ r keeps. w.holds r (keeps_before r keeps);
  }

  pub lines_follow_kept : (ls : List Line) → LinesFollow fs ks ls → LinesFollow gs ks ls
  lines_follow_kept ls follow n l is = ∥∥₁_map (follow n l is) (follows_kept l.formula)

  pub breaks_kept : (r : Run) (f i : ℕ) → Breaks fs ks r f i → Breaks gs ks r f i
  breaks_kept r f i b = record {
    keeps = λ k A s. b.keeps k A (assumed_before k A s);
    formula = b.formula;
    numbered = more f b.formula b.numbered;
    fails = b.fails;
  }

  pub have_runs_kept : (xs : List Refutation) → HaveRuns fs ks xs → HaveRuns gs ks xs
  have_runs_kept xs runs n x is = ∥∥₁_map (runs n x is) (λ p. (p.0, breaks_kept p.0 x.formula x.position p.1))

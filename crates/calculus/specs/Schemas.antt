-- Schemas of rules: their atoms are letters, and stand for any formulas.
use Rattle.std.specs.Prelude.{ℕ, Bool, true, false, ◌&&◌, Some, None, Option, ◌==◌, if◌then◌else◌}
use Rattle.std.specs.Option.{option_map, option_or, unwrap_or}
use Rattle.logic.specs.Formula.{Formula, falsum, atom, implies, next, always}
use Rattle.logic.specs.Same.{left, right, same}
use Rattle.calculus.specs.declared.verdict.Verdict.{Verdict}
use Rattle.calculus.specs.declared.verdict.Verdict.TheVariants.{Admitted, NotAdmitted}

-- what a rule concludes, and from which premises; one that it does not use is missing
pub record RuleSchema : Type 0 where
  pub conclusion : Formula
  pub first : Option Formula
  pub second : Option Formula

-- the letters
abbrev pub A : Formula
A = atom 0

abbrev pub B : Formula
B = atom 1

abbrev pub C : Formula
C = atom 2

-- a formula with a formula in the place of each letter
abbrev pub filled : (ℕ → Formula) → Formula → Formula
filled s falsum = falsum
filled s (atom a) = s a
filled s (implies X Y) = implies (filled s X) (filled s Y)
filled s (next X) = next (filled s X)
filled s (always X) = always (filled s X)

-- the part of X where the letter a first stands in a formula, if it does
abbrev pub part_at : ℕ → Formula → Formula → Option Formula
part_at a falsum X = None
part_at a (atom b) X = if a == b then Some X else None
part_at a (implies Y Z) X = option_or (part_at a Y (left X)) (part_at a Z (right X))
part_at a (next Y) X = part_at a Y (left X)
part_at a (always Y) X = part_at a Y (left X)

-- the same of a premise, which may be missing
abbrev pub premise_part : ℕ → Option Formula → Option Formula → Option Formula
premise_part a (Some Y) (Some X) = part_at a Y X
premise_part a Y P = None

-- what stands for each letter of a schema in a conclusion and its premises; falsum where nothing does
abbrev pub letters_of : RuleSchema → Formula → Option Formula → Option Formula → ℕ → Formula
letters_of h X P Q a =
    unwrap_or (option_or (part_at a h.conclusion X) (option_or (premise_part a h.first P) (premise_part a h.second Q))) falsum

-- two premises, which may be missing, are the same
abbrev pub same_premise : Option Formula → Option Formula → Bool
same_premise None None = true
same_premise (Some X) (Some Y) = same X Y
same_premise P Q = false

-- a conclusion and its premises are what a schema makes of what stands in them for its letters
abbrev pub is_instance : RuleSchema → Formula → Option Formula → Option Formula → Bool
is_instance h X P Q =
    let s : ℕ → Formula = letters_of h X P Q in
    same (filled s h.conclusion) X && (same_premise (option_map (filled s) h.first) P && same_premise (option_map (filled s) h.second) Q)

abbrev pub admitted_if : Bool → Verdict
admitted_if b = if b then Admitted else NotAdmitted

-- what a rule's schema says, and another verdict where it has none
abbrev pub by_schema : Option RuleSchema → Verdict → Formula → Option Formula → Option Formula → Verdict
by_schema None other X P Q = other
by_schema (Some h) other X P Q = admitted_if (is_instance h X P Q)

-- The published page: the axioms and rules 1 to 7, with tautologies of at most twelve prime parts.
use Rattle.std.specs.Prelude.{ℕ, ◌&&◌, List, [], ◌∷◌, length, Some, None, ◌==◌, nat_eq, nat_le, is_none, if◌then◌else◌}
use Rattle.std.specs.Map.{lookup}
use Rattle.logic.specs.Formula.{Formula, implies, next, always}
use Rattle.calculus.specs.declared.verdict.Verdict.{Verdict}
use Rattle.calculus.specs.declared.verdict.Verdict.TheVariants.{NotAdmitted, BeyondLimit}
use Rattle.calculus.specs.PrimeParts.{prime_parts, is_tautology}
use Rattle.calculus.specs.Rules.{Ltl1, Ltl2, Ltl3}
use Rattle.calculus.specs.Schemas.{RuleSchema, A, B, admitted_if, by_schema}
use Rattle.calculus.specs.Pages.{Verdicts}

abbrev pub ltl1 : RuleSchema
ltl1 = record { conclusion = Ltl1 A; first = None; second = None }

abbrev pub ltl2 : RuleSchema
ltl2 = record { conclusion = Ltl2 A B; first = None; second = None }

abbrev pub ltl3 : RuleSchema
ltl3 = record { conclusion = Ltl3 A; first = None; second = None }

abbrev pub mp : RuleSchema
mp = record { conclusion = B; first = Some A; second = Some (implies A B) }

abbrev pub nex : RuleSchema
nex = record { conclusion = next A; first = Some A; second = None }

abbrev pub ind : RuleSchema
ind = record { conclusion = implies A (always B); first = Some (implies A B); second = Some (implies A (next A)) }

-- the schemas of the rules with a number, all but tautologies, which have none
abbrev pub published_schemas : List (ℕ × RuleSchema)
published_schemas = (2, ltl1) ∷ (3, ltl2) ∷ (4, ltl3) ∷ (5, mp) ∷ (6, nex) ∷ (7, ind) ∷ []

-- what the page says of a formula as a tautology
abbrev pub taut_verdict : Formula → Verdict
taut_verdict X = if nat_le (length (prime_parts X)) 12 then admitted_if (is_tautology X) else BeyondLimit

unfoldable pub published : Verdicts
published rule X P Q =
    if rule == 1 then (if is_none P && is_none Q then taut_verdict X else NotAdmitted)
    else by_schema (lookup (nat_eq rule) published_schemas) NotAdmitted X P Q

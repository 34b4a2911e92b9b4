-- The derived page over another: the rules 16 to 19, and all others as on the page below.
use Rattle.std.specs.Prelude.{ℕ, List, [], ◌∷◌, Some, None, nat_eq}
use Rattle.std.specs.Map.{lookup}
use Rattle.logic.specs.Formula.{implies, next, always}
use Rattle.logic.specs.Abbreviations.{eventually}
use Rattle.calculus.specs.Schemas.{RuleSchema, A, B, C, by_schema}
use Rattle.calculus.specs.Pages.{Verdicts}

abbrev pub alw : RuleSchema
alw = record { conclusion = always A; first = Some A; second = None }

abbrev pub ind1 : RuleSchema
ind1 = record { conclusion = implies A (always A); first = Some (implies A (next A)); second = None }

abbrev pub som : RuleSchema
som = record { conclusion = implies A (eventually B); first = Some (implies A (next B)); second = None }

abbrev pub chain : RuleSchema
chain = record { conclusion = implies A (eventually C); first = Some (implies A (eventually B)); second = Some (implies B (eventually C)) }

-- the schemas of the rules with a number
abbrev pub derived_schemas : List (ℕ × RuleSchema)
derived_schemas = (16, alw) ∷ (17, ind1) ∷ (18, som) ∷ (19, chain) ∷ []

unfoldable pub derived : Verdicts → Verdicts
derived below rule X P Q = by_schema (lookup (nat_eq rule) derived_schemas) (below rule X P Q) X P Q

-- Calls that are made one after another, after a history.
use Rattle.std.specs.Prelude.{◌≡◌, List, [], ◌∷◌}
use Rattle.refusals.specs.declared.Refusal.{Refusal}
use Rattle.model.specs.History.{Stage, Call, History, then, after, Refused}

-- calls made after a history, up to the first that is refused, which is made too, make another history. This is `Leads` with the calls kept: where calls lead from the case after a history to another case, they make a longer history that ends in that case, by the constructors in the same order
pub data Makes (s : Stage) : History s → List (Call s) → History s → Type 0 where
  nothing_made : {h : History s} → Makes s h [] h
  refused_made : {h : History s} {x : Call s} {xs : List (Call s)} (e : Refusal) → Refused (after h) x e → Makes s h (x ∷ xs) (then h x)
  answered_made : {h g : History s} {x : Call s} {xs : List (Call s)} → ((e : Refusal) → Refused (after h) x e → ⊥) → Makes s (then h x) xs g → Makes s h (x ∷ xs) g

-- and they make no other one
abbrev pub OneMade : Type 0
OneMade = (s : Stage) (h : History s) (xs : List (Call s)) (g k : History s) → Makes s h xs g → Makes s h xs k → g ≡ k

-- The rows that calls leave in the scratch words.
use Rattle.std.specs.Prelude.{ℕ, ◌<◌, List, [], ◌∷◌, length, Some, None, Option}
use Rattle.refusals.specs.declared.Refusal.{Refusal}
use Rattle.logic.specs.Formula.{Formula}
use Rattle.logic.specs.Run.{Run}
use Rattle.row_writer.specs.RowsAlong.{with_rows}
use Rattle.model.specs.Case.{Case}
use Rattle.model.specs.Outcomes.{Judgeable}
use Rattle.model.specs.History.{Stage, sealed_stage, Call, truth, refute, after_call, Refused}

-- a call writes the rows of all formulas along its run, whatever it then answers
pub data WritesRows (c : Case) : (s : Stage) → Call s → Run → Type 0 where
  truth_writes : {s : Stage} {r : Run} {f i n : ℕ} → Judgeable c r f i n → WritesRows c s (truth r f i n) r
  refute_writes : {r : Run} {f i n : ℕ} → Judgeable c r f i n → length c.refutations < 64 → WritesRows c sealed_stage (refute r f i n) r

-- of calls made one after another on a case, up to the first that is refused, the last that writes rows, if one does: its run, and the formulas at that time
pub data LastRows (s : Stage) : Case → List (Call s) → Option (Run × List Formula) → Type 0 where
  no_call : {c : Case} → LastRows s c [] None
  refused_writing : {c : Case} {x : Call s} {xs : List (Call s)} {r : Run} (e : Refusal) → Refused c x e → WritesRows c s x r → LastRows s c (x ∷ xs) (Some (r, c.formulas))
  refused_unwritten : {c : Case} {x : Call s} {xs : List (Call s)} (e : Refusal) → Refused c x e → ((r : Run) → WritesRows c s x r → ⊥) → LastRows s c (x ∷ xs) None
  answered_before : {c : Case} {x : Call s} {xs : List (Call s)} {last : Run × List Formula} → ((e : Refusal) → Refused c x e → ⊥)
      → LastRows s (after_call c x) xs (Some last) → LastRows s c (x ∷ xs) (Some last)
  answered_writing : {c : Case} {x : Call s} {xs : List (Call s)} {r : Run} → ((e : Refusal) → Refused c x e → ⊥)
      → WritesRows c s x r → LastRows s (after_call c x) xs None → LastRows s c (x ∷ xs) (Some (r, c.formulas))
  answered_unwritten : {c : Case} {x : Call s} {xs : List (Call s)} → ((e : Refusal) → Refused c x e → ⊥)
      → ((r : Run) → WritesRows c s x r → ⊥) → LastRows s (after_call c x) xs None → LastRows s c (x ∷ xs) None

-- scratch words that hold such rows, or are as they were where there are none
abbrev pub with_last : Option (Run × List Formula) → List ℕ → List ℕ
with_last None words = words
with_last (Some last) words = with_rows last.0 last.1 words

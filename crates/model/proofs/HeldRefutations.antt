-- What every history keeps of refutations.
use Rattle.std.proofs.Common.{◌≡◌, ℕ, List, Some, sym, ◌∙◌, subst, inl, inr}
use Rattle.std.specs.List.{slice_get}
use Rattle.refusals.specs.declared.Refusal.TheVariants.{RefutationNotHeld}
use Rattle.logic.specs.Formula.{Formula}
use Rattle.logic.specs.Run.{Run}
use Rattle.logic.specs.Truth.{Holds}
use Rattle.lists.proofs.Members.{some_same, some_not_none}
use Rattle.lists.proofs.Growing.{grown_keeps, grown_brings, grown_same}
use Rattle.model.specs.declared.refutation.Refutation.{Refutation}
use Rattle.model.specs.Case.{Case}
use Rattle.model.specs.Breaking.{Breaks}
use Rattle.model.specs.Limits.{AssumptionsEntered}
use Rattle.model.specs.History.{Stage, open_stage, sealed_stage, Call, form, refute, History, new, then, then_seal, after_call, after, HeldRefutation, refutation_last, refutation_earlier}
use Rattle.model.specs.Promises.{RefutationsHeld, RefutationsHaveRuns}
use Rattle.model.proofs.Changes.{Answered, BringsRefutation, changes}
use Rattle.model.proofs.Reading.{Exactly, reads, reads_none}
use Rattle.model.proofs.Kept.{breaks_kept}
use Rattle.model.proofs.Refuted.{refute_gives, refute_breaks}
use Rattle.model.proofs.Histories.{call_keeps_formulas, sealed_assumes_nothing, formulas_from, formed_there, assumed_there, limits_kept}

-- a refutation of f at i
abbrev at : ℕ → ℕ → Refutation
at f i = record { formula = f; position = i }

-- a refutation is held by a number, with some run
abbrev HeldSome : (s : Stage) → History s → ℕ → Refutation → Type 0
HeldSome s h n y = (r : Run) × HeldRefutation s h n y.formula y.position r

-- no call on an open case holds one
none_brought : (c : Case) (x : Call open_stage) (y : Refutation) → BringsRefutation c x y → ⊥
none_brought c (form kind left right) y brought = brought
none_brought c x y brought = brought

no_refutation_open : (h : History open_stage) (n : ℕ) (y : Refutation) → slice_get (after h).refutations n ≡ Some y → ⊥
no_refutation_open new n y is = some_not_none (sym is)
no_refutation_open (then h x) n y is =
    no_refutation_open h n y (subst (λ (ys : List Refutation). slice_get ys n ≡ Some y) (grown_same (changes (after h) x).refutations (λ m z b. none_brought (after h) x z b.1)) is)

held_now : {s : Stage} (h : History s) (x : Call s) (n : ℕ) (y : Refutation) → Answered (after h) x n → BringsRefutation (after h) x y → HeldSome s (then h x) n y
held_now h (refute r f i words) n y is brought = rw (← brought.0) (r, refutation_last is)
held_now h x n y is brought = absurd brought

held_from : (s : Stage) (h : History s) (n : ℕ) (y : Refutation) → slice_get (after h).refutations n ≡ Some y → HeldSome s h n y
held_from s new n y is = absurd (some_not_none (sym is))
held_from s (then h x) n y is = elim (grown_brings (changes (after h) x).refutations n y is) [
  | inl old ↦ let p = held_from s h n y old in (p.0, refutation_earlier p.1)
  | inr now ↦ held_now h x n y now.1.0 now.1.1
]
held_from s (then_seal h) n y is = absurd (no_refutation_open h n y is)

pub held_there : (s : Stage) (h : History s) (n f i : ℕ) (r : Run) → HeldRefutation s h n f i r → slice_get (after h).refutations n ≡ Some (at f i)
held_there s h n f i r (refutation_last {h = before} {words = words} is) = refute_gives (after before) r f i words n is
held_there s h n f i r (refutation_earlier {h = before} {x = x} p) = grown_keeps (changes (after before) x).refutations n (at f i) (held_there s before n f i r p)

pub refutations_exactly : (s : Stage) (h : History s) → Exactly (after h).refutations (HeldSome s h)
refutations_exactly s h = record { from = held_from s h; there = λ n y p. held_there s h n y.formula y.position p.0 p.1 }

pub refutations_held : RefutationsHeld
refutations_held s h n =
    let none = reads_none (refutations_exactly s h) n RefutationNotHeld in (
      λ f i. reads (refutations_exactly s h) n RefutationNotHeld (at f i),
      (λ is f i r held. none.0 is (at f i) (r, held), λ none_held. none.1 (λ y p. none_held y.formula y.position p.0 p.1)),
    )

-- a run goes on breaking a formula in every call on a sealed case
breaks_after : (c : Case) (x : Call sealed_stage) → AssumptionsEntered c.formulas c.assumptions → (r : Run) (f i : ℕ)
    → Breaks c.formulas c.assumptions r f i → Breaks (after_call c x).formulas (after_call c x).assumptions r f i
breaks_after c x entered r f i b =
    rw (sealed_assumes_nothing c x) (breaks_kept c.formulas (after_call c x).formulas c.assumptions (call_keeps_formulas sealed_stage c x) entered r f i b)

-- the run of a held refutation breaks its formula
pub refutation_breaks : (s : Stage) (h : History s) (n f i : ℕ) (r : Run) → HeldRefutation s h n f i r → Breaks (after h).formulas (after h).assumptions r f i
refutation_breaks open_stage h n f i r p = absurd (no_refutation_open h n (at f i) (held_there open_stage h n f i r p))
refutation_breaks sealed_stage h n f i r (refutation_last {h = before} {words = words} is) =
    let entered = (limits_kept sealed_stage before).assumptions_entered in
    breaks_after (after before) (refute r f i words) entered r f i (refute_breaks (after before) r f i words n is entered)
refutation_breaks sealed_stage h n f i r (refutation_earlier {h = before} {x = x} p) =
    breaks_after (after before) x (limits_kept sealed_stage before).assumptions_entered r f i (refutation_breaks sealed_stage before n f i r p)

pub refutations_have_runs : RefutationsHaveRuns
refutations_have_runs s h n f i r held =
    let b = refutation_breaks s h n f i r held in (
      λ k a A assumed formed. b.keeps k A (record { number = a; assumed = assumed_there s h k a assumed; numbered = formed_there s h a A formed }),
      (b.formula, formulas_from s h f b.formula b.numbered),
      λ A formed holds.
          let same_formula : b.formula ≡ A = some_same (sym b.numbered ∙ formed_there s h f A formed) in
          b.fails (subst (λ (B : Formula). Holds r B i) (sym same_formula) holds),
    )

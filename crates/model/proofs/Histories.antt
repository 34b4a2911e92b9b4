-- What every history keeps of formulas and assumptions, and its limits.
use Rattle.std.proofs.Common.{◌≡◌, ℕ, ◌<◌, ◌⊎◌, length, Some, Option, true, sym, ◌∙◌, subst, inl, inr, arith}
use Rattle.std.specs.List.{slice_get}
use Rattle.std.proofs.lemmas.Bool.{and_parts, ltb-true}
use Rattle.refusals.specs.declared.Refusal.{Refusal}
use Rattle.refusals.proofs.Answers.{ok_not_err}
use Rattle.logic.specs.Formula.{Formula}
use Rattle.lists.proofs.Members.{some_not_none}
use Rattle.lists.proofs.Growing.{grown_keeps, grown_brings, grown_same, grown_longer, grown_within, grown_distinct, grown_every}
use Rattle.model.specs.declared.line.Line.{Line}
use Rattle.model.specs.declared.refutation.Refutation.{Refutation}
use Rattle.model.specs.Case.{Case}
use Rattle.model.specs.Lines.{place_held}
use Rattle.model.specs.Describes.{Number, Describes}
use Rattle.model.specs.History.{Stage, open_stage, sealed_stage, Call, form, assume, truth, line, refute, History, new, then, then_seal, after_call, after, Refused, Formed, formed_last, formed_earlier, formed_before_seal, Assumed, assumed_last, assumed_earlier, assumed_before_seal}
use Rattle.model.specs.Outcomes.{Absent}
use Rattle.model.specs.Limits.{Limits}
use Rattle.model.specs.Promises.{RefusalsChangeNothing, FormulasFormed, AssumptionsAssumed, EntriesTell, LimitsKept}
use Rattle.model.proofs.Describing.{describes_kept}
use Rattle.model.proofs.Entries.{entry_describes, describes_entry}
use Rattle.model.proofs.Reading.{Exactly}
use Rattle.model.proofs.Changes.{Answered, BringsFormula, BringsAssumption, BringsLine, BringsRefutation, changes, form_gives, assume_gives}

-- ---- a refused call

not_both : {s : Stage} (c : Case) (x : Call s) (e : Refusal) (n : ℕ) → Refused c x e → Answered c x n → ⊥
not_both c (form kind left right) e n refused answered = ok_not_err (sym answered ∙ refused)
not_both c (assume f) e n refused answered = ok_not_err (sym answered ∙ refused)
not_both c (truth r f i words) e n refused answered = answered
not_both c (line page l) e n refused answered = ok_not_err (sym answered ∙ refused)
not_both c (refute r f i words) e n refused answered = ok_not_err (sym answered ∙ refused)

pub refusals_change_nothing : RefusalsChangeNothing
refusals_change_nothing s c x e refused =
    let d = changes c x in
    let formulas = grown_same d.formulas (λ n y brought. not_both c x e n refused brought.0) in
    let assumptions = grown_same d.assumptions (λ n y brought. not_both c x e n refused brought.0) in
    let lines = grown_same d.lines (λ n y brought. not_both c x e n refused brought.0) in
    let refutations = grown_same d.refutations (λ n y brought. not_both c x e n refused brought.0) in
    λ i. record { formulas = formulas i; assumptions = assumptions i; lines = lines i; refutations = refutations i }

-- ---- formulas

pub call_keeps_formulas : (s : Stage) (c : Case) (x : Call s) (n : ℕ) (A : Formula) → Number c.formulas n A → Number (after_call c x).formulas n A
call_keeps_formulas s c x = grown_keeps (changes c x).formulas

formed_now : {s : Stage} (h : History s) (x : Call s) (n : ℕ) (A : Formula) → Answered (after h) x n → BringsFormula (after h) x A → Formed s (then h x) n A
formed_now h (form kind left right) n A is brought = formed_last is brought.0
formed_now h x n A is brought = absurd brought

pub formulas_from : (s : Stage) (h : History s) (n : ℕ) (A : Formula) → Number (after h).formulas n A → Formed s h n A
formulas_from s new n A is = absurd (some_not_none (sym is))
formulas_from s (then h x) n A is = elim (grown_brings (changes (after h) x).formulas n A is) [
  | inl old ↦ formed_earlier (formulas_from s h n A old)
  | inr now ↦ formed_now h x n A now.1.0 now.1.1
]
formulas_from s (then_seal h) n A is = formed_before_seal (formulas_from open_stage h n A is)

pub formed_there : (s : Stage) (h : History s) (n : ℕ) (A : Formula) → Formed s h n A → Number (after h).formulas n A
formed_there s h n A (formed_last {h = before} {kind = kind} {left = left} {right = right} is d) = form_gives (after before) kind left right n A is d
formed_there s h n A (formed_earlier {h = before} {x = x} f) = call_keeps_formulas s (after before) x n A (formed_there s before n A f)
formed_there s h n A (formed_before_seal {h = before} f) = formed_there open_stage before n A f

pub formulas_exactly : (s : Stage) (h : History s) → Exactly (after h).formulas (Formed s h)
formulas_exactly s h = record { from = formulas_from s h; there = formed_there s h }

pub formulas_formed : FormulasFormed
formulas_formed s h n A = (formulas_from s h n A, formed_there s h n A)

-- ---- assumptions

assumed_now : {s : Stage} (h : History s) (x : Call s) (k f : ℕ) → Answered (after h) x k → BringsAssumption (after h) x f → Assumed s (then h x) k f
assumed_now h (assume g) k f is brought = subst (λ (y : ℕ). Assumed open_stage (then h (assume g)) k y) brought.0 (assumed_last is)
assumed_now h x k f is brought = absurd brought

pub assumptions_from : (s : Stage) (h : History s) (k f : ℕ) → slice_get (after h).assumptions k ≡ Some f → Assumed s h k f
assumptions_from s new k f is = absurd (some_not_none (sym is))
assumptions_from s (then h x) k f is = elim (grown_brings (changes (after h) x).assumptions k f is) [
  | inl old ↦ assumed_earlier (assumptions_from s h k f old)
  | inr now ↦ assumed_now h x k f now.1.0 now.1.1
]
assumptions_from s (then_seal h) k f is = assumed_before_seal (assumptions_from open_stage h k f is)

pub assumed_there : (s : Stage) (h : History s) (k f : ℕ) → Assumed s h k f → slice_get (after h).assumptions k ≡ Some f
assumed_there s h k f (assumed_last {h = before} is) = assume_gives (after before) f k is
assumed_there s h k f (assumed_earlier {h = before} {x = x} a) = grown_keeps (changes (after before) x).assumptions k f (assumed_there s before k f a)
assumed_there s h k f (assumed_before_seal {h = before} a) = assumed_there open_stage before k f a

pub assumptions_exactly : (s : Stage) (h : History s) → Exactly (after h).assumptions (Assumed s h)
assumptions_exactly s h = record { from = assumptions_from s h; there = assumed_there s h }

pub assumptions_assumed : AssumptionsAssumed
assumptions_assumed s h k f = (assumptions_from s h k f, assumed_there s h k f)

-- at the sealed stage no call brings an assumption
none_assumed : (c : Case) (x : Call sealed_stage) (f : ℕ) → BringsAssumption c x f → ⊥
none_assumed c (form kind left right) f brought = brought
none_assumed c x f brought = brought

pub sealed_assumes_nothing : (c : Case) (x : Call sealed_stage) → (after_call c x).assumptions ≡ c.assumptions
sealed_assumes_nothing c x = grown_same (changes c x).assumptions (λ k f brought. none_assumed c x f brought.1)

-- ---- limits

-- what a call brings is described, is in the list, and keeps to the limits
formula_brought : {s : Stage} (c : Case) (x : Call s) (A : Formula) → BringsFormula c x A
    → Absent c.formulas A × (length c.formulas < 1024) × ((kind : ℕ) × (left : ℕ) × (right : ℕ) × Describes c.formulas kind left right A)
formula_brought c (form kind left right) A brought = (brought.1, brought.2, (kind, left, right, brought.0))
formula_brought c x A brought = absurd brought

assumption_brought : {s : Stage} (c : Case) (x : Call s) (f : ℕ) → BringsAssumption c x f → (f < length c.formulas) × Absent c.assumptions f × (length c.assumptions < 16)
assumption_brought c (assume g) f brought = (brought.1, brought.2, brought.3)
assumption_brought c x f brought = absurd brought

-- the places of a line are numbers of lines that are held
abbrev PlacesHeld : Case → Line → Type 0
PlacesHeld c l = (k : ℕ) → (l.first ≡ Some k) ⊎ (l.second ≡ Some k) → k < length c.lines

place_below : (c : Case) (p : Option ℕ) → place_held c p ≡ true → (k : ℕ) → p ≡ Some k → k < length c.lines
place_below c p held k is = ltb-true k (length c.lines) (subst (λ (q : Option ℕ). place_held c q ≡ true) is held)

line_brought : {s : Stage} (c : Case) (x : Call s) (l : Line) → BringsLine c x l → (l.formula < length c.formulas) × PlacesHeld c l × (length c.lines < 512)
line_brought c (line page k) l (is, can) =
    let (first, second) = and_parts (place_held c l.first) (place_held c l.second) can.placed in
    (can.entered, λ k at. elim at [ inl is ↦ place_below c l.first first k is | inr is ↦ place_below c l.second second k is ], can.room)
line_brought c x l brought = absurd brought

refutation_brought : {s : Stage} (c : Case) (x : Call s) (y : Refutation) → BringsRefutation c x y → (y.formula < length c.formulas) × (y.position < 256) × (length c.refutations < 64)
refutation_brought c (refute r f i words) y (is, can, room) = rw (← is) (can.entered, omega (arith, can.short, can.within), room)
refutation_brought c x y brought = absurd brought

-- so a call keeps to the limits
pub limits_after : {s : Stage} (c : Case) (x : Call s) → Limits c → Limits (after_call c x)
limits_after c x l =
    let d = changes c x in
    let longer = grown_longer d.formulas in
    record {
      formulas_distinct = grown_distinct d.formulas (λ n A b. (formula_brought c x A b.1).0) l.formulas_distinct;
      formulas_few = grown_within d.formulas 1024 (λ n A b. (formula_brought c x A b.1).1) l.formulas_few;
      formulas_closed = λ n A is. elim (grown_brings d.formulas n A is) [
        | inl old ↦ let (kind, left, right, described) = l.formulas_closed n A old in (kind, left, right, describes_kept (grown_keeps d.formulas) described)
        | inr now ↦ let (kind, left, right, described) = (formula_brought c x A now.1.1).2 in (kind, left, right, describes_kept (grown_keeps d.formulas) described)
      ];
      assumptions_distinct = grown_distinct d.assumptions (λ k f b. (assumption_brought c x f b.1).1) l.assumptions_distinct;
      assumptions_few = grown_within d.assumptions 16 (λ k f b. (assumption_brought c x f b.1).2) l.assumptions_few;
      assumptions_entered = grown_every d.assumptions (λ f. f < length (after_call c x).formulas)
          (λ k f b. omega (arith, longer, (assumption_brought c x f b.1).0)) (λ k f is. omega (arith, longer, l.assumptions_entered k f is));
      lines_few = grown_within d.lines 512 (λ n k b. (line_brought c x k b.1).2) l.lines_few;
      lines_entered = grown_every d.lines (λ k. k.formula < length (after_call c x).formulas)
          (λ n k b. omega (arith, longer, (line_brought c x k b.1).0)) (λ n k is. omega (arith, longer, l.lines_entered n k is));
      places_earlier = λ n m is k at. elim (grown_brings d.lines n m is) [
        | inl old ↦ l.places_earlier n m old k at
        | inr now ↦ omega (arith, now.0, (line_brought c x m now.1.1).1 k at)
      ];
      refutations_few = grown_within d.refutations 64 (λ n y b. (refutation_brought c x y b.1).2) l.refutations_few;
      refutations_entered = grown_every d.refutations (λ y. y.formula < length (after_call c x).formulas)
          (λ n y b. omega (arith, longer, (refutation_brought c x y b.1).0)) (λ n y is. omega (arith, longer, l.refutations_entered n y is));
      refutations_within = grown_every d.refutations (λ y. y.position < 256) (λ n y b. (refutation_brought c x y b.1).1) l.refutations_within;
    }

pub limits_kept : LimitsKept
limits_kept s new = record {
  formulas_distinct = λ i j i_lt j_in. absurd (omega arith);
  formulas_few = omega arith;
  formulas_closed = λ n A is. absurd (some_not_none (sym is));
  assumptions_distinct = λ i j i_lt j_in. absurd (omega arith);
  assumptions_few = omega arith;
  assumptions_entered = λ k f is. absurd (some_not_none (sym is));
  lines_few = omega arith;
  lines_entered = λ n l is. absurd (some_not_none (sym is));
  places_earlier = λ n l is. absurd (some_not_none (sym is));
  refutations_few = omega arith;
  refutations_entered = λ n x is. absurd (some_not_none (sym is));
  refutations_within = λ n x is. absurd (some_not_none (sym is));
}
limits_kept s (then h x) = limits_after (after h) x (limits_kept s h)
limits_kept s (then_seal h) = limits_kept open_stage h

pub entries_tell : EntriesTell
entries_tell s h n e = (
  λ is.
      let p = entry_describes (after h) (limits_kept s h) n e is in
      (p.0, formulas_from s h n p.0 p.1, p.2),
  λ p. describes_entry (after h) (limits_kept s h) n e p.0 (formed_there s h n p.0 p.1) p.2,
)

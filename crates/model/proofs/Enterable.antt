-- A derivation that keeps to the limits of a case can be entered: its formulas are formed one after another, its assumptions assumed, and its lines entered.
use Rattle.std.proofs.Common.{◌≡◌, ℕ, zero, suc, ◌<◌, ◌≤◌, List, [], ◌∷◌, ◌++◌, length, take, Some, sym, refl, ap, ◌∙◌, subst, inl, inr, arith, take-suc, take_all, length-take-le}
use Rattle.std.specs.List.{slice_get}
use Rattle.std.proofs.lemmas.Bool.{cases_lt}
use Rattle.std.proofs.lemmas.List.{length_push}
use Rattle.std.proofs.lemmas.Option.{get_or_from_slice_get}
use Rattle.logic.specs.Formula.{Formula}
use Rattle.calculus.specs.Pages.{Page}
use Rattle.calculus.specs.Derivations.{DerivationLine, Derivation}
use Rattle.lists.proofs.Members.{some_same, some_not_none, nth_within, nth_there, nth_push}
use Rattle.lists.proofs.Growing.{grown_keeps, grown_same}
use Rattle.model.specs.Calls.{Outcome}
use Rattle.model.specs.Case.{Case}
use Rattle.model.specs.Describes.{Number, Describes, false_kind, atom_kind, implies_kind, next_kind, always_kind}
use Rattle.model.specs.Outcomes.{Absent, FormEnds, unknown_kind, bad_field, formula_there, formulas_full, formula_entered, AssumeEnds, not_entered, assumption_there, assumptions_full, newly_assumed}
use Rattle.model.specs.History.{open_stage, sealed_stage, form, assume, line, History, new, then, then_seal, after, Formed}
use Rattle.model.specs.Entering.{Publishes, Ready, entered_as, Entering, not_begun, next_line, WithinLimits}
use Rattle.model.specs.Promises.{DerivationsCanBeEntered}
use Rattle.model.proofs.Describing.{describes_one}
use Rattle.model.proofs.Exact.{form_exact, assume_exact}
use Rattle.model.proofs.Changes.{changes}
use Rattle.model.proofs.Histories.{formulas_from, assumptions_from}
use Rattle.model.proofs.HeldLines.{no_line_open, line_there}
use Rattle.model.proofs.Derivations.{formed_still, entered_held}

-- ---- one call

known_kind : {fs : List Formula} {kind left right : ℕ} {A : Formula} → Describes fs kind left right A → kind ≤ 4
known_kind false_kind = omega arith
known_kind (atom_kind a small) = omega arith
known_kind (implies_kind l r A B left right) = omega arith
known_kind (next_kind l A left) = omega arith
known_kind (always_kind l A left) = omega arith

-- a new formula that is described is entered, if there is room
new_entered : (c : Case) (kind left right : ℕ) (A : Formula) → Describes c.formulas kind left right A → Absent c.formulas A → length c.formulas < 1024
    → {o : Outcome ℕ} → FormEnds c kind left right o → o.after.formulas ≡ c.formulas ++ A ∷ []
new_entered c kind left right A d none room (unknown_kind above) = absurd (omega (arith, known_kind d, above))
new_entered c kind left right A d none room (bad_field known undescribed) = absurd (undescribed A d)
new_entered c kind left right A d none room (formula_there B b n there) = absurd (none n (there ∙ ap Some (describes_one c.formulas kind left right B A b d)))
new_entered c kind left right A d none room (formulas_full B b absent full) = absurd (omega (arith, room, full))
new_entered c kind left right A d none room (formula_entered B b absent few) =
    ap (λ (X : Formula). c.formulas ++ X ∷ []) (describes_one c.formulas kind left right B A b d)

-- an entered formula is then assumed, if there is room, and there is at most one more assumption
now_assumed : (c : Case) (f : ℕ) → f < length c.formulas → length c.assumptions < 16 → {o : Outcome ℕ} → AssumeEnds c f o
    → (j : ℕ) × (slice_get o.after.assumptions j ≡ Some f) × (length o.after.assumptions ≤ suc (length c.assumptions))
now_assumed c f f_in room (not_entered past) = absurd (omega (arith, f_in, past))
now_assumed c f f_in room (assumption_there known k there) = (k, there, omega arith)
now_assumed c f f_in room (assumptions_full known absent full) = absurd (omega (arith, room, full))
now_assumed c f f_in room (newly_assumed known absent few) = (length c.assumptions, nth_push c.assumptions f, omega (arith, length_push c.assumptions f))

-- a member of the first n members of a list
taken : {X : Type 0} (n : ℕ) (xs : List X) (k : ℕ) {x : X} → slice_get (take n xs) k ≡ Some x → (k < n) × (slice_get xs k ≡ Some x)
taken zero xs k is = absurd (some_not_none (sym is))
taken (suc n) [] k is = absurd (some_not_none (sym is))
taken (suc n) (y ∷ ys) zero is = (omega arith, is)
taken (suc n) (y ∷ ys) (suc k) is = let p = taken n ys k is in (omega (arith, p.0), p.1)

-- ---- all calls

module _ (D : Derivation) (fs : List Formula) (limits : WithinLimits D fs) where
  -- a history that formed the first n formulas of the list
  record FirstFormed (n : ℕ) : Type 0 where
    pub history : History open_stage
    pub formulas : (after history).formulas ≡ take n fs
    pub none_assumed : length (after history).assumptions ≡ 0

  form_next : (n : ℕ) → n < length fs → FirstFormed n → FirstFormed (suc n)
  form_next n within b =
      let c = after b.history in
      let A = nth_there fs n within in
      let p = limits.parts_before n A.0 A.1 in
      let d = subst (λ (gs : List Formula). Describes gs p.0 p.1 p.2 A.0) (sym b.formulas) p.3 in
      let absent : Absent c.formulas A.0 = λ k is.
      let q = taken n fs k (subst (λ (gs : List Formula). slice_get gs k ≡ Some A.0) b.formulas is) in
      limits.distinct k n q.0 within (q.1 ∙ sym A.1)
      in
      let room : length c.formulas < 1024 = omega (arith, ap length b.formulas, length-take-le n fs (omega arith), limits.few, within) in
      let exact = form_exact c p.0 p.1 p.2 in
      record {
        history = then b.history (form p.0 p.1 p.2);
        formulas = new_entered c p.0 p.1 p.2 A.0 d absent room exact
            ∙ ap (λ (gs : List Formula). gs ++ A.0 ∷ []) b.formulas
            ∙ ap (λ (X : Formula). take n fs ++ X ∷ []) (sym (get_or_from_slice_get fs n A.0 A.0 A.1))
            ∙ sym (take-suc fs n A.0 within);
        none_assumed = ap length (grown_same (changes {s = open_stage} c (form p.0 p.1 p.2)).assumptions (λ k g brought. brought.1)) ∙ b.none_assumed;
      }

  first_formed : (n : ℕ) → n ≤ length fs → FirstFormed n
  first_formed zero within = record { history = new; formulas = refl; none_assumed = refl }
  first_formed (suc n) within = form_next n (omega arith) (first_formed n (omega arith))

  -- a history that formed all formulas of the list and assumed the first n assumptions
  record FirstAssumed (n : ℕ) : Type 0 where
    pub history : History open_stage
    pub formulas : (after history).formulas ≡ fs
    pub few : length (after history).assumptions ≤ n
    pub assumed : (k : ℕ) (A : Formula) → k < n → slice_get D.assumptions k ≡ Some A
        → (j : ℕ) × (f : ℕ) × (slice_get (after history).assumptions j ≡ Some f) × Number fs f A

  all_formed : FirstAssumed 0
  all_formed =
      let b = first_formed (length fs) (omega arith) in
      record {
        history = b.history;
        formulas = b.formulas ∙ take_all (length fs) fs (omega arith);
        few = omega (arith, b.none_assumed);
        assumed = λ k A before at. absurd (omega (arith, before));
      }

  assume_next : (n : ℕ) → n < length D.assumptions → FirstAssumed n → FirstAssumed (suc n)
  assume_next n within b =
      let c = after b.history in
      let A = nth_there D.assumptions n within in
      let f = limits.has_assumptions n A.0 A.1 in
      let f_in : f.0 < length c.formulas = omega (arith, ap length b.formulas, nth_within fs f.0 f.1) in
      let exact = assume_exact c f.0 in
      let now = now_assumed c f.0 f_in (omega (arith, b.few, within, limits.few_assumptions)) exact in
      record {
        history = then b.history (assume f.0);
        formulas = grown_same (changes c (assume f.0)).formulas (λ m B brought. brought.1) ∙ b.formulas;
        few = omega (arith, now.2, b.few);
        assumed = λ k B before at. elim (cases_lt k n) [
          | inl earlier ↦ let p = b.assumed k B earlier at in (p.0, p.1, grown_keeps (changes c (assume f.0)).assumptions p.0 p.1 p.2, p.3)
          | inr from ↦
              let here : k ≡ n = omega (arith, before, from) in
              let same_formula : A.0 ≡ B = some_same (sym A.1 ∙ subst (λ (m : ℕ). slice_get D.assumptions m ≡ Some B) here at) in
              (now.0, f.0, now.1, subst (Number fs f.0) same_formula f.1)
        ];
      }

  first_assumed : (n : ℕ) → n ≤ length D.assumptions → FirstAssumed n
  first_assumed zero within = all_formed
  first_assumed (suc n) within = assume_next n (omega arith) (first_assumed n (omega arith))

  -- after all of these and a seal, the case is ready
  abbrev before_seal : FirstAssumed (length D.assumptions)
  before_seal = first_assumed (length D.assumptions) (omega arith)

  start : History sealed_stage
  start = then_seal before_seal.history

  start_formed : (f : ℕ) (A : Formula) → Number fs f A → Formed sealed_stage start f A
  unfolding start
  start_formed f A is = formulas_from sealed_stage start f A (subst (λ (gs : List Formula). Number gs f A) (sym before_seal.formulas) is)

  start_ready : Ready D start
  unfolding start
  start_ready = record {
    no_lines = λ n l held. no_line_open before_seal.history n l (line_there sealed_stage start n l held);
    short = limits.short;
    few_parts = limits.few_parts;
    assumptions = λ k A at.
        let p = before_seal.assumed k A (nth_within D.assumptions k at) at in
        (p.0, p.1, assumptions_from sealed_stage start p.0 p.1 p.2, start_formed p.1 A p.3);
  }

  module _ (page : Page) (publishes : (n : ℕ) (s : DerivationLine) → slice_get D.steps n ≡ Some s → Publishes page s.rule) where
    -- a history that entered the first n lines after it
    record FirstEntered (n : ℕ) : Type 0 where
      pub history : History sealed_stage
      pub entering : Entering D start n history

    enter_next : (n : ℕ) → n < length D.steps → FirstEntered n → FirstEntered (suc n)
    enter_next n within b =
        let s = nth_there D.steps n within in
        let f = limits.has_lines n s.0 s.1 in
        let formed = formed_still D start b.entering f.0 s.0.formula (start_formed f.0 s.0.formula f.1) in
        record {
          history = then b.history (line page (entered_as f.0 s.0));
          entering = next_line b.entering s.0 s.1 page (publishes n s.0 s.1) f.0 formed;
        }

    first_entered : (n : ℕ) → n ≤ length D.steps → FirstEntered n
    first_entered zero within = record { history = start; entering = not_begun }
    first_entered (suc n) within = enter_next n (omega arith) (first_entered n (omega arith))

pub derivations_can_be_entered : DerivationsCanBeEntered
derivations_can_be_entered D fs limits page publishes =
    let b = first_entered D fs limits page publishes (length D.steps) (omega arith) in
    let ready = start_ready D fs limits in
    (start D fs limits, ready, b.history, b.entering, λ n s at. entered_held D (start D fs limits) ready (length D.steps) b.history b.entering n s (nth_within D.steps n at) at)

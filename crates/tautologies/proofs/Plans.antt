-- How a plan grows, entry by entry.
use Rattle.std.proofs.Common.{◌≡◌, ℕ, ◌+◌, ◌<◌, ◌≤◌, List, [], ◌∷◌, ◌++◌, length, get_or, set, Bool, Some, sym, ap, ap₂, ◌∙◌, subst, inl, inr, arith, get_or-set_other, get_or-set_same, length-set}
use Rattle.std.specs.List.{slice_get}
use Rattle.std.proofs.lemmas.Bool.{cases_eq}
use Rattle.std.proofs.lemmas.List.{length_push}
use Rattle.formulas.specs.declared.entry.Entry.{Entry}
use Rattle.formulas.specs.declared.entry.Entry.TheVariants.{False, Implies}
use Rattle.lists.proofs.Members.{some_not_none, nth_within, nth_append_left, nth_push, nth_pushed}
use Rattle.tautologies.specs.declared.step.Step.{Step}
use Rattle.tautologies.specs.Gathering.{Entered, Gathered, Marked}
use Rattle.tautologies.proofs.Marks.{formula_is, lower_operands}
use Rattle.tautologies.specs.Planning.{place_of, PlannedBelow}

-- entry n is no implication
abbrev pub Simple : List Entry → ℕ → Type 0
Simple es n = (a b : ℕ) → get_or es n False ≡ Implies a b → ⊥

module _ (es : List Entry) (entered : Entered es) (seen : List Bool) (parts : List ℕ) (g : Gathered es seen parts) (places : List ℕ) (steps : List Step) where
  -- at first there are no steps, and the places are those of the parts, or that of false
  pub started : steps ≡ [] → length places ≡ 1024 → ((k n : ℕ) → slice_get parts k ≡ Some n → place_of places n ≡ k)
      → ((n : ℕ) → ((k : ℕ) → slice_get parts k ≡ Some n → ⊥) → place_of places n ≡ 12) → ((n : ℕ) → place_of places n ≤ 12) → PlannedBelow es seen parts 0 steps places
  started none long its others small = record {
    long = long;
    few = omega (arith, ap (length {A = Step}) none);
    lower = λ j s it. absurd (some_not_none (sym it ∙ ap (λ (ss : List Step). slice_get ss j) none));
    within = λ n m. omega (arith, small n);
    part_at = λ k n it simple. its k n it;
    false_at = λ n m is. others n (λ k it. (g.met k n it).1 (formula_is es entered n (g.entered n m) False is));
    step_at = λ n a b before m is. absurd (omega arith);
  }

  -- an entry without a step adds nothing
  pub passed : (n : ℕ) → (Marked seen n → Simple es n) → PlannedBelow es seen parts n steps places → PlannedBelow es seen parts (n + 1) steps places
  passed n simple so = record {
    long = so.long;
    few = omega (arith, so.few);
    lower = so.lower;
    within = so.within;
    part_at = so.part_at;
    false_at = so.false_at;
    step_at = λ m a b before marked is. elim (cases_eq m n) [
      | inl e ↦ absurd (simple (subst (Marked seen) e marked) a b (subst (λ (k : ℕ). get_or es k False ≡ Implies a b) e is))
      | inr ne ↦ so.step_at m a b (omega (arith, ne)) marked is
    ];
  }

  -- the same, of a plan that is equal
  pub same : (n : ℕ) → (qs : List ℕ) (ts : List Step) → qs ≡ places → ts ≡ steps → PlannedBelow es seen parts n steps places → PlannedBelow es seen parts n ts qs
  same n qs ts p s so = subst (λ (xs : List ℕ). PlannedBelow es seen parts n ts xs) (sym p) (subst (λ (ys : List Step). PlannedBelow es seen parts n ys places) (sym s) so)

  -- an implication adds its step
  module _ (n a b : ℕ) (marked : Marked seen n) (is : get_or es n False ≡ Implies a b) (so : PlannedBelow es seen parts n steps places) where
    abbrev own : Step
    own = record { left = place_of places a; right = place_of places b }

    abbrev at : ℕ
    at = 13 + length steps

    abbrev more : List ℕ
    more = set places n at

    there : n < length es
    there = g.entered n marked

    room : n < length places
    room = omega (arith, so.long, there, entered.within)

    here : place_of more n ≡ at
    here = get_or-set_same places n at 12 room

    other : (m : ℕ) → (m ≡ n → ⊥) → place_of more m ≡ place_of places m
    other m ne = get_or-set_other places n m at 12 ne

    -- of entries before it nothing has moved
    step_same : (c d : ℕ) → c < n → d < n → ◌≡◌ {A = Step} (record { left = place_of places c; right = place_of places d }) (record { left = place_of more c; right = place_of more d })
    step_same c d lc ld = λ i. record { left = sym (other c (λ e. omega arith)) i; right = sym (other d (λ e. omega arith)) i }

    pub added : PlannedBelow es seen parts (n + 1) (steps ++ own ∷ []) more
    added =
        let low = lower_operands es entered n a b there is in
        let both = g.closed n a b marked is in
        let long : length (steps ++ own ∷ []) ≡ length steps + 1 = length_push steps own in
        record {
          long = length-set places n at ∙ so.long;
          few = omega (arith, so.few, long);
          lower = λ j s it. elim (nth_pushed steps own j s it) [
            | inl old ↦ so.lower j s old
            | inr (last, same) ↦
                subst (λ (t : Step). (t.left < 13 + j) × (t.right < 13 + j)) same
                (omega (arith, so.within a both.0, last), omega (arith, so.within b both.1, last))
          ];
          within = λ m mm. elim (cases_eq m n) [
            | inl e ↦ omega (arith, long, subst (λ (k : ℕ). place_of more k ≡ at) (sym e) here)
            | inr ne ↦ omega (arith, long, other m ne, so.within m mm)
          ];
          part_at = λ k m it simple. other m (λ e. simple a b (subst (λ (i : ℕ). get_or es i False ≡ Implies a b) (sym e) is)) ∙ so.part_at k m it simple;
          false_at = λ m mm it. other m (λ e. let wrong : ◌≡◌ {A = Entry} False (Implies a b) = sym it ∙ ap (λ (i : ℕ). get_or es i False) e ∙ is in cc) ∙ so.false_at m mm it;
          step_at = λ m c d before mm it. elim (cases_eq m n) [
            | inl e ↦
                let same : ◌≡◌ {A = Entry} (Implies a b) (Implies c d) = sym is ∙ ap (λ (i : ℕ). get_or es i False) (sym e) ∙ it in
                let left : a ≡ c = cc in
                let right : b ≡ d = cc in (
                  length steps,
                  ap (place_of more) e ∙ here,
                  nth_push steps own ∙ ap Some (step_same a b low.0 low.1 ∙ ap₂ (λ x y. record { left = place_of more x; right = place_of more y }) left right),
                )
            | inr ne ↦
                let (j, placed_at, has) = so.step_at m c d (omega (arith, ne)) mm it in
                let its = lower_operands es entered m c d (g.entered m mm) it in (
                  j,
                  other m ne ∙ placed_at,
                  nth_append_left steps (own ∷ []) j (nth_within steps j has) ∙ has ∙ ap Some (step_same c d (omega (arith, its, before)) (omega (arith, its, before))),
                )
          ];
        }

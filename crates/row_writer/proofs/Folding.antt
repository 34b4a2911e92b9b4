-- What is true along a run folds at its loop, so that the rows of the parts give the row of the whole.
use Rattle.std.proofs.Common.{◌≡◌, ℕ, zero, suc, ◌+◌, ◌-◌, ◌<◌, ◌≤◌, min, Bool, false, cond, not, ◌&&◌, ◌||◌, ltb, List, sym, ap, ◌∙◌, subst, ap₂, ⊎_elim, arith}
use Rattle.std.proofs.Math.Bool.{and-false}
use Rattle.std.specs.Cmp as cmp
use Rattle.std.proofs.lemmas.Bool.{cases_lt, lt-ltb, le-ltb, and_left}
use Rattle.logic.specs.Formula.{Formula, falsum, atom, implies, next, always}
use Rattle.logic.specs.Run.{Run}
use Rattle.logic.specs.Truth.{Holds}
use Rattle.logic.specs.Decide.{truth}
use Rattle.logic.proofs.Decided.{decides}
use Rattle.logic.proofs.Periodic.{turn}
use Rattle.runs.specs.SourceSays.{source_says}
use Rattle.rows.specs.Row.{bit, row_of, true_from, after}
use Rattle.rows.proofs.Rows.{row_of_same, true_from_true, true_from_at}
use Rattle.row_writer.specs.RowsAlong.{truth_row}
use Rattle.row_writer.specs.Steps.{implies_row, next_row, always_row}

-- what a row says up to the loop's end is a formula's truth there
abbrev pub RowTells : Run → Formula → List ℕ → Type 0
RowTells r A row = (i : ℕ) → i < r.stem + r.loop → bit row i ≡ truth r A i

-- a row that is masked at the loop's end is a formula's row, if it agrees up to there
masked : (r : Run) (A : Formula) (f : ℕ → Bool) → ((i : ℕ) → i < r.stem + r.loop → f i ≡ truth r A i)
    → row_of (λ i. ltb i (r.stem + r.loop) && f i) ≡ truth_row r A
unfolding truth_row
masked r A f same = row_of_same _ _ (λ i _. ⊎_elim
    (λ (l : i < r.stem + r.loop). ap (λ b. ltb i (r.stem + r.loop) && b) (same i l))
    (λ (l : r.stem + r.loop ≤ i). and_left (ltb i (r.stem + r.loop)) (f i) (le-ltb i (r.stem + r.loop) l)
    ∙ sym (and_left (ltb i (r.stem + r.loop)) (truth r A i) (le-ltb i (r.stem + r.loop) l)))
    (cases_lt i (r.stem + r.loop)))

-- one loop on, what is true is as it was
truth_turns : (r : Run) (A : Formula) (i : ℕ) → r.stem ≤ i → truth r A (i + r.loop) ≡ truth r A i
truth_turns r A i s = cmp.both_ways (truth r A (i + r.loop)) (truth r A i)
    (λ t. (decides r A i).1 ((turn r A i s).0 ((decides r A (i + r.loop)).0 t))) (λ t. (decides r A (i + r.loop)).1 ((turn r A i s).1 ((decides r A i).0 t)))

-- what holds from a place in the stem up to the loop's end holds ever after
far : (r : Run) (A : Formula) (low : ℕ) → low ≤ r.stem → ((j : ℕ) → low ≤ j → j < r.stem + r.loop → Holds r A j)
    → (d j : ℕ) → j < d → low ≤ j → Holds r A j
far r A low h near zero j l le = absurd (omega arith)
far r A low h near (suc d) j l le =
    ⊎_elim (λ (q : j < r.stem + r.loop). near j le q)
    (λ (q : r.stem + r.loop ≤ j).
    let e : j - r.loop + r.loop ≡ j = omega arith in
    let back : Holds r A (j - r.loop) = far r A low h near d (j - r.loop) (omega (arith, r.turns)) (omega arith) in
    subst (Holds r A) e ((turn r A (j - r.loop) (omega arith)).1 back))
    (cases_lt j (r.stem + r.loop))

pub false_folds : (r : Run) → row_of (λ i. false) ≡ truth_row r falsum
unfolding truth_row
false_folds r = row_of_same _ _ (λ i _. sym (and-false (ltb i (r.stem + r.loop))))

pub atom_folds : (r : Run) (a : ℕ) → a < 32 → row_of (source_says r a) ≡ truth_row r (atom a)
unfolding source_says truth_row
atom_folds r a h = row_of_same _ _ (λ i _. ap (λ b. (b && ltb i (r.stem + r.loop)) && r.says a i) (lt-ltb a 32 h))

pub implies_folds : (r : Run) (A B : Formula) (a b : List ℕ) → RowTells r A a → RowTells r B b → implies_row r a b ≡ truth_row r (implies A B)
implies_folds r A B a b ta tb = masked r (implies A B) _ (λ i l. ap₂ (λ x y. not x || y) (ta i l) (tb i l))

pub next_folds : (r : Run) (A : Formula) (a : List ℕ) → RowTells r A a → next_row r a ≡ truth_row r (next A)
next_folds r A a ta = masked r (next A) _ step
  where
    step : (i : ℕ) → i < r.stem + r.loop → bit a (after r.stem (r.stem + r.loop) i) ≡ truth r A (i + 1)
    step i l = ⊎_elim
        (λ (q : i + 1 < r.stem + r.loop). ap (λ b. bit a (cond b (i + 1) r.stem)) (lt-ltb (i + 1) (r.stem + r.loop) q) ∙ ta (i + 1) q)
        (λ (q : r.stem + r.loop ≤ i + 1).
        let e : r.stem + r.loop ≡ i + 1 = omega arith in
        ap (λ b. bit a (cond b (i + 1) r.stem)) (le-ltb (i + 1) (r.stem + r.loop) q)
        ∙ ta r.stem (omega (arith, r.turns)) ∙ sym (truth_turns r A r.stem (omega arith)) ∙ ap (truth r A) e)
        (cases_lt (i + 1) (r.stem + r.loop))

pub always_folds : (r : Run) (A : Formula) (a : List ℕ) → RowTells r A a → always_row r a ≡ truth_row r (always A)
always_folds r A a ta = masked r (always A) _ step
  where
    step : (i : ℕ) → i < r.stem + r.loop → true_from (r.stem + r.loop - min i r.stem) (min i r.stem) (bit a) ≡ truth r (always A) i
    step i l = cmp.both_ways _ (truth r (always A) i)
        (λ t. (decides r (always A) i).1 (λ j low. far r A (min i r.stem) (omega arith)
        (λ k le q. (decides r A k).0 (sym (ta k q) ∙ true_from_at (bit a) (min i r.stem) (r.stem + r.loop - min i r.stem) k t le (omega arith)))
        (suc j) j (omega arith) (omega arith)))
        (λ t. true_from_true (bit a) (min i r.stem) (r.stem + r.loop - min i r.stem)
        (λ k low high. ta k (omega arith) ∙ (decides r A k).1
        (⊎_elim (λ (q : k < i). (turn r A k (omega arith)).0 ((decides r (always A) i).0 t (k + r.loop) (omega arith)))
        (λ (q : i ≤ k). (decides r (always A) i).0 t k q) (cases_lt k i))))

-- What the search for a formula that is false somewhere finds.
use Rattle.std.proofs.Common.{◌≡◌, ℕ, zero, suc, ◌+◌, ◌-◌, ◌<◌, ◌≤◌, Bool, true, false, cond, List, [], ◌∷◌, length, get_or, drop, Some, None, Option, sym, refl, ap, ◌∙◌, subst, ap₂, ⊎_elim, arith}
use Rattle.std.specs.List.{slice_get}
use Rattle.std.proofs.lemmas.Bool.{cond_both, cases_eq}
use Rattle.lists.proofs.Members.{some_same, some_not_none, nth_within}
use Rattle.row_writer.specs.Searching.{first_false_from, or_else, first_failing}

-- of the n positions from i on, k is the first at which p is false
pub record First (n i : ℕ) (p : ℕ → Bool) (k : ℕ) : Type 0 where
  pub from : i ≤ k
  pub below : k < i + n
  pub false_at : p k ≡ false
  pub true_before : (j : ℕ) → i ≤ j → j < k → p j ≡ true

-- what is so at i and after it is so from i on
here_and_behind : (p : ℕ → Bool) (i k : ℕ) → p i ≡ true → ((j : ℕ) → i + 1 ≤ j → j < k → p j ≡ true) → (j : ℕ) → i ≤ j → j < k → p j ≡ true
here_and_behind p i k here later j le lt = ⊎_elim (λ is. subst (λ (m : ℕ). p m ≡ true) is here) (λ is_not. later j (omega arith) lt) (cases_eq i j)

found_false : (n i : ℕ) (p : ℕ → Bool) (k : ℕ) → first_false_from n i p ≡ Some k → First n i p k
unfolding first_false_from
found_false zero i p k = λ e. absurd (some_not_none (sym e))
found_false (suc n) i p k = cond_both (p i) (first_false_from n (i + 1) p) (Some i) (λ o. o ≡ Some k → First (suc n) i p k)
    (λ here e.
    let f = found_false n (i + 1) p k e in
    record {
      from = omega (arith, f.from);
      below = omega (arith, f.below);
      false_at = f.false_at;
      true_before = here_and_behind p i k here f.true_before;
    })
    (λ here e.
    let is : i ≡ k = some_same e in
    record { from = omega arith; below = omega arith; false_at = subst (λ (m : ℕ). p m ≡ false) is here; true_before = λ j le lt. absurd (omega arith) })

none_false : (n i : ℕ) (p : ℕ → Bool) → first_false_from n i p ≡ None → (j : ℕ) → i ≤ j → j < i + n → p j ≡ true
unfolding first_false_from
none_false zero i p = λ e j le lt. absurd (omega arith)
none_false (suc n) i p = cond_both (p i) (first_false_from n (i + 1) p) (Some i) (λ o. o ≡ None → (j : ℕ) → i ≤ j → j < i + suc n → p j ≡ true)
    (λ here e j le lt. here_and_behind p i (i + suc n) here (λ k a b. none_false n (i + 1) p e k a (omega arith)) j le lt)
    (λ here e. absurd (some_not_none e))

-- where all is true, nothing is found
pub nothing_false : (n i : ℕ) (p : ℕ → Bool) → ((j : ℕ) → i ≤ j → j < i + n → p j ≡ true) → first_false_from n i p ≡ None
unfolding first_false_from
nothing_false zero i p all = refl
nothing_false (suc n) i p all =
    ap (λ b. cond b (first_false_from n (i + 1) p) (Some i)) (all i (omega arith) (omega arith)) ∙ nothing_false n (i + 1) p (λ j le lt. all j (omega arith) (omega arith))

first_false_same : (n i : ℕ) (p q : ℕ → Bool) → ((j : ℕ) → i ≤ j → j < i + n → p j ≡ q j) → first_false_from n i p ≡ first_false_from n i q
unfolding first_false_from
first_false_same zero i p q same = refl
first_false_same (suc n) i p q same =
    ap₂ (λ b o. cond b o (Some i)) (same i (omega arith) (omega arith)) (first_false_same n (i + 1) p q (λ j le lt. same j (omega arith) (omega arith)))

-- either the first formula fails, or a later one
or_else_some : (k : ℕ) (o : Option ℕ) (rest : Option (ℕ × ℕ)) (x : ℕ × ℕ) (C : Type 0) → or_else k o rest ≡ Some x
    → ((i : ℕ) → o ≡ Some i → k ≡ x.0 → i ≡ x.1 → C) → (o ≡ None → rest ≡ Some x → C) → C
or_else_some k None rest x C e at later = later refl e
or_else_some k (Some i) rest x C e at later =
    let is : ◌≡◌ {A = ℕ × ℕ} (k, i) x = some_same e in
    at i refl (ap (λ (y : ℕ × ℕ). y.0) is) (ap (λ (y : ℕ × ℕ). y.1) is)

or_else_none : (k : ℕ) (o : Option ℕ) (rest : Option (ℕ × ℕ)) → or_else k o rest ≡ None → (o ≡ None) × (rest ≡ None)
or_else_none k None rest e = (refl, e)
or_else_none k (Some i) rest e = absurd (some_not_none e)

module _ (true_there : ℕ → ℕ → Bool) (n : ℕ) where
  -- of the formulas with these numbers, the one at place m is the first that is false below n, and j is the first position where it is
  pub record Failing (fs : List ℕ) (m j : ℕ) : Type 0 where
    pub number : ℕ
    pub placed : slice_get fs m ≡ Some number
    pub first : First n 0 (true_there number) j
    pub earlier : (k f : ℕ) → k < m → slice_get fs k ≡ Some f → (i : ℕ) → i < n → true_there f i ≡ true

  true_below : (f : ℕ) → first_false_from n 0 (true_there f) ≡ None → (i : ℕ) → i < n → true_there f i ≡ true
  true_below f none i lt = none_false n 0 (true_there f) none i (omega arith) (omega arith)

  earlier_too : (f : ℕ) (fs : List ℕ) (m : ℕ) → first_false_from n 0 (true_there f) ≡ None
      → ((k g : ℕ) → k < m → slice_get fs k ≡ Some g → (i : ℕ) → i < n → true_there g i ≡ true)
      → (k g : ℕ) → k < suc m → slice_get (f ∷ fs) k ≡ Some g → (i : ℕ) → i < n → true_there g i ≡ true
  earlier_too f fs m none later zero g lt is = true_below g (subst (λ (x : ℕ). first_false_from n 0 (true_there x) ≡ None) (some_same is) none)
  earlier_too f fs m none later (suc k) g lt is = later k g (omega arith) is

  -- counted from place b on
  found_failing : (b : ℕ) (fs : List ℕ) (x : ℕ × ℕ) → first_failing true_there n b fs ≡ Some x → (b ≤ x.0) × Failing fs (x.0 - b) x.1
  unfolding first_failing
  found_failing b [] x e = absurd (some_not_none (sym e))
  found_failing b (f ∷ fs) x e =
      or_else_some b (first_false_from n 0 (true_there f)) (first_failing true_there n (suc b) fs) x ((b ≤ x.0) × Failing (f ∷ fs) (x.0 - b) x.1) e
      (λ i found at_b at_i.
      let here : x.0 - b ≡ 0 = omega arith in (
        omega arith,
        rw (here, ← at_i) (record { number = f; placed = refl; first = found_false n 0 (true_there f) i found; earlier = λ k g lt. absurd (omega arith) }),
      ))
      (λ none later.
      let (le, p) = found_failing (suc b) fs x later in
      let there : x.0 - b ≡ suc (x.0 - suc b) = omega arith in (
        omega arith,
        rw there (record { number = p.number; placed = p.placed; first = p.first; earlier = earlier_too f fs (x.0 - suc b) none p.earlier }),
      ))

  pub failing : (fs : List ℕ) (k j : ℕ) → first_failing true_there n 0 fs ≡ Some (k, j) → Failing fs k j
  failing fs k j e =
      let same_place : k - 0 ≡ k = omega arith in
      subst (λ (m : ℕ). Failing fs m j) same_place (found_failing 0 fs (k, j) e).1

  -- both numbers that the search answers are small
  pub found_below : (fs : List ℕ) (k j : ℕ) → first_failing true_there n 0 fs ≡ Some (k, j) → (k < length fs) × (j < n)
  found_below fs k j e =
      let p = failing fs k j e in
      (nth_within fs k p.placed, omega (arith, p.first.below))

  pub none_failing : (b : ℕ) (fs : List ℕ) → first_failing true_there n b fs ≡ None → (k f : ℕ) → slice_get fs k ≡ Some f → (i : ℕ) → i < n → true_there f i ≡ true
  unfolding first_failing
  none_failing b [] e k f is = absurd (some_not_none (sym is))
  none_failing b (g ∷ fs) e zero f is =
      let parts = or_else_none b (first_false_from n 0 (true_there g)) (first_failing true_there n (suc b) fs) e in
      true_below f (subst (λ (x : ℕ). first_false_from n 0 (true_there x) ≡ None) (some_same is) parts.0)
  none_failing b (g ∷ fs) e (suc k) f is =
      none_failing (suc b) fs (or_else_none b (first_false_from n 0 (true_there g)) (first_failing true_there n (suc b) fs) e).1 k f is

-- the search finds the same where the truths that it asks for are the same
pub first_failing_same : (t u : ℕ → ℕ → Bool) (n b : ℕ) (fs : List ℕ) → ((k f : ℕ) → slice_get fs k ≡ Some f → (i : ℕ) → i < n → t f i ≡ u f i)
    → first_failing t n b fs ≡ first_failing u n b fs
unfolding first_failing
first_failing_same t u n b [] same = refl
first_failing_same t u n b (f ∷ fs) same =
    ap₂ (or_else b) (first_false_same n 0 (t f) (u f) (λ j le lt. same 0 f refl j (omega arith)))
    (first_failing_same t u n (suc b) fs (λ k. same (suc k)))

-- ---- the search, one step at a time

module _ (n : ℕ) (p : ℕ → Bool) where
  pub false_later : (i : ℕ) → i < n → p i ≡ true → first_false_from (n - i) i p ≡ first_false_from (n - (i + 1)) (i + 1) p
  unfolding first_false_from
  false_later i lt here =
      let more : n - i ≡ suc (n - (i + 1)) = omega arith in
      ap (λ (m : ℕ). first_false_from m i p) more ∙ ap (λ b. cond b (first_false_from (n - (i + 1)) (i + 1) p) (Some i)) here

  pub false_here : (i : ℕ) → i < n → p i ≡ false → first_false_from (n - i) i p ≡ Some i
  unfolding first_false_from
  false_here i lt here =
      let more : n - i ≡ suc (n - (i + 1)) = omega arith in
      ap (λ (m : ℕ). first_false_from m i p) more ∙ ap (λ b. cond b (first_false_from (n - (i + 1)) (i + 1) p) (Some i)) here

  pub false_nowhere : (i : ℕ) → n ≤ i → first_false_from (n - i) i p ≡ None
  unfolding first_false_from
  false_nowhere i le = let none : n - i ≡ 0 = omega arith in ap (λ (m : ℕ). first_false_from m i p) none

module _ (true_there : ℕ → ℕ → Bool) (n : ℕ) where
  failing_from : (b : ℕ) (fs : List ℕ) (k : ℕ) → k < length fs
      → first_failing true_there n b (drop k fs) ≡ or_else b (first_false_from n 0 (true_there (get_or fs k 0))) (first_failing true_there n (suc b) (drop (suc k) fs))
  unfolding first_failing
  failing_from b [] k lt = absurd (omega arith)
  failing_from b (f ∷ fs) zero lt = refl
  failing_from b (f ∷ fs) (suc k) lt = failing_from b fs k (omega arith)

  failing_past : (b : ℕ) (fs : List ℕ) (k : ℕ) → length fs ≤ k → first_failing true_there n b (drop k fs) ≡ None
  unfolding first_failing
  failing_past b [] zero le = refl
  failing_past b [] (suc k) le = refl
  failing_past b (f ∷ fs) zero le = absurd (omega arith)
  failing_past b (f ∷ fs) (suc k) le = failing_past b fs k (omega arith)

  module _ (fs : List ℕ) (k : ℕ) where
    -- the formula at place k is true everywhere below n, or first false at j
    pub failing_later : k < length fs → first_false_from n 0 (true_there (get_or fs k 0)) ≡ None
        → first_failing true_there n k (drop k fs) ≡ first_failing true_there n (k + 1) (drop (k + 1) fs)
    failing_later lt none =
        let next : suc k ≡ k + 1 = omega arith in
        failing_from k fs k lt ∙ ap (λ o. or_else k o (first_failing true_there n (suc k) (drop (suc k) fs))) none ∙ ap (λ (m : ℕ). first_failing true_there n m (drop m fs)) next

    pub failing_here : k < length fs → (j : ℕ) → first_false_from n 0 (true_there (get_or fs k 0)) ≡ Some j → first_failing true_there n k (drop k fs) ≡ Some (k, j)
    failing_here lt j found = failing_from k fs k lt ∙ ap (λ o. or_else k o (first_failing true_there n (suc k) (drop (suc k) fs))) found

    pub failing_nowhere : length fs ≤ k → first_failing true_there n k (drop k fs) ≡ None
    failing_nowhere le = failing_past k fs k le

-- The rows of a formula's parts make the formula's row.
use Rattle.std.proofs.Common.{◌≡◌, ℕ, ◌+◌, ◌-◌, ◌<◌, ◌≤◌, min, Bool, true, false, cond, not, ◌&&◌, ◌||◌, eqb, ltb, List, sym, refl, ap, ◌∙◌, ap₂, ⊎_elim, arith}
use Rattle.std.proofs.Math.Bool.{and-true}
use Rattle.std.proofs.lemmas.Bool.{cases_lt, cases_eq, lt-ltb, le-ltb, eq-eqb, ne_eqb, ltb-true, and_parts, and_left, and_right, not-true, not-false}
use Rattle.rows.specs.Row.{bit, row_of, true_from, after, Ends}
use Rattle.rows.proofs.Rows.{said, row_of_same, true_from_true, true_from_false}

-- ---- implies

but_not : (m x y : Bool) → (m && not (x && not y)) ≡ (m && (not x || y))
but_not false x y = refl
but_not true false y = refl
but_not true true false = refl
but_not true true true = refl

pub implies_row : (a b m d r : List ℕ) (n : ℕ) → m ≡ row_of (λ i. ltb i n) → d ≡ row_of (λ i. bit a i && not (bit b i))
    → r ≡ row_of (λ i. bit m i && not (bit d i)) → r ≡ row_of (λ i. ltb i n && (not (bit a i) || bit b i))
implies_row a b m d r n em ed er =
    er ∙ row_of_same _ _
    (λ i h. ap₂ (λ x y. x && not y) (said m (λ i. ltb i n) em i h) (said d (λ i. bit a i && not (bit b i)) ed i h)
    ∙ but_not (ltb i n) (bit a i) (bit b i))

-- ---- true below a position

-- what is missing of a row below n ends at 0 exactly when nothing is missing
pub below_row : (row m d : List ℕ) (n e : ℕ) → n ≤ 256 → m ≡ row_of (λ i. ltb i n) → d ≡ row_of (λ i. bit m i && not (bit row i))
    → Ends d e → eqb e 0 ≡ true_from n 0 (bit row)
below_row row m d n e fits em ed ends =
    let missing : (i : ℕ) → i < 256 → bit d i ≡ (ltb i n && not (bit row i)) =
    λ i h. said d (λ i. bit m i && not (bit row i)) ed i h ∙ ap (λ x. x && not (bit row i)) (said m (λ i. ltb i n) em i h) in
    ⊎_elim
    (λ (none : e ≡ 0).
    eq-eqb e 0 none
    ∙ sym (true_from_true (bit row) 0 n
    (λ j l h. not-false (bit row j) (sym (ap (λ b. b && not (bit row j)) (lt-ltb j n (omega arith))) ∙ sym (missing j (omega arith)) ∙ ends.within j (omega arith)))))
    (λ some.
    let p : ℕ = e - 1 in
    let at : (ltb p n && not (bit row p)) ≡ true = sym (missing p (omega (arith, ends.fits, some))) ∙ ends.last p (omega (arith, some)) in
    let parts = and_parts (ltb p n) (not (bit row p)) at in
    ne_eqb e 0 some
    ∙ sym (true_from_false (bit row) 0 n p (omega arith) (omega (arith, ltb-true p n parts.0)) (not-true (bit row p) parts.1)))
    (cases_eq e 0)

-- ---- next

pub next_row : (a m e o r : List ℕ) (s n : ℕ) → s < n → n ≤ 256 → m ≡ row_of (λ i. ltb i (n - 1)) → e ≡ row_of (λ i. bit a (i + 1))
    → o ≡ row_of (λ i. bit m i && bit e i) → r ≡ row_of (λ i. bit o i || (bit a s && eqb i (n - 1)))
    → r ≡ row_of (λ i. ltb i n && bit a (after s n i))
next_row a m e o r s n h fits em ee eo er =
    er ∙ row_of_same _ _
    (λ i l. ap (λ x. x || (bit a s && eqb i (n - 1)))
    (said o (λ i. bit m i && bit e i) eo i l ∙ ap₂ (λ x y. x && y) (said m (λ i. ltb i (n - 1)) em i l) (said e (λ i. bit a (i + 1)) ee i l))
    ∙ step i)
  where
    no_more : (x y : Bool) → (x || (y && false)) ≡ x
    no_more true y = refl
    no_more false true = refl
    no_more false false = refl

    step : (i : ℕ) → ((ltb i (n - 1) && bit a (i + 1)) || (bit a s && eqb i (n - 1))) ≡ (ltb i n && bit a (cond (ltb (i + 1) n) (i + 1) s))
    step i =
        ⊎_elim
        (λ (l : i + 1 < n).
        ap₂ (λ b c. (b && bit a (i + 1)) || (bit a s && c)) (lt-ltb i (n - 1) (omega arith)) (ne_eqb i (n - 1) (λ e. omega arith))
        ∙ no_more (bit a (i + 1)) (bit a s)
        ∙ sym (ap₂ (λ b c. b && bit a (cond c (i + 1) s)) (lt-ltb i n (omega arith)) (lt-ltb (i + 1) n l)))
        (λ (l : n ≤ i + 1).
        ap (λ b. (b && bit a (i + 1)) || (bit a s && eqb i (n - 1))) (le-ltb i (n - 1) (omega arith))
        ∙ ⊎_elim
        (λ (e : i + 1 ≡ n).
        ap (λ c. bit a s && c) (eq-eqb i (n - 1) (omega arith)) ∙ and-true (bit a s)
        ∙ sym (ap₂ (λ b c. b && bit a (cond c (i + 1) s)) (lt-ltb i n (omega arith)) (le-ltb (i + 1) n l)))
        (λ ne.
        and_right (bit a s) (eqb i (n - 1)) (ne_eqb i (n - 1) (λ e. ne (omega arith)))
        ∙ sym (and_left (ltb i n) (bit a (cond (ltb (i + 1) n) (i + 1) s)) (le-ltb i n (omega (arith, ne)))))
        (cases_eq (i + 1) n))
        (cases_lt (i + 1) n)

-- ---- always

module _ (a full d : List ℕ) (s n e : ℕ) (stem : s ≤ n) (long : n ≤ 256) (is_full : full ≡ row_of (λ i. ltb i n))
    (is_d : d ≡ row_of (λ i. bit full i && not (bit a i))) (ends : Ends d e) where
  -- where a fails below n
  d_at : (i : ℕ) → i < 256 → bit d i ≡ (ltb i n && not (bit a i))
  d_at i h = said d (λ i. bit full i && not (bit a i)) is_d i h ∙ ap (λ x. x && not (bit a i)) (said full (λ i. ltb i n) is_full i h)

  -- the last place where it fails is below n
  fails : (j : ℕ) → e ≡ j + 1 → (j < n) × (bit a j ≡ false)
  fails j q =
      let both = and_parts (ltb j n) (not (bit a j)) (sym (d_at j (omega (arith, ends.fits))) ∙ ends.last j q) in
      (ltb-true j n both.0, not-true (bit a j) both.1)

  holds : (j : ℕ) → e ≤ j → j < n → bit a j ≡ true
  holds j l h =
      not-false (bit a j) (ap (λ x. x && not (bit a j)) (sym (lt-ltb j n h)) ∙ sym (d_at j (omega arith)) ∙ ends.within j l)

  pub always_none : s < e → (i : ℕ) → (ltb i n && true_from (n - min i s) (min i s) (bit a)) ≡ false
  always_none h i =
      let last = fails (e - 1) (omega arith) in
      ⊎_elim
      (λ (l : i < n).
      and_right (ltb i n) (true_from (n - min i s) (min i s) (bit a))
      (true_from_false (bit a) (min i s) (n - min i s) (e - 1) (omega arith) (omega (arith, last.0)) last.1))
      (λ (l : n ≤ i). and_left (ltb i n) (true_from (n - min i s) (min i s) (bit a)) (le-ltb i n l)) (cases_lt i n)

  pub always_some : (m r : List ℕ) → e ≤ s → m ≡ row_of (λ i. ltb i e) → r ≡ row_of (λ i. bit full i && not (bit m i))
      → r ≡ row_of (λ i. ltb i n && true_from (n - min i s) (min i s) (bit a))
  always_some m r h is_m is_r =
      is_r ∙ row_of_same _ _
      (λ i l. ap₂ (λ x y. x && not y) (said full (λ i. ltb i n) is_full i l) (said m (λ i. ltb i e) is_m i l) ∙ step i)
    where
      step : (i : ℕ) → (ltb i n && not (ltb i e)) ≡ (ltb i n && true_from (n - min i s) (min i s) (bit a))
      step i =
          ⊎_elim
          (λ (l : i < n).
          ap (λ b. ltb i n && b)
          (⊎_elim
          (λ (q : i < e).
          let last = fails (e - 1) (omega arith) in
          ap not (lt-ltb i e q)
          ∙ sym (true_from_false (bit a) (min i s) (n - min i s) (e - 1) (omega arith) (omega (arith, last.0)) last.1))
          (λ (q : e ≤ i).
          ap not (le-ltb i e q)
          ∙ sym (true_from_true (bit a) (min i s) (n - min i s) (λ j p u. holds j (omega arith) (omega arith)))) (cases_lt i e)))
          (λ (l : n ≤ i). and_left (ltb i n) (not (ltb i e)) (le-ltb i n l)
          ∙ sym (and_left (ltb i n) (true_from (n - min i s) (min i s) (bit a)) (le-ltb i n l)))
          (cases_lt i n)

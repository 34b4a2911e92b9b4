-- A list in which nothing stands twice is no longer than one that has all its members.
use Rattle.std.proofs.Common.{◌≡◌, ℕ, zero, suc, ◌-◌, ◌<◌, ◌≤◌, ◌⊎◌, List, length, sym, ◌∙◌, subst, inl, inr, arith}
use Rattle.std.specs.List.{slice_get}
use Rattle.std.proofs.lemmas.Bool.{cases_eq, cases_lt}
use Rattle.lists.specs.Adding.{Distinct, Member}
use Rattle.lists.proofs.Members.{nth_within, nth_there}

-- what is left of a relation when one value is taken out
abbrev Without : (ℕ → ℕ → Type 0) → ℕ → ℕ → ℕ → Type 0
Without R v i w = ((w < v) × R i w) ⊎ ((v ≤ w) × R i (suc w))

-- where each number below n has a value below m, and no two have the same, n is at most m
holes : (n m : ℕ) (R : ℕ → ℕ → Type 0) → ((i : ℕ) → i < n → (v : ℕ) × ((v < m) × R i v))
    → ((i j v : ℕ) → i < j → j < n → R i v → R j v → ⊥) → n ≤ m
holes zero m R value apart = omega arith
holes (suc n) m R value apart =
    let last = value n (omega arith) in
    let v : ℕ = last.0 in
    let rest = holes n (m - 1) (Without R v)
    (λ i h.
    let own = value i (omega arith) in
    elim (cases_lt own.0 v) [
      | inl low ↦ (own.0, (omega (arith, last.1.0), inl (low, own.1.1)))
      | inr high ↦ elim (cases_eq own.0 v) [
        | inl e ↦ absurd (apart i n v h (omega arith) (subst (R i) e own.1.1) last.1.1)
        | inr ne ↦
            let above : v < own.0 = omega (arith, ne) in
            let back : own.0 ≡ suc (own.0 - 1) = omega arith in
            (own.0 - 1, (omega (arith, own.1.0), inr (omega arith, subst (R i) back own.1.1)))
      ]
    ])
    (λ i j w before within one other. elim one [
      | inl low ↦ elim other [
        | inl same ↦ apart i j w before (omega arith) low.1 same.1
        | inr high ↦ absurd (omega (arith, low.0, high.0))
      ]
      | inr high ↦ elim other [
        | inl low ↦ absurd (omega (arith, low.0, high.0))
        | inr same ↦ apart i j (suc w) before (omega arith) high.1 same.1
      ]
    ]) in
    omega (arith, rest, last.1.0)

pub no_longer : {X : Type 0} (xs ys : List X) → Distinct xs → ((x : X) → Member xs x → Member ys x) → length xs ≤ length ys
no_longer {X} xs ys distinct members =
    holes (length xs) (length ys) (λ i v. slice_get xs i ≡ slice_get ys v)
    (λ i h.
    let x = nth_there xs i h in
    let y = members x.0 (i, x.1) in
    (y.0, (nth_within ys y.0 y.1, x.1 ∙ sym y.1)))
    (λ i j v before within one other. distinct i j before within (one ∙ sym other))

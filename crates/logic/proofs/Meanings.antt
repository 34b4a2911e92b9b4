-- An implication and the abbreviations mean what their names say, since what holds is decided.
use Rattle.std.proofs.Common.{◌≡◌, ℕ, zero, suc, ◌+◌, ◌-◌, ◌≤◌, Bool, true, false, ◌⊎◌, refl, inl, inr, arith}
use Rattle.std.proofs.lemmas.Bool.{cases_Bool, and_from, both_ways}
use Rattle.logic.specs.Formula.{Formula, implies, always}
use Rattle.logic.specs.Abbreviations.{not, or, and, eventually}
use Rattle.logic.specs.Run.{Run}
use Rattle.logic.specs.Truth.{Holds}
use Rattle.logic.specs.Decide.{truth, all_from}
use Rattle.logic.specs.Meanings.{Meanings}
use Rattle.logic.proofs.Decided.{decides}

module _ (r : Run) (A : Formula) (i : ℕ) where
  -- a formula holds or does not
  holds_or_not : Holds r A i ⊎ (Holds r A i → ⊥)
  holds_or_not = elim (cases_Bool (truth r A i)) [
    | inl t ↦ inl ((decides r A i).0 t)
    | inr f ↦ inr (λ h. both_ways (truth r A i) f ((decides r A i).1 h))
  ]

  -- what can't fail to hold holds
  stable : ((Holds r A i → ⊥) → ⊥) → Holds r A i
  stable h = elim holds_or_not [ inl yes_it_does ↦ yes_it_does | inr never ↦ absurd (h never) ]

-- a test that fails at one of the n places from i on, or passes at all of them
fails_somewhere : (n i : ℕ) (p : ℕ → Bool) → ((j : ℕ) × (i ≤ j) × (p j ≡ false)) ⊎ (all_from n i p ≡ true)
fails_somewhere zero i p = inr refl
fails_somewhere (suc n) i p = elim (cases_Bool (p i)) [
  | inl t ↦ elim (fails_somewhere n (i + 1) p) [
    | inl found ↦ inl (found.0, omega (arith, found.1), found.2)
    | inr all ↦ inr (and_from (p i) (all_from n (i + 1) p) t all)
  ]
  | inr f ↦ inl (i, omega arith, f)
]

module _ (r : Run) (A B : Formula) (i : ℕ) where
  implies_to : Holds r (implies A B) i → (Holds r A i → ⊥) ⊎ Holds r B i
  implies_to h = elim (holds_or_not r A i) [ inl a ↦ inr (h a) | inr never ↦ inl never ]

  implies_from : (Holds r A i → ⊥) ⊎ Holds r B i → Holds r (implies A B) i
  implies_from h = λ a. elim h [ inl never ↦ absurd (never a) | inr b ↦ b ]

  or_to : Holds r (or A B) i → Holds r A i ⊎ Holds r B i
  or_to h = elim (holds_or_not r A i) [ inl a ↦ inl a | inr never ↦ inr (h never) ]

  or_from : Holds r A i ⊎ Holds r B i → Holds r (or A B) i
  or_from h = λ never. elim h [ inl a ↦ absurd (never a) | inr b ↦ b ]

  and_to : Holds r (and A B) i → Holds r A i × Holds r B i
  and_to h = (stable r A i (λ never. h (λ a _. never a)), stable r B i (λ never. h (λ _ b. never b)))

pub eventually_to : (r : Run) (A : Formula) (i : ℕ) → Holds r (eventually A) i → (j : ℕ) × (i ≤ j) × Holds r A j
eventually_to r A i h = elim (fails_somewhere ((r.stem - i) + r.loop) i (truth r (not A))) [
  | inl found ↦ (found.0, found.1, stable r A found.0 (λ never. both_ways (truth r (not A) found.0) found.2 ((decides r (not A) found.0).1 never)))
  | inr all ↦ absurd (h ((decides r (always (not A)) i).0 all))
]

pub meanings : (r : Run) (A B : Formula) (i : ℕ) → Meanings r A B i
meanings r A B i = record {
  implies_means = (implies_to r A B i, implies_from r A B i);
  not_means = (λ h. h, λ h. h);
  or_means = (or_to r A B i, or_from r A B i);
  and_means = (and_to r A B i, λ h never. never h.0 h.1);
  iff_means = (λ h. let both = and_to r (implies A B) (implies B A) i h in (both.0, both.1), λ h never. never h.0 h.1);
  eventually_means = (eventually_to r A i, λ h never. never h.0 h.1 h.2);
}

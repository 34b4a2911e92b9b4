-- Laws of pulses in order: what each of them has, and when an atom is true.
use Rattle.std.proofs.Common.{◌≡◌, ℕ, zero, suc, ◌%◌, ◌<◌, ◌≤◌, Bool, true, false, ◌&&◌, eqb, ltb, List, [], ◌∷◌, length, get_or, All, AllPairs, Contains, refl, sym, ap, ◌∙◌, subst, ◌⊎◌, inl, inr, ⊎_elim, arith}
use native.Mathlib.Nat.{le-max_left, le-max_right}
use Rattle.std.specs.List.{list_all}
use Rattle.std.proofs.lemmas.Bool.{cases_Bool, both_ways, false_from_ne_true, cases_lt, and_parts, and_from, ltb-true, lt-ltb, eqb-true, eq-eqb}
use Rattle.std.proofs.lemmas.Bool.Decides.{nat_tests}
use Rattle.std.proofs.lemmas.List.{get_or_read_under}
use Rattle.std.proofs.lemmas.List.Folds.{list_any_at, Any-from_list_any}
use Rattle.std.proofs.lemmas.List.Kept.{AllPairs-cons}
use Rattle.std.proofs.lemmas.List.Recursion.{and_at, and_from_places}
use Rattle.runs.specs.declared.pulse.Pulse.{Pulse}
use Rattle.runs.specs.Pulses.{pulse_of, on, pulsed, latest, allowed, rising, in_order}

-- what a run may have that has a pulse
pub record Allowed (loop : ℕ) (e : Pulse) : Type 0 where
  pub atom : e.atom ≤ 31
  pub turns : 0 < e.period
  pub within : e.width ≤ e.period
  pub divides : loop % e.period ≡ 0

pub allowed_parts : (loop : ℕ) (e : Pulse) → allowed loop e ≡ true → Allowed loop e
allowed_parts loop e p =
    record { atom = grind (arith, nat_tests); turns = grind (arith, nat_tests); within = grind (arith, nat_tests); divides = grind (arith, nat_tests) }

-- each of the pulses is allowed
pub each_allowed : (loop : ℕ) (pulses : List Pulse) → in_order loop pulses ≡ true → All (Allowed loop) pulses
each_allowed loop pulses p k d l =
    allowed_parts loop (get_or pulses k d)
    (and_at (list_all (allowed loop)) (allowed loop) refl (λ _ _. refl) pulses k d l (and_parts (list_all (allowed loop) pulses) (rising pulses) p).0)

-- the atoms rise
abbrev pub Rise : List Pulse → Type 0
Rise pulses = AllPairs (λ e f. e.atom < f.atom) pulses

-- whether one pulse's atom is below another's
abbrev below : Pulse → Pulse → Bool
below e f = ltb e.atom f.atom

pub rise : (pulses : List Pulse) → rising pulses ≡ true → Rise pulses
rise [] p = λ i j d l h. absurd (omega arith)
rise (e ∷ es) p =
    let parts = and_parts (list_all (below e) es) (rising es) p in
    AllPairs-cons (λ e f. e.atom < f.atom) e es
    (λ k d l. ltb-true e.atom (get_or es k d).atom (and_at (list_all (below e)) (below e) refl (λ _ _. refl) es k d l parts.0)) (rise es parts.1)

pub rising_from : (pulses : List Pulse) → Rise pulses → rising pulses ≡ true
rising_from [] up = refl
rising_from (e ∷ es) up =
    and_from _ _
    (and_from_places (list_all (below e)) (below e) refl (λ _ _. refl) es e (λ k l. lt-ltb e.atom (get_or es k e).atom (up 0 (suc k) e (omega arith) (omega arith))))
    (rising_from es (λ i j d l h. up (suc i) (suc j) d (omega arith) (omega arith)))

pub rise_in_order : (loop : ℕ) (pulses : List Pulse) → in_order loop pulses ≡ true → Rise pulses
rise_in_order loop pulses p = rise pulses (and_parts (list_all (allowed loop) pulses) (rising pulses) p).1

pub orders : (loop : ℕ) (pulses : List Pulse) → All (λ e. allowed loop e ≡ true) pulses → Rise pulses → in_order loop pulses ≡ true
orders loop pulses each up =
    and_from _ _ (and_from_places (list_all (allowed loop)) (allowed loop) refl (λ _ _. refl) pulses (pulse_of []) (λ k l. each k (pulse_of []) l)) (rising_from pulses up)

-- the largest first position is at least each of them
pub latest_least : (pulses : List Pulse) (k : ℕ) (d : Pulse) → k < length pulses → (get_or pulses k d).first ≤ latest pulses
latest_least [] k d l = absurd (omega arith)
latest_least (e ∷ es) zero d l = le-max_left e.first (latest es)
latest_least (e ∷ es) (suc k) d l = omega (arith, latest_least es k d (omega arith), le-max_right e.first (latest es))

-- and is one of them, or 0
pub latest_one : (pulses : List Pulse) (d : Pulse) → ((k : ℕ) × (k < length pulses) × ((get_or pulses k d).first ≡ latest pulses)) ⊎ (latest pulses ≡ 0)
latest_one [] d = inr refl
latest_one (e ∷ es) d = elim (cases_lt (latest es) e.first) [
  | inl last ↦ inl (0, omega arith, omega arith)
  | inr before ↦
      let after : latest (e ∷ es) ≡ latest es = omega arith in
      elim (latest_one es d) [ inl one ↦ inl (suc one.0, omega (arith, one.1), one.2 ∙ sym after) | inr none ↦ inr (after ∙ none) ]
]

-- an atom is true where a pulse of it is on
pub pulsed_by : (pulses : List Pulse) (a i k : ℕ) (d : Pulse) → k < length pulses → (get_or pulses k d).atom ≡ a → on (get_or pulses k d) i ≡ true → pulsed pulses a i ≡ true
pulsed_by pulses a i k d l is o = list_any_at (λ e. eqb e.atom a && on e i) pulses k d l (and_from _ _ (eq-eqb (get_or pulses k d).atom a is) o)

-- and nowhere else
pub pulsing : (pulses : List Pulse) (a i : ℕ) (d : Pulse) → pulsed pulses a i ≡ true → (k : ℕ) × (k < length pulses) × ((get_or pulses k d).atom ≡ a) × (on (get_or pulses k d) i ≡ true)
pulsing pulses a i d p =
    let (k, e, l, is, both) = Any-from_list_any (λ e. eqb e.atom a && on e i) pulses p in
    let parts = and_parts _ _ (subst (λ x. (eqb x.atom a && on x i) ≡ true) (get_or_read_under pulses k (length pulses) e d (sym is) l refl) both) in
    (k, l, eqb-true (get_or pulses k d).atom a parts.0, parts.1)

-- pulses with rising atoms have one of an atom at most, so the atom is true where that one is on
pub pulsed_alone : (pulses : List Pulse) (a i : ℕ) (e : Pulse) → Rise pulses → Contains pulses e → e.atom ≡ a → pulsed pulses a i ≡ on e i
pulsed_alone pulses a i e up (k, l, is) of =
    ⊎_elim (λ (o : on e i ≡ true). pulsed_by pulses a i k e l (ap (λ (x : Pulse). x.atom) is ∙ of) (ap (λ x. on x i) is ∙ o) ∙ sym o)
    (λ (o : on e i ≡ false).
    false_from_ne_true (pulsed pulses a i) (λ t.
    let (j, h, of_j, on_j) = pulsing pulses a i e t in
    let same : j ≡ k = grind (arith, up j k e, up k j e, ap (λ (x : Pulse). x.atom) is, of, of_j) in
    both_ways (on e i) o (ap (λ x. on x i) (sym is ∙ ap (λ m. get_or pulses m e) (sym same)) ∙ on_j))
    ∙ sym o)
    (cases_Bool (on e i))

-- The pulses in arrays of bytes, and what the chains over them answer.
use Rattle.std.proofs.Common.{◌≡◌, ℕ, zero, suc, ◌+◌, ◌<◌, ◌≤◌, max, Bool, true, false, ltb, List, [], ◌∷◌, length, get_or, map, fold, sym, ap, ◌∙◌, ⊎_elim, add-one, arith}
use Rattle.std.specs.List.{IsAllAdjacentAnswer}
use Rattle.std.proofs.lemmas.Bool.{cases_lt, false_from_ne_true, ltb-true, ltb-false}
use Rattle.std.proofs.lemmas.List.{length-map, get_or-map}
use Rattle.runs.specs.declared.pulse.Pulse.{Pulse}
use Rattle.runs.specs.Pulses.{pulse_of, pulses_of, latest, rising}
use Rattle.runs.proofs.Pulsing.{rise, rising_from}

pub as_many : (arrays : List (List ℕ)) → length (pulses_of arrays) ≡ length arrays
as_many arrays = length-map arrays pulse_of

pub pulse_there : (arrays : List (List ℕ)) (k : ℕ) (b : List ℕ) (d : Pulse) → k < length arrays → get_or (pulses_of arrays) k d ≡ pulse_of (get_or arrays k b)
pulse_there arrays k b d l = get_or-map pulse_of arrays k b d l

-- numbers that rise from one to the next rise
climb : (n : ℕ → ℕ) (high : ℕ) → ((k : ℕ) → k + 1 < high → n k < n (k + 1)) → (j k : ℕ) → j < k → k < high → n j < n k
climb n high up j zero l h = absurd (omega arith)
climb n high up j (suc k) l h =
    let last : n k < n (suc k) = rw (← add-one k) (up k (omega arith)) in
    ⊎_elim (λ (b : j < k). omega (arith, climb n high up j k b (omega arith), last)) (λ (b : k ≤ j). let e : j ≡ k = omega arith in rw e last) (cases_lt j k)

-- whether the pulse of some bytes is of an earlier atom than that of others
abbrev pub earlier : List ℕ → List ℕ → Bool
earlier before after = ltb (pulse_of before).atom (pulse_of after).atom

-- a test of each array and the next tells whether the atoms rise
pub sorted_rising : (arrays : List (List ℕ)) (r : Bool) → IsAllAdjacentAnswer (λ x y b. b ≡ earlier x y) arrays r → r ≡ rising (pulses_of arrays)
sorted_rising arrays true h =
    let many = as_many arrays in
    sym (rising_from (pulses_of arrays) (λ i j d. climb (λ k. (get_or (pulses_of arrays) k d).atom) (length (pulses_of arrays)) (λ k l.
    omega (arith, ltb-true _ _ (sym (h k [] (omega arith))), ap (λ (e : Pulse). e.atom) (pulse_there arrays k [] d (omega arith)), ap (λ (e : Pulse). e.atom) (pulse_there arrays (k + 1) [] d (omega arith)))) i j))
sorted_rising arrays false (k, l, h) =
    let many = as_many arrays in
    let d = pulse_of [] in
    sym (false_from_ne_true (rising (pulses_of arrays)) (λ p.
    omega (
      arith,
      rise (pulses_of arrays) p k (k + 1) d (omega arith) (omega arith),
      ltb-false _ _ (sym (h [])),
      ap (λ (e : Pulse). e.atom) (pulse_there arrays k [] d (omega arith)),
      ap (λ (e : Pulse). e.atom) (pulse_there arrays (k + 1) [] d (omega arith)),
    )))

-- the first positions of the pulses of some arrays, and the largest of them
abbrev pub firsts_of : List (List ℕ) → List ℕ
firsts_of arrays = map (λ bytes. (pulse_of bytes).first) arrays

pub latest_from_fold : (arrays : List (List ℕ)) (m : ℕ) → fold max m (firsts_of arrays) ≡ max m (latest (pulses_of arrays))
latest_from_fold [] m = omega arith
latest_from_fold (b ∷ bs) m = latest_from_fold bs (max m (pulse_of b).first) ∙ omega arith

-- Laws of the search for the pulse of an atom.
use Rattle.std.proofs.Common.{◌≡◌, ℕ, ◌<◌, ◌≤◌, Bool, true, false, List, [], length, get_or, Some, None, Option, MatchOption, Result, Ok, Err, sym, ap, ◌∙◌, subst, ⊎_elim, arith}
use Rattle.std.specs.Option.{option_map}
use Rattle.std.specs.Result.{result_ok}
use Rattle.std.specs.List.Sorted.{IsSearchInRange, IsBinarySearchResult, IsNonDecreasingBy}
use Rattle.std.specs.Ordering.{nat_cmp, ordering_index}
use Rattle.std.proofs.lemmas.Cmp.{ranked}
use Rattle.std.proofs.lemmas.List.Elements.{Contains-get_or}
use Rattle.std.proofs.lemmas.List.Sorted.{IsNonDecreasingBy-from_default}
use Rattle.std.proofs.lemmas.Bool.{cases_lt, false_from_ne_true}
use Rattle.std.proofs.lemmas.Bool.Decides.{nat_tests}
use Rattle.runs.specs.declared.pulse.Pulse.{Pulse}
use Rattle.runs.specs.Pulses.{pulse_of, pulses_of, on, pulsed, in_order, FindsPulse}
use Rattle.runs.proofs.Arrays.{as_many, pulse_there}
use Rattle.runs.proofs.Pulsing.{Allowed, each_allowed, Rise, rise_in_order, pulsed_alone, pulsing}

-- the atom of the pulse of some bytes
abbrev pub atom_in : List ℕ → ℕ
atom_in bytes = (pulse_of bytes).atom

module _ (arrays : List (List ℕ)) (up : Rise (pulses_of arrays)) where
  -- the arrays' atoms rise
  arrays_rise : (i j : ℕ) → i < j → j < length arrays → atom_in (get_or arrays i []) < atom_in (get_or arrays j [])
  arrays_rise i j l h =
      let d = pulse_of [] in
      omega (
        arith,
        up i j d l (omega (arith, as_many arrays)),
        ap (λ (e : Pulse). e.atom) (pulse_there arrays i [] d (omega arith)),
        ap (λ (e : Pulse). e.atom) (pulse_there arrays j [] d h),
      )

  -- and so do their comparisons with one of them, as a binary search asks
  comparisons_rise : (a : ℕ) → IsNonDecreasingBy (λ bytes. ordering_index (nat_cmp (atom_in bytes) a)) arrays
  comparisons_rise a =
      IsNonDecreasingBy-from_default (λ bytes. ordering_index (nat_cmp (atom_in bytes) a)) arrays [] (λ i j le l.
      let atoms_rise : atom_in (get_or arrays i []) ≤ atom_in (get_or arrays j []) =
      grind (arith, arrays_rise i j, λ (same : i ≡ j). ap (λ k. atom_in (get_or arrays k [])) same) in
      grind (arith, nat_tests))

  -- a binary search by atom ends at the atom's pulse, or no pulse is of the atom
  pub searched : (a : ℕ) (r : Result ℕ ℕ) → IsSearchInRange r (length arrays) → IsBinarySearchResult (λ bytes. nat_cmp (atom_in bytes) a) arrays r
      → FindsPulse (pulses_of arrays) a (option_map (λ k. pulse_of (get_or arrays k [])) (result_ok r))
  searched a (Ok at) in_range equal =
      let d = pulse_of [] in (
        ranked _ a _ (sym (equal [])),
        rw (← pulse_there arrays at [] d in_range) (Contains-get_or (pulses_of arrays) at d (omega (arith, as_many arrays))),
      )
  searched a (Err at) in_range parted = λ k d l same.
      let parts = parted (comparisons_rise a) in
      let many = as_many arrays in
      let of = ap (λ (e : Pulse). e.atom) (pulse_there arrays k [] d (omega arith)) in
      ⊎_elim (λ (h : k < at). omega (arith, of, same, ranked _ a _ (sym (parts.0 k [] (omega arith) h)))) (λ (h : at ≤ k). omega (arith, of, same, ranked _ a _ (sym (parts.1 k [] h (omega arith)))))
      (cases_lt k at)

module _ (loop : ℕ) (pulses : List Pulse) (p : in_order loop pulses ≡ true) (a : ℕ) where
  -- a pulse that is found among pulses in order has a period
  pub found_turns : (e : Pulse) → FindsPulse pulses a (Some e) → 0 < e.period
  found_turns e (of, (k, l, is)) = (subst (Allowed loop) is (each_allowed loop pulses p k e l)).turns

  -- the atom of a pulse that is found is true where the pulse is on, and without one it is never true
  pub pulsed_one : (i : ℕ) (e : Pulse) → FindsPulse pulses a (Some e) → on e i ≡ pulsed pulses a i
  pulsed_one i e (of, there) = sym (pulsed_alone pulses a i e (rise_in_order loop pulses p) there of)

  pub pulsed_none : (i : ℕ) → FindsPulse pulses a None → false ≡ pulsed pulses a i
  pulsed_none i none = sym (false_from_ne_true (pulsed pulses a i) (λ t. let d = pulse_of [] in let (k, l, of, is_on) = pulsing pulses a i d t in none k d l of))

  -- an answer is whether the atom is true, if it is false without a pulse and else whether the pulse that is found is on
  pub pulsed_found : {On : Pulse → Type 0} (i : ℕ) (found : Option Pulse) (answer : Bool) → FindsPulse pulses a found
      → MatchOption found (answer ≡ false) On → ((e : Pulse) → On e → answer ≡ on e i) → answer ≡ pulsed pulses a i
  pulsed_found i None answer none off says = off ∙ pulsed_none i none
  pulsed_found i (Some e) answer one shown says = says e shown ∙ pulsed_one i e one

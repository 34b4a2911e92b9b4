-- The runs that bytes give are as the bytes say: a table up to its loop's end, pulses at every position.
use Rattle.std.proofs.Common.{◌≡◌, ℕ, suc, ◌+◌, ◌-◌, ◌*◌, ◌/◌, ◌%◌, ◌^◌, ◌<◌, ◌≤◌, eqb, List, Ok, Err, Result, refl, ap, ◌∙◌, arith, get_or, length-drop, true, [], length, drop, sym, inl, inr, ⊎_elim}
use Rattle.std.proofs.lemmas.Bool.Decides.{nat_tests}
use Rattle.logic.specs.Run.{Run}
use Rattle.rows.specs.Row.{testBit}
use Rattle.runs.specs.declared.fault.RunFault.{RunFault}
use Rattle.runs.specs.AsGiven.{GivesRun, TablesAsGiven, PulsesAllAlong}
use Rattle.runs.specs.Bytes.{Bytes, word, double_word}
use Rattle.runs.specs.Looping.{run_or_fault, folded}
use Rattle.runs.specs.Tables.{words_in, words_say}
use Rattle.runs.proofs.Checks.{table_passed, table_passed_run, pulses_passed, pulses_passed_run}
use Rattle.runs.proofs.Placed.{word_stands, bit_of, length-chunks, standing, pulse_stands}
use Rattle.runs.proofs.SourceSays.{says_within}
use native.Mathlib.Nat.{add-mod-mod, mod-mod_of_dvd, dvd_of_mod-eq-zero}
use Rattle.std.proofs.lemmas.Bool.{cases_lt}
use Rattle.runs.specs.declared.pulse.Pulse.{Pulse}
use Rattle.runs.specs.Pulses.{pulse_of, pulses_in, on, pulsed, latest, pulse_run}
use Rattle.runs.proofs.Arrays.{as_many}
use Rattle.runs.proofs.Pulsing.{each_allowed, latest_least, latest_one, pulsed_by, pulsing}

pub gives_run : (check : Result (Unit {0}) RunFault) (run : Run) → GivesRun check run (run_or_fault check run)
gives_run (Ok tt) run = (refl, refl)
gives_run (Err fault) run = refl

-- the bit in a word and the bit in a byte of the word
same_bit : (bytes : List ℕ) → Bytes bytes → (at a : ℕ) → a ≤ 31 → eqb (double_word bytes at / 2 ^ a % 2) 1 ≡ eqb (get_or bytes (at + a / 8) 0 / 2 ^ (a % 8) % 2) 1
unfolding testBit
same_bit bytes are at a few = bit_of bytes are at a few

pub tables_as_given : (bytes : List ℕ) → TablesAsGiven bytes
tables_as_given bytes p =
    let passed = table_passed bytes p in
    let run = table_passed_run bytes p in
    let kept : suc (word bytes 2 - 1) ≡ word bytes 2 = omega arith in
    let says = λ (a i : ℕ) (l : i < word bytes 0 + word bytes 2).
    ap (λ r. r.says a i) run
    ∙ says_within (word bytes 0) (word bytes 2) (words_say (words_in bytes)) a i passed.turns l
    ∙ ap (λ n. eqb (n / 2 ^ a % 2) 1) (word_stands bytes i (omega (arith, passed.long, length-drop 4 bytes))) in (
      ap (λ r. r.stem) run,
      ap (λ r. r.loop) run ∙ kept,
      λ a i l. let is = says a i l in (λ t. grind (arith, nat_tests), λ e. grind (arith, nat_tests)),
      λ are a i few l. let is = says a i l ∙ same_bit bytes are (4 + 4 * i) a few in (λ t. grind (arith, nat_tests), λ e. grind (arith, nat_tests)),
    )

-- a part that the period divides can be left out
period_kept : (a b loop period : ℕ) → loop % period ≡ 0 → (a + b % loop) % period ≡ (a + b) % period
period_kept a b loop period d =
    sym (add-mod-mod a (b % loop) period)
    ∙ ap (λ n. (a + n) % period) (mod-mod_of_dvd period b (dvd_of_mod-eq-zero period d))
    ∙ add-mod-mod a b period

-- a pulse that has begun before the loop is as it is at the position that is folded back
on_folded : (e : Pulse) (stem loop i : ℕ) → e.first ≤ stem → loop % e.period ≡ 0 → on e (folded stem loop i) ≡ on e i
on_folded e stem loop i f d =
    ⊎_elim (λ (l : i < stem). grind (arith, nat_tests))
    (λ (l : stem ≤ i).
    let back : ℕ = stem + (i - stem) % loop in
    let here : back - e.first ≡ (stem - e.first) + (i - stem) % loop = omega arith in
    let there : (stem - e.first) + (i - stem) ≡ i - e.first = omega arith in
    let same : (back - e.first) % e.period ≡ (i - e.first) % e.period =
    ap (λ n. n % e.period) here ∙ period_kept (stem - e.first) (i - stem) loop e.period d ∙ ap (λ n. n % e.period) there in
    grind (arith, nat_tests))
    (cases_lt i stem)

pub pulses_all_along : (bytes : List ℕ) → PulsesAllAlong bytes
pulses_all_along bytes p =
    let pulses = pulses_in bytes in
    let n : ℕ = length (drop 2 bytes) / 8 in
    let stem : ℕ = latest pulses in
    let passed = pulses_passed bytes p in
    let run = pulses_passed_run bytes p in
    let many = length-drop 2 bytes in
    let count : length pulses ≡ n = as_many _ ∙ length-chunks 8 n (drop 2 bytes) in
    let d = pulse_of [] in
    let at = λ (k : ℕ) (l : k < n). pulse_stands bytes k d passed.whole l in
    let kept : suc (word bytes 0 - 1) ≡ word bytes 0 = omega arith in
    let stem_is : (pulse_run bytes).stem ≡ stem = ap (λ r. r.stem) run in
    let least = λ (k : ℕ) (l : k < n). latest_least pulses k d (omega (arith, l, count)) in (
      ap (λ r. r.loop) run ∙ kept,
      λ k l. omega (arith, stem_is, least k (omega arith), ap (λ (e : Pulse). e.first) (at k (omega arith))),
      elim (latest_one pulses d) [
        | inl one ↦ let l : one.0 < n = omega (arith, one.1, count) in inl (one.0, omega arith, omega (arith, stem_is, one.2, ap (λ (e : Pulse). e.first) (at one.0 l)))
        | inr none ↦ inr (stem_is ∙ none)
      ],
      λ a i.
          let says : (pulse_run bytes).says a i ≡ pulsed pulses a (folded stem (word bytes 0) i) =
          ap (λ r. r.says a i) run ∙ ap (λ m. pulsed pulses a (folded stem m i)) kept in
          let same : (k : ℕ) → k < n → on (get_or pulses k d) (folded stem (word bytes 0) i) ≡ on (standing bytes k) i =
          λ k l.
          on_folded (get_or pulses k d) stem (word bytes 0) i (least k l) (each_allowed (word bytes 0) pulses passed.orderly k d (omega (arith, l, count))).divides
          ∙ ap (λ e. on e i) (at k l) in (
            λ h.
                let (k, within, of, is_on) = pulsing pulses a (folded stem (word bytes 0) i) d (sym says ∙ h) in
                let l : k < n = omega (arith, within, count) in
                let on_now : on (standing bytes k) i ≡ true = sym (same k l) ∙ is_on in
                (k, omega arith, ap (λ (x : Pulse). x.atom) (sym (at k l)) ∙ of, grind (arith, nat_tests), grind (arith, nat_tests)),
            λ h.
                let k = h.0 in
                let l : k < n = omega arith in
                let on_now : on (standing bytes k) i ≡ true = grind (arith, nat_tests, h.3, h.4) in
                says ∙ pulsed_by pulses a (folded stem (word bytes 0) i) k d (omega (arith, l, count)) (ap (λ (x : Pulse). x.atom) (at k l) ∙ h.2) (same k l ∙ on_now),
          ),
    )

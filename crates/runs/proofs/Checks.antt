-- The checks pass exactly the bytes that keep the rules, and bytes that fail give the silent run.
use Rattle.std.proofs.Common.{◌≡◌, ℕ, ◌%◌, ◌^◌, ◌<◌, ◌≤◌, Bool, true, eqb, List, [], length, drop, Ok, Err, Result, refl, sym, ap, ◌∙◌, arith, ◌≢◌, ◌+◌, ◌*◌, ◌/◌, ◌↔◌, subst, length-drop}
use mathlib.Core.Path.{fun_ext}
use native.Mathlib.Nat.{zero-div}
use Rattle.std.specs.Result.{result_unwrap_or}
use Rattle.std.proofs.lemmas.Bool.Decides.{nat_tests}
use Rattle.logic.specs.Run.{Run}
use Rattle.runs.specs.declared.fault.RunFault.{RunFault}
use Rattle.runs.specs.Bytes.{word}
use Rattle.runs.specs.AsGiven.{SilentOtherwise}
use Rattle.runs.specs.Looping.{looped, run_or_fault, when_run}
use Rattle.runs.specs.Meanings.{meant}
use Rattle.runs.specs.Pulses.{pulses_of, pulses_in, pulsed, latest, in_order, pulse_check, pulse_run, pulse_of, allowed}
use Rattle.runs.specs.Rules.{TableRules, PulseRules}
use Rattle.runs.specs.Tables.{words_in, words_say, table_check, table_run}
use Rattle.runs.specs.declared.fault.RunFault.TheVariants.{WrongLength}
use Rattle.runs.specs.declared.pulse.Pulse.{Pulse}
use Rattle.runs.specs.Fields.{table_stem, table_loop}
use Rattle.runs.proofs.Arrays.{as_many}
use Rattle.runs.proofs.Placed.{length-chunks, standing, pulse_stands}
use Rattle.runs.proofs.Pulsing.{Allowed, each_allowed, rise_in_order, orders}

pub table_passed : (bytes : List ℕ) → table_check bytes ≡ Ok tt → TableRules bytes
unfolding table_check
table_passed bytes p = record { long = grind (arith, nat_tests); turns = grind (arith, nat_tests) }

pub record PulsesPassed (bytes : List ℕ) : Type 0 where
  pub long : 2 ≤ length bytes
  pub whole : length (drop 2 bytes) % 8 ≡ 0
  pub turns : 0 < word bytes 0
  pub orderly : in_order (word bytes 0) (pulses_in bytes) ≡ true

pub pulses_passed : (bytes : List ℕ) → pulse_check bytes ≡ Ok tt → PulsesPassed bytes
unfolding pulse_check
pulses_passed bytes p = record { long = grind (arith, nat_tests); whole = grind (arith, nat_tests); turns = grind (arith, nat_tests); orderly = grind (arith, nat_tests) }

-- the same numbers and the same truths give the same run
pub looped_same : {stem stem' loop loop' : ℕ} {f f' : ℕ → ℕ → Bool} → stem ≡ stem' → loop ≡ loop' → f ≡ f' → looped stem loop f ≡ looped stem' loop' f'
looped_same {stem' = stem'} {loop = loop} {loop' = loop'} {f = f} s l e = ap (λ n. looped n loop f) s ∙ ap (λ n. looped stem' n f) l ∙ ap (looped stem' loop') e

-- where bytes pass, their run is given
pub run_given : (check : Result (Unit {0}) RunFault) {r run : Run} → check ≡ Ok tt → r ≡ run → ◌≡◌ {A = Result Run RunFault} (Ok r) (run_or_fault check run)
run_given check {r} {run} passes is = ap Ok is ∙ ap (λ c. run_or_fault c run) (sym passes)

-- the run that a conversion gives, or else the silent one
pub run_or : {S : Type 0} (check : Result (Unit {0}) RunFault) (run : Run) (meaning : S → Run) (result : Result S RunFault) (silent : S) → meant meaning result ≡ run_or_fault check run
    → ((e : RunFault) → check ≡ Err e → meaning silent ≡ run) → meaning (result_unwrap_or result silent) ≡ run
run_or (Ok tt) run meaning (Ok source) silent h other = cc
run_or (Ok tt) run meaning (Err e) silent h other = cc
run_or (Err f) run meaning (Ok source) silent h other = cc
run_or (Err f) run meaning (Err e) silent h other = other f refl

-- bytes that pass give their run
pub table_passed_run : (bytes : List ℕ) → table_check bytes ≡ Ok tt → table_run bytes ≡ looped (word bytes 0) (word bytes 2) (words_say (words_in bytes))
unfolding table_run
table_passed_run bytes p = rw p

pub pulses_passed_run : (bytes : List ℕ) → pulse_check bytes ≡ Ok tt
    → pulse_run bytes ≡ looped (latest (pulses_in bytes)) (word bytes 0) (pulsed (pulses_in bytes))
unfolding pulse_run
pulses_passed_run bytes p = rw p

-- others give the silent run
otherwise_silent : (check : Result (Unit {0}) RunFault) (run : Run) → SilentOtherwise check (when_run check run)
otherwise_silent (Ok tt) run failed = absurd (failed refl)
otherwise_silent (Err e) run failed = (refl, refl, λ a i. refl)

pub table_failed_run : (bytes : List ℕ) (e : RunFault) → table_check bytes ≡ Err e → table_run bytes ≡ looped 0 1 (words_say [])
unfolding table_run
table_failed_run bytes e p = rw p (ap (looped 0 1) (fun_ext (λ a. fun_ext (λ i. sym (ap (λ n. eqb (n % 2) 1) (zero-div (2 ^ a)))))))

pub pulses_failed_run : (bytes : List ℕ) (e : RunFault) → pulse_check bytes ≡ Err e → pulse_run bytes ≡ looped 0 1 (pulsed (pulses_of []))
unfolding pulse_run
pulses_failed_run bytes e p = rw p

-- which is silent at every position
pub table_silent : (bytes : List ℕ) → SilentOtherwise (table_check bytes) (table_run bytes)
unfolding table_run
table_silent bytes = otherwise_silent (table_check bytes) _

pub pulses_silent : (bytes : List ℕ) → SilentOtherwise (pulse_check bytes) (pulse_run bytes)
unfolding pulse_run
pulses_silent bytes = otherwise_silent (pulse_check bytes) _

-- a pulse that keeps the rules is allowed
allows : (loop : ℕ) (e : Pulse) → e.atom ≤ 31 → 0 < e.period → e.width ≤ e.period → loop % e.period ≡ 0 → allowed loop e ≡ true
allows loop e atom turns within divides = grind (arith, nat_tests)

pub table_ruled : (bytes : List ℕ) → (table_check bytes ≡ Ok tt) ↔ TableRules bytes
unfolding table_check
table_ruled bytes = (table_passed bytes, λ rules. grind (arith, nat_tests, rules.long, rules.turns))

pub table_wrong_length : (bytes : List ℕ) → (table_check bytes ≡ Err WrongLength) ↔ (length bytes ≢ 4 + 4 * (table_stem bytes + table_loop bytes))
unfolding table_check
table_wrong_length bytes = (λ e long. grind (arith, nat_tests, e, long), λ wrong. grind (arith, nat_tests, wrong))

pub pulse_ruled : (bytes : List ℕ) → (pulse_check bytes ≡ Ok tt) ↔ ((n : ℕ) × PulseRules bytes n)
unfolding pulse_check
pulse_ruled bytes =
    let loop = word bytes 0 in
    let pulses = pulses_in bytes in
    let n : ℕ = length (drop 2 bytes) / 8 in
    let count : length pulses ≡ n = as_many _ ∙ length-chunks 8 n (drop 2 bytes) in
    let d = pulse_of [] in
    let many = length-drop 2 bytes in (
      λ p.
          let passed = pulses_passed bytes p in
          let at = λ (k : ℕ) (l : k < n). pulse_stands bytes k d passed.whole l in
          let each = λ (k : ℕ) (l : k < n). subst (Allowed loop) (at k l) (each_allowed loop pulses passed.orderly k d (omega (arith, l, count))) in (
            n,
            record {
              long = omega arith;
              turns = passed.turns;
              atoms = λ k l. (each k l).atom;
              rising = λ j k l h.
                  omega (
                    arith,
                    rise_in_order loop pulses passed.orderly j k d l (omega (arith, h, count)),
                    ap (λ (e : Pulse). e.atom) (at j (omega arith)),
                    ap (λ (e : Pulse). e.atom) (at k h),
                  );
              periods = λ k l. (each k l).turns;
              widths = λ k l. (each k l).within;
              parts = λ k l. (each k l).divides;
            },
          ),
      λ (m, rules).
          let whole : length (drop 2 bytes) % 8 ≡ 0 = omega (arith, rules.long) in
          let same : m ≡ n = omega (arith, rules.long) in
          let at = λ (k : ℕ) (d : Pulse) (l : k < length pulses). pulse_stands bytes k d whole (omega (arith, l, count)) in
          let orderly : in_order loop pulses ≡ true =
          orders loop pulses (λ k d l.
          let h : k < m = omega arith in
          rw (at k d l) (allows loop (standing bytes k) (rules.atoms k h) (rules.periods k h) (rules.widths k h) (rules.parts k h)))
          (λ i j e l h. omega (arith, rules.rising i j l (omega arith), ap (λ (e : Pulse). e.atom) (at i e (omega arith)), ap (λ (e : Pulse). e.atom) (at j e h))) in
          grind (arith, nat_tests, rules.long, rules.turns),
    )

pub pulse_wrong_length : (bytes : List ℕ) → (pulse_check bytes ≡ Err WrongLength) ↔ ((n : ℕ) → length bytes ≢ 2 + 8 * n)
unfolding pulse_check
pulse_wrong_length bytes =
    let many = length-drop 2 bytes in (
      λ e n long. grind (arith, nat_tests, e, long, many),
      λ wrong. grind (arith, nat_tests, many, wrong (length (drop 2 bytes) / 8)),
    )

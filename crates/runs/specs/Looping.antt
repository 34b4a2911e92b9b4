-- Runs that go on after their loop as they do in it.
use Rattle.std.specs.Prelude.{◌≡◌, ℕ, suc, ◌+◌, ◌-◌, ◌%◌, ◌≤◌, Bool, false, cond, Ok, Err, Result, nat_lt}
use Rattle.std.proofs.Common.{ap, sym, ◌∙◌, arith}
use Rattle.std.proofs.Math.Nat.{add-mod_right}
use Rattle.std.proofs.lemmas.Bool.{le-ltb}
use Rattle.logic.specs.Run.{Run}

-- the position up to the loop's end at which a run is as it is at i
abbrev pub folded : ℕ → ℕ → ℕ → ℕ
folded stem loop i = cond (nat_lt i stem) i (stem + (i - stem) % loop)

-- one loop on, a run is as it was
pub folded_repeats : (stem loop i : ℕ) → stem ≤ i → folded stem loop (i + loop) ≡ folded stem loop i
folded_repeats stem loop i l =
    let e : i + loop - stem ≡ (i - stem) + loop = omega arith in
    ap (λ b. cond b (i + loop) (stem + (i + loop - stem) % loop)) (le-ltb (i + loop) stem (omega arith))
    ∙ ap (λ n. stem + n) (ap (λ n. n % loop) e ∙ add-mod_right (i - stem) loop)
    ∙ sym (ap (λ b. cond b i (stem + (i - stem) % loop)) (le-ltb i stem l))

-- the run with a stem and a loop, 1 at least, at which up to the loop's end atom a at i is f a i
abbrev pub looped : ℕ → ℕ → (ℕ → ℕ → Bool) → Run
looped stem loop f = record {
  stem = stem;
  loop = suc (loop - 1);
  says = λ a i. f a (folded stem (suc (loop - 1)) i);
  turns = omega arith;
  repeats = λ a i l. ap (f a) (folded_repeats stem (suc (loop - 1)) i l);
}

-- the run that has one position, over and over, and no atom true
abbrev pub silent : Run
silent = looped 0 1 (λ a i. false)

-- the run that bytes give where they pass a check, or what is wrong with them
abbrev pub run_or_fault : {E : Type 0} → Result (Unit {0}) E → Run → Result Run E
run_or_fault (Ok done) r = Ok r
run_or_fault (Err e) r = Err e

-- a run from bytes that pass a check; bytes that fail it give the silent run
abbrev pub when_run : {E : Type 0} → Result (Unit {0}) E → Run → Run
when_run (Ok done) r = r
when_run (Err e) r = silent

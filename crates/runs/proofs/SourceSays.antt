-- What a looped run says, and what a source tells of it, up to the loop's end.
use Rattle.std.proofs.Common.{◌≡◌, ℕ, suc, ◌+◌, ◌-◌, ◌%◌, ◌<◌, ◌≤◌, Bool, ◌&&◌, ltb, ap, ⊎_elim, mod-eq_of_lt, arith}
use Rattle.std.proofs.lemmas.Bool.{cases_lt}
use Rattle.std.proofs.lemmas.Bool.Decides.{nat_tests}
use Rattle.runs.specs.Looping.{folded, looped}
use Rattle.runs.specs.SourceSays.{source_says}

-- up to the loop's end nothing folds
folded_within : (stem loop i : ℕ) → i < stem + loop → folded stem loop i ≡ i
folded_within stem loop i l =
    ⊎_elim (λ (h : i < stem). grind (arith, nat_tests))
    (λ (h : stem ≤ i). let same : (i - stem) % loop ≡ i - stem = mod-eq_of_lt (omega arith) in grind (arith, nat_tests))
    (cases_lt i stem)

pub says_within : (stem loop : ℕ) (f : ℕ → ℕ → Bool) (a i : ℕ) → 0 < loop → i < stem + loop → (looped stem loop f).says a i ≡ f a i
says_within stem loop f a i t l = ap (f a) (folded_within stem (suc (loop - 1)) i (omega arith))

-- after it, and of other atoms, a source says that nothing is true
pub source_says_tested : (stem loop : ℕ) (f : ℕ → ℕ → Bool) (a i : ℕ) → 0 < loop → source_says (looped stem loop f) a i ≡ ((ltb a 32 && ltb i (stem + loop)) && f a i)
unfolding source_says
source_says_tested stem loop f a i t =
    ⊎_elim (λ (l : i < stem + loop). let within = says_within stem loop f a i t l in grind (arith, nat_tests))
    (λ (l : stem + loop ≤ i). grind (arith, nat_tests))
    (cases_lt i (stem + loop))

-- A row of a pulse that is doubled.
use Rattle.std.proofs.Common.{◌≡◌, ℕ, ◌-◌, ◌*◌, ◌%◌, ◌<◌, ◌≤◌, Bool, ◌&&◌, ◌||◌, ltb, leb, sym, ap, ◌∙◌, ⊎_elim, arith, mod-eq_of_lt}
use Rattle.std.proofs.Math.Nat.{mul-add-mod_self_right}
use Rattle.std.proofs.lemmas.Bool.{cases_lt, lt-ltb, le-ltb, and_left}
use Rattle.std.proofs.lemmas.Bool.Decides.{nat_tests}

module _ (period width : ℕ) where
  -- a pulse from position 0 on, up to a position
  abbrev pub widths : ℕ → ℕ → Bool
  widths filled i = ltb i filled && ltb (i % period) width

  -- one period of it
  pub one_period : (i : ℕ) → (ltb i period && ltb i width) ≡ widths period i
  one_period i =
      ⊎_elim (λ (l : i < period). ap (λ k. ltb i period && ltb k width) (sym (mod-eq_of_lt l)))
      (λ (l : period ≤ i). and_left (ltb i period) (ltb i width) (le-ltb i period l) ∙ sym (and_left (ltb i period) (ltb (i % period) width) (le-ltb i period l)))
      (cases_lt i period)

  -- whole periods back it is the same
  back : (m i : ℕ) → m * period ≤ i → (i - m * period) % period ≡ i % period
  back m i h = sym (mul-add-mod_self_right m period (i - m * period)) ∙ ap (λ k. k % period) (omega arith)

  -- and whole periods further, twice as much is filled
  pub doubled : (m filled i : ℕ) → filled ≡ m * period → (widths filled i || (leb filled i && widths filled (i - filled))) ≡ widths (filled * 2) i
  doubled m filled i is =
      let same : filled ≤ i → (i - filled) % period ≡ i % period = λ h. ap (λ k. (i - k) % period) is ∙ back m i (omega (arith, is, h)) in
      ⊎_elim
      (λ (l : i < filled). grind (arith, nat_tests))
      (λ (l : filled ≤ i). ap (λ k. widths filled i || (leb filled i && (ltb (i - filled) filled && ltb k width))) (same l) ∙ grind (arith, nat_tests))
      (cases_lt i filled)

  -- where all positions of a row are filled
  pub filled_up : (filled i : ℕ) → i < filled → widths filled i ≡ ltb (i % period) width
  filled_up filled i l = ap (λ b. b && ltb (i % period) width) (lt-ltb i filled l)

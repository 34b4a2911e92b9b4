-- A row that is moved up.
use Rattle.std.proofs.Common.{◌≡◌, ℕ, ◌+◌, ◌-◌, ◌*◌, ◌/◌, ◌%◌, ◌^◌, ◌<◌, ◌≤◌, leb, cond, suc, ◌&&◌, ◌||◌, List, get_or, sym, ap, ap₂, ◌∙◌, inl, inr, arith}
use Rattle.std.proofs.lemmas.Bool.{cases_lt, cond_both, le-leb, lt-leb}
use lib.Bits.{or_lt}
use Rattle.std.proofs.Math.Bool.{or-false}
use Rattle.std.proofs.Math.Nat.{div-le_self}
use Rattle.rows.specs.Row.{testBit, bit, word_behind, word_moved}
use Rattle.rows.proofs.Bits.{bit_zero, bit_shr, bit_half, bit_shl, bit_above, testBit_or}
use Rattle.rows.proofs.Rows.{Says, bit_word}

module _ (row : List ℕ) (fits : (k : ℕ) → get_or row k 0 < 2 ^ 64) (m n k : ℕ) (n-small : n < 64) where
  behind_fits : (j : ℕ) → word_behind row j k < 2 ^ 64
  behind_fits j = cond_both (leb j k) (get_or row (k - j) 0) 0 (λ x. x < 2 ^ 64) (λ _. fits (k - j)) (λ _. omega arith)

  -- what a word further below says
  behind_says : (j i : ℕ) → i < 64 → testBit (word_behind row j k) i ≡ (leb j k && bit row (64 * (k - j) + i))
  behind_says j i h =
      elim (cases_lt k j) [
        | inl l ↦ ap (λ b. testBit (cond b (get_or row (k - j) 0) 0) i) (lt-leb j k l) ∙ bit_zero i ∙ sym (ap (λ b. b && bit row (64 * (k - j) + i)) (lt-leb j k l))
        | inr l ↦
            ap (λ b. testBit (cond b (get_or row (k - j) 0) 0) i) (le-leb j k l) ∙ sym (bit_word row (k - j) i h)
            ∙ sym (ap (λ b. b && bit row (64 * (k - j) + i)) (le-leb j k l))
      ]

  -- both sides are false, or the same place of the row
  same : (j i p : ℕ) → (j ≤ k → 64 * m + n ≤ 64 * k + i) → (k < j → 64 * k + i < 64 * m + n) → (j ≤ k → p ≡ 64 * k + i - (64 * m + n))
      → (leb j k && bit row p) ≡ (leb (64 * m + n) (64 * k + i) && bit row (64 * k + i - (64 * m + n)))
  same j i p there under is =
      elim (cases_lt k j) [
        | inl l ↦ ap (λ b. b && bit row p) (lt-leb j k l) ∙ sym (ap (λ b. b && bit row (64 * k + i - (64 * m + n))) (lt-leb _ _ (under l)))
        | inr l ↦
            ap (λ b. b && bit row p) (le-leb j k l) ∙ ap (bit row) (is l)
            ∙ sym (ap (λ b. b && bit row (64 * k + i - (64 * m + n))) (le-leb _ _ (there l)))
      ]

  pub says_later : Says (word_moved row m n k) k (λ i. leb (64 * m + n) i && bit row (i - (64 * m + n)))
  unfolding word_moved
  says_later =
      let here : ℕ = word_behind row m k in
      let below : ℕ = word_behind row (m + 1) k in
      record {
        fits = or_lt 64 (here * 2 ^ n % 2 ^ 64) (below / 2 / 2 ^ (63 - n)) (omega arith) (omega (arith, behind_fits (m + 1), div-le_self (below / 2) (2 ^ (63 - n))));
        at = λ i h.
            testBit_or (here * 2 ^ n % 2 ^ 64) (below / 2 / 2 ^ (63 - n)) i
            ∙ ap₂ (λ x y. x || y) (bit_shl 64 here n i h) (bit_shr (below / 2) (63 - n) i ∙ sym (bit_half below (63 - n + i)))
            ∙ elim (cases_lt i n) [
              | inl l ↦
                  ap (λ b. (b && testBit here (i - n)) || testBit below (suc (63 - n + i))) (lt-leb n i l)
                  ∙ behind_says (m + 1) (suc (63 - n + i)) (omega arith)
                  ∙ same (m + 1) i (64 * (k - (m + 1)) + suc (63 - n + i)) (λ q. omega arith) (λ q. omega arith) (λ q. omega arith)
              | inr l ↦
                  ap₂ (λ b c. (b && testBit here (i - n)) || c) (le-leb n i l) (bit_above 64 below (suc (63 - n + i)) (behind_fits (m + 1)) (omega arith))
                  ∙ or-false (testBit here (i - n))
                  ∙ behind_says m (i - n) (omega arith)
                  ∙ same m i (64 * (k - m) + (i - n)) (λ q. omega arith) (λ q. omega arith) (λ q. omega arith)
            ];
      }

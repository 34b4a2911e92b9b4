-- What the words of a pass say of its choices.
use Rattle.std.proofs.Common.{◌≡◌, ℕ, zero, suc, ◌+◌, ◌-◌, ◌*◌, ◌/◌, ◌%◌, ◌^◌, ◌<◌, ◌≤◌, Bool, true, false, ◌⊎◌, List, length, get_or, Some, sym, ap, ◌∙◌, subst, inl, inr, arith}
use Rattle.std.specs.List.{slice_get}
use Rattle.std.proofs.lemmas.Bool.{cases_Bool, cases_eq, cases_lt, lt-ltb}
use Rattle.std.proofs.lemmas.Option.{slice_get-get_or}
use lib.Bits.{or_lt}
use Rattle.lists.proofs.Members.{nth_within}
use Rattle.rows.specs.Row.{testBit}
use Rattle.rows.proofs.Bits.{bit_pack, pack_lt, bit_zero, bit_ones, bits_same}
use Rattle.rows.proofs.Rows.{bitwise_or_not}
use Rattle.tautologies.specs.declared.step.Step.{Step}
use Rattle.tautologies.specs.Planning.{LowerSteps, Values, Made, word_at}
use Rattle.tautologies.specs.Choosing.{choice_word_of}

-- of n tests one fails, or all pass
pub some_false : (n : ℕ) (p : ℕ → Bool) → ((i : ℕ) × (i < n) × (p i ≡ false)) ⊎ ((i : ℕ) → i < n → p i ≡ true)
some_false zero p = inr (λ i h. absurd (omega arith))
some_false (suc n) p = elim (some_false n p) [
  | inl (i, h, fails) ↦ inl (i, omega arith, fails)
  | inr all ↦ elim (cases_Bool (p n)) [
    | inl passes ↦ inr (λ i h. elim (cases_eq i n) [ inl e ↦ subst (λ (k : ℕ). p k ≡ true) (sym e) passes | inr ne ↦ all i (omega (arith, ne)) ])
    | inr fails ↦ inl (n, omega arith, fails)
  ]
]

module _ (steps : List Step) (words first : ℕ) (rows : List (List ℕ)) (lower : LowerSteps steps) (parts : (k w : ℕ) → k < 12 → w < words → word_at rows k w ≡ choice_word_of (first + w) k) (none : (w : ℕ) → word_at rows 12 w ≡ 0) (made : (j : ℕ) (s : Step) → slice_get steps j ≡ Some s → Made rows words j s) where
  -- the words are words of 64 bits
  fits_below : (n p w : ℕ) → p < n → p < 13 + length steps → w < words → word_at rows p w < 2 ^ 64
  fits_below zero p w h there hw = absurd (omega arith)
  fits_below (suc n) p w h there hw =
      elim (cases_lt p 12) [
        | inl part ↦ subst (λ (x : ℕ). x < 2 ^ 64) (sym (parts p w part hw)) (pack_lt 64 (λ i. testBit (64 * (first + w) + i) p))
        | inr behind ↦ elim (cases_eq p 12) [
          | inl e ↦ subst (λ (k : ℕ). word_at rows k w < 2 ^ 64) (sym e) (subst (λ (x : ℕ). x < 2 ^ 64) (sym (none w)) (omega arith))
          | inr ne ↦
              let j : ℕ = p - 13 in
              let s : Step = get_or steps j (record { left = 0; right = 0 }) in
              let is : slice_get steps j ≡ Some s = slice_get-get_or steps j (record { left = 0; right = 0 }) (omega (arith, ne)) in
              let operands = lower j s is in
              let at : 13 + j ≡ p = omega (arith, ne) in
              let right : word_at rows s.right w < 2 ^ 64 = fits_below n s.right w (omega (arith, operands, at)) (omega (arith, operands, at)) hw in
              subst (λ (k : ℕ). word_at rows k w < 2 ^ 64) at
              (subst (λ (x : ℕ). x < 2 ^ 64) (sym (made j s is w hw)) (or_lt 64 (word_at rows s.right w) (2 ^ 64 - 1 - word_at rows s.left w) right (omega arith)))
        ]
      ]

  fits : (p w : ℕ) → p < 13 + length steps → w < words → word_at rows p w < 2 ^ 64
  fits p w = fits_below (p + 1) p w (omega arith)

  -- the truths of a choice are a bit of each word
  abbrev pub truths : ℕ → ℕ → ℕ → Bool
  truths w i p = testBit (word_at rows p w) i

  pub values : (w i : ℕ) → w < words → i < 64 → Values steps (64 * (first + w) + i) (truths w i)
  values w i hw hi = record {
    part = λ k h. ap (λ x. testBit x i) (parts k w h hw) ∙ bit_pack 64 (λ j. testBit (64 * (first + w) + j) k) i hi;
    none = ap (λ x. testBit x i) (none w) ∙ bit_zero i;
    step = λ j s is. ap (λ x. testBit x i) (made j s is w hw) ∙ bitwise_or_not.at (word_at rows s.right w) (word_at rows s.left w) i (fits s.left w (omega (arith, lower j s is, nth_within steps j is)) hw) hi;
  }

  module _ (place : ℕ) (there : place < 13 + length steps) where
    -- where all words at a place are full, all choices of the pass have it true
    pub all_true : ((w : ℕ) → w < words → word_at rows place w ≡ 2 ^ 64 - 1) → (c : ℕ) → 64 * first ≤ c → c < 64 * (first + words)
        → (f : ℕ → Bool) × Values steps c f × (f place ≡ true)
    all_true full c low high =
        let w : ℕ = (c - 64 * first) / 64 in
        let i : ℕ = c % 64 in
        let hw : w < words = omega arith in
        let hi : i < 64 = omega arith in
        let is : 64 * (first + w) + i ≡ c = omega arith in (
          truths w i,
          subst (λ (n : ℕ). Values steps n (truths w i)) is (values w i hw hi),
          ap (λ x. testBit x i) (full w hw) ∙ bit_ones 64 i ∙ lt-ltb i 64 hi,
        )

    -- where not all are, one choice has it false
    pub one_false : (((w : ℕ) → w < words → word_at rows place w ≡ 2 ^ 64 - 1) → ⊥) → (c : ℕ) × (f : ℕ → Bool) × Values steps c f × (f place ≡ false)
    one_false not_full =
        elim (some_false (64 * words) (λ n. truths (n / 64) (n % 64) place)) [
          | inl (n, h, fails) ↦ (64 * (first + n / 64) + n % 64, truths (n / 64) (n % 64), values (n / 64) (n % 64) (omega arith) (omega arith), fails)
          | inr all ↦
              absurd (not_full (λ w h.
              bits_same 64 (word_at rows place w) (2 ^ 64 - 1) (fits place w there h) (omega arith)
              (λ i l.
              let q : (64 * w + i) / 64 ≡ w = omega arith in
              let r : (64 * w + i) % 64 ≡ i = omega arith in
              sym (λ j. truths (q j) (r j) place) ∙ all (64 * w + i) (omega arith) ∙ sym (bit_ones 64 i ∙ lt-ltb i 64 l))))
        ]

-- The words of the rows of choices.
use Rattle.std.proofs.Common.{◌≡◌, ℕ, zero, suc, ◌+◌, ◌-◌, ◌*◌, ◌/◌, ◌%◌, ◌^◌, ◌<◌, ◌≤◌, true, false, List, [], ◌∷◌, get_or, sym, refl, ap, ◌∙◌, arith}
use Rattle.std.proofs.lemmas.Bool.{lt-ltb}
use Rattle.rows.specs.Row.{testBit, pack}
use Rattle.rows.proofs.Bits.{bit_pack, pack_lt, is_pack, bit_mod, bit_shr, bit_zero, bit_ones}

-- within a word, the places of the numbers that have a bit
abbrev pub masks : List ℕ
masks = 0xAAAA_AAAA_AAAA_AAAA ∷ 0xCCCC_CCCC_CCCC_CCCC ∷ 0xF0F0_F0F0_F0F0_F0F0 ∷ 0xFF00_FF00_FF00_FF00 ∷ 0xFFFF_0000_FFFF_0000 ∷ 0xFFFF_FFFF_0000_0000 ∷ []

mask_is : (p : ℕ) → p < 6 → get_or masks p 0 ≡ pack 64 (λ i. testBit i p)
unfolding pack testBit
mask_is zero h = refl
mask_is (suc zero) h = refl
mask_is (suc (suc zero)) h = refl
mask_is (suc (suc (suc zero))) h = refl
mask_is (suc (suc (suc (suc zero)))) h = refl
mask_is (suc (suc (suc (suc (suc zero))))) h = refl
mask_is (suc (suc (suc (suc (suc (suc p)))))) h = absurd (omega arith)

-- the low bits of a number are those of its place in a word
pub low_word : (w p : ℕ) → p < 6 → get_or masks p 0 ≡ pack 64 (λ i. testBit (64 * w + i) p)
low_word w p few =
    mask_is p few ∙ is_pack 64 (pack 64 (λ i. testBit i p)) (λ i. testBit (64 * w + i) p) (pack_lt 64 (λ i. testBit i p))
    (λ i h.
    let rest : (64 * w + i) % 64 ≡ i = omega arith in
    bit_pack 64 (λ j. testBit j p) i h ∙ ap (λ n. testBit n p) (sym rest) ∙ bit_mod 6 (64 * w + i) p few)

-- and its high bits those of the word's number
high : (w p i : ℕ) → 6 ≤ p → i < 64 → testBit w (p - 6) ≡ testBit (64 * w + i) p
high w p i many h =
    let word : (64 * w + i) / 64 ≡ w = omega arith in
    let e : 6 + (p - 6) ≡ p = omega arith in
    ap (λ n. testBit n (p - 6)) (sym word) ∙ bit_shr (64 * w + i) 6 (p - 6) ∙ ap (testBit (64 * w + i)) e

pub all_word : (w p : ℕ) → 6 ≤ p → testBit w (p - 6) ≡ true → 2 ^ 64 - 1 ≡ pack 64 (λ i. testBit (64 * w + i) p)
all_word w p many set = is_pack 64 (2 ^ 64 - 1) (λ i. testBit (64 * w + i) p) (omega arith)
    (λ i h. bit_ones 64 i ∙ lt-ltb i 64 h ∙ sym set ∙ high w p i many h)

pub none_word : (w p : ℕ) → 6 ≤ p → testBit w (p - 6) ≡ false → 0 ≡ pack 64 (λ i. testBit (64 * w + i) p)
none_word w p many clear = is_pack 64 0 (λ i. testBit (64 * w + i) p) (omega arith)
    (λ i h. bit_zero i ∙ sym clear ∙ high w p i many h)

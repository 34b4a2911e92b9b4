-- The bits of a number: what each operation on words does to them, and that a number is what its bits are.
use Rattle.std.proofs.Common.{◌≡◌, ℕ, zero, suc, ◌+◌, ◌-◌, ◌*◌, ◌/◌, ◌%◌, ◌^◌, ◌<◌, ◌≤◌, Bool, true, false, cond, not, ◌&&◌, ◌||◌, eqb, ltb, leb, sym, refl, ap, ◌∙◌, ⊎_elim, lt_of_lt_of_le, mul_assoc, pow-suc, one-add, arith, pow_pos, pow_mono, pow-add, shr-shr}
use native.Mathlib.Nat.{zero-div, div-eq_of_lt, div-eq_of_lt-le}
use lib.Dec.{leb-suc-suc}
use lib.Bits.{bit_and, bit_or, and_shr, or_shr, and_mod, or_mod, shifted_even}
use lib.Pow.{shl-shr, field, mod-mod-pow}
use Rattle.std.proofs.lemmas.Bool.{lt-ltb, le-ltb, le-leb, lt-leb, cases_lt}
use Rattle.std.proofs.lemmas.Bool.Decides.{nat_tests}
use Rattle.rows.specs.Row.{testBit, pack}

-- ---- the lowest bit, and the others

div_one : (n : ℕ) → n / 1 ≡ n
div_one n = omega arith

pub bit_low : (w : ℕ) → testBit w 0 ≡ eqb (w % 2) 1
unfolding testBit
bit_low w = ap (λ x. eqb (x % 2) 1) (div_one w)

-- bit i of w, shifted down by k, is its bit k + i
pub bit_shr : (w k i : ℕ) → testBit (w / 2 ^ k) i ≡ testBit w (k + i)
unfolding testBit
bit_shr w k i = ap (λ x. eqb (x % 2) 1) (shr-shr w k i)

pub bit_half : (w i : ℕ) → testBit w (suc i) ≡ testBit (w / 2) i
bit_half w i = ap (testBit w) (sym (one-add i)) ∙ sym (bit_shr w 1 i)

pub bit_zero : (i : ℕ) → testBit 0 i ≡ false
unfolding testBit
bit_zero i = ap (λ x. eqb (x % 2) 1) (zero-div (2 ^ i))

-- ---- and, or

digit_and : (x y : ℕ) → x < 2 → y < 2 → eqb (bit_and x y) 1 ≡ (eqb x 1 && eqb y 1)
digit_and zero y p q = refl
digit_and (suc zero) zero p q = refl
digit_and (suc zero) (suc zero) p q = refl
digit_and (suc zero) (suc (suc y)) p q = absurd (omega arith)
digit_and (suc (suc x)) y p q = absurd (omega arith)

digit_or : (x y : ℕ) → x < 2 → y < 2 → eqb (bit_or x y) 1 ≡ (eqb x 1 || eqb y 1)
digit_or zero y p q = refl
digit_or (suc zero) zero p q = refl
digit_or (suc zero) (suc zero) p q = refl
digit_or (suc zero) (suc (suc y)) p q = absurd (omega arith)
digit_or (suc (suc x)) y p q = absurd (omega arith)

pub testBit_and : (a b i : ℕ) → testBit (bit_and a b) i ≡ (testBit a i && testBit b i)
unfolding testBit
testBit_and a b i =
    ap (λ x. eqb (x % 2) 1) (and_shr a b i) ∙ ap (λ x. eqb x 1) (and_mod (a / 2 ^ i) (b / 2 ^ i) 1)
    ∙ digit_and (a / 2 ^ i % 2) (b / 2 ^ i % 2) (omega arith) (omega arith)

pub testBit_or : (a b i : ℕ) → testBit (bit_or a b) i ≡ (testBit a i || testBit b i)
unfolding testBit
testBit_or a b i =
    ap (λ x. eqb (x % 2) 1) (or_shr a b i) ∙ ap (λ x. eqb x 1) (or_mod (a / 2 ^ i) (b / 2 ^ i) 1)
    ∙ digit_or (a / 2 ^ i % 2) (b / 2 ^ i % 2) (omega arith) (omega arith)

-- ---- not, at n bits

flip : (x y : ℕ) → x + y ≡ 1 → eqb x 1 ≡ not (eqb y 1)
flip zero zero h = absurd (omega arith)
flip zero (suc zero) h = refl
flip zero (suc (suc y)) h = absurd (omega arith)
flip (suc zero) zero h = refl
flip (suc zero) (suc y) h = absurd (omega arith)
flip (suc (suc x)) y h = absurd (omega arith)

pub bit_not : (n w i : ℕ) → w < 2 ^ n → i < n → testBit ((2 ^ n - 1) - w) i ≡ not (testBit w i)
bit_not zero w i h k = absurd (omega arith)
bit_not (suc n) w zero h k =
    bit_low (2 ^ suc n - 1 - w) ∙ flip ((2 ^ suc n - 1 - w) % 2) (w % 2) (omega (arith, pow-suc 2 n)) ∙ ap not (sym (bit_low w))
bit_not (suc n) w (suc i) h k =
    let e : (2 ^ suc n - 1 - w) / 2 ≡ 2 ^ n - 1 - w / 2 = omega (arith, pow-suc 2 n) in
    let below : w / 2 < 2 ^ n = omega (arith, pow-suc 2 n) in
    bit_half (2 ^ suc n - 1 - w) i ∙ ap (λ x. testBit x i) e ∙ bit_not n (w / 2) i below (omega arith) ∙ ap not (sym (bit_half w i))

-- ---- all bits below k

pub bit_ones : (k i : ℕ) → testBit (2 ^ k - 1) i ≡ ltb i k
bit_ones zero i = bit_zero i ∙ sym (le-ltb i 0 (omega arith))
bit_ones (suc k) zero =
    let e : (2 ^ suc k - 1) % 2 ≡ 1 = omega (arith, pow-suc 2 k, pow_pos k) in
    bit_low (2 ^ suc k - 1) ∙ ap (λ x. eqb x 1) e ∙ sym (lt-ltb 0 (suc k) (omega arith))
bit_ones (suc k) (suc i) =
    let e : (2 ^ suc k - 1) / 2 ≡ 2 ^ k - 1 = omega (arith, pow-suc 2 k, pow_pos k) in
    bit_half (2 ^ suc k - 1) i ∙ ap (λ x. testBit x i) e ∙ bit_ones k i ∙ sym (leb-suc-suc (suc i) k)

-- ---- a remainder, and a shift up, at n bits

pub bit_mod : (n w i : ℕ) → i < n → testBit (w % 2 ^ n) i ≡ testBit w i
unfolding testBit
bit_mod n w i h =
    let j : ℕ = n - i - 1 in
    let e : n ≡ j + 1 + i = omega arith in
    ap (λ m. eqb (w % 2 ^ m / 2 ^ i % 2) 1) e ∙ ap (λ x. eqb (x % 2) 1) (field w (j + 1) i)
    ∙ ap (λ x. eqb x 1) (mod-mod-pow (w / 2 ^ i) j 1)

bit_up : (w k i : ℕ) → k ≤ i → testBit (w * 2 ^ k) i ≡ testBit w (i - k)
bit_up w k i h =
    let e : i ≡ k + (i - k) = omega arith in
    ap (testBit (w * 2 ^ k)) e ∙ sym (bit_shr (w * 2 ^ k) k (i - k)) ∙ ap (λ x. testBit x (i - k)) (shl-shr w k)

bit_under : (w k i : ℕ) → i < k → testBit (w * 2 ^ k) i ≡ false
unfolding testBit
bit_under w k i h =
    let j : ℕ = k - i - 1 in
    let e : k ≡ suc j + i = omega arith in
    ap (λ m. eqb (w * 2 ^ m / 2 ^ i % 2) 1) e
    ∙ ap (λ x. eqb (w * x / 2 ^ i % 2) 1) (pow-add 2 (suc j) i)
    ∙ ap (λ x. eqb (x / 2 ^ i % 2) 1) (sym (mul_assoc w (2 ^ suc j) (2 ^ i)))
    ∙ ap (λ x. eqb (x % 2) 1) (shl-shr (w * 2 ^ suc j) i)
    ∙ ap (λ x. eqb x 1) (shifted_even w j)

pub bit_shl : (n w k i : ℕ) → i < n → testBit ((w * 2 ^ k) % 2 ^ n) i ≡ (leb k i && testBit w (i - k))
bit_shl n w k i h =
    bit_mod n (w * 2 ^ k) i h
    ∙ ⊎_elim (λ l. bit_under w k i l ∙ sym (ap (λ b. b && testBit w (i - k)) (lt-leb k i l)))
    (λ l. bit_up w k i l ∙ sym (ap (λ b. b && testBit w (i - k)) (le-leb k i l))) (cases_lt i k)

-- the one bit of 1 << k
pub bit_one : (n k i : ℕ) → i < n → testBit ((1 * 2 ^ k) % 2 ^ n) i ≡ eqb i k
bit_one n k i h = bit_shl n 1 k i h ∙ ap (λ b. leb k i && b) (bit_ones 1 (i - k)) ∙ grind (arith, nat_tests)

-- ---- the highest bit

pub bit_above : (m w i : ℕ) → w < 2 ^ m → m ≤ i → testBit w i ≡ false
unfolding testBit
bit_above m w i h k = ap (λ x. eqb (x % 2) 1) (div-eq_of_lt (lt_of_lt_of_le h (pow_mono k)))

pub bit_top : (w j : ℕ) → 2 ^ j ≤ w → w < 2 ^ suc j → testBit w j ≡ true
unfolding testBit
bit_top w j l h =
    ap (λ x. eqb (x % 2) 1) (div-eq_of_lt-le {k = 1} (2 ^ j) {m = w} (omega (arith, l)) (omega (arith, pow-suc 2 j, h)))

-- ---- a number is what its bits are

same_digit : (x y : ℕ) → x < 2 → y < 2 → eqb x 1 ≡ eqb y 1 → x ≡ y
same_digit x y p q e = grind (arith, nat_tests)

pub bits_same : (n a b : ℕ) → a < 2 ^ n → b < 2 ^ n → ((i : ℕ) → i < n → testBit a i ≡ testBit b i) → a ≡ b
bits_same zero a b p q same = omega arith
bits_same (suc n) a b p q same =
    let lo : a % 2 ≡ b % 2 = same_digit (a % 2) (b % 2) (omega arith) (omega arith) (sym (bit_low a) ∙ same 0 (omega arith) ∙ bit_low b) in
    let pa : a / 2 < 2 ^ n = omega (arith, pow-suc 2 n) in
    let pb : b / 2 < 2 ^ n = omega (arith, pow-suc 2 n) in
    let hi : a / 2 ≡ b / 2 = bits_same n (a / 2) (b / 2) pa pb (λ i h. sym (bit_half a i) ∙ same (suc i) (omega arith) ∙ bit_half b i) in
    omega arith

digit_lt : (b : Bool) → cond {A = ℕ} b 1 0 < 2
digit_lt true = omega arith
digit_lt false = omega arith

digit_is : (b : Bool) → eqb (cond b 1 0) 1 ≡ b
digit_is true = refl
digit_is false = refl

pub pack_lt : (n : ℕ) (f : ℕ → Bool) → pack n f < 2 ^ n
unfolding pack
pack_lt zero f = omega arith
pack_lt (suc n) f = omega (arith, pack_lt n (λ i. f (suc i)), pow-suc 2 n, digit_lt (f 0))

pub bit_pack : (n : ℕ) (f : ℕ → Bool) (i : ℕ) → i < n → testBit (pack n f) i ≡ f i
unfolding pack
bit_pack zero f i h = absurd (omega arith)
bit_pack (suc n) f zero h =
    let q : ℕ = pack n (λ i. f (suc i)) in
    let e : (q * 2 + cond (f 0) 1 0) % 2 ≡ cond (f 0) 1 0 = omega (arith, digit_lt (f 0)) in
    bit_low (pack (suc n) f) ∙ ap (λ x. eqb x 1) e ∙ digit_is (f 0)
bit_pack (suc n) f (suc i) h =
    let q : ℕ = pack n (λ i. f (suc i)) in
    let e : (q * 2 + cond (f 0) 1 0) / 2 ≡ q = omega (arith, digit_lt (f 0)) in
    bit_half (pack (suc n) f) i ∙ ap (λ x. testBit x i) e ∙ bit_pack n (λ i. f (suc i)) i (omega arith)

-- the form that a proof uses: w is the pack of f when each of its bits is what f says
pub is_pack : (n w : ℕ) (f : ℕ → Bool) → w < 2 ^ n → ((i : ℕ) → i < n → testBit w i ≡ f i) → w ≡ pack n f
is_pack n w f h same = bits_same n w (pack n f) h (pack_lt n f) (λ i k. same i k ∙ sym (bit_pack n f i k))

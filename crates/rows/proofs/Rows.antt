-- Rows by their bits: what words a row has, what a row of a function says, and that rows with the same bits are equal.
use Rattle.std.proofs.Common.{◌≡◌, ℕ, zero, suc, ◌+◌, ◌-◌, ◌*◌, ◌/◌, ◌%◌, ◌^◌, ◌<◌, ◌≤◌, Bool, true, false, cond, not, ◌&&◌, ◌||◌, eqb, ltb, List, [], ◌∷◌, length, get_or, sym, refl, ap, ◌∙◌, subst, ap₂, ⊎_elim, pow-suc, arith}
use lib.Bits.{bit_and, bit_or, and_lt, or_lt}
use lib.Count.{count_leading_zeros, leading_length}
use Rattle.std.proofs.lemmas.List.{get_or_past}
use Rattle.std.proofs.lemmas.Bool.{cases_lt, cases_eq, lt-leb, le-leb, and_right, and_left, and_from, ne_eqb, eq-eqb, cases_Bool, both_ways}
use Rattle.std.proofs.Math.Bool.{or-false}
use Rattle.std.proofs.lemmas.Bool.Decides.{nat_tests}
use Rattle.rows.specs.Row.{testBit, low_ones, bit, row_of, true_from, Ends}
use Rattle.rows.proofs.Bits.{bit_zero, bit_half, bit_shl, bit_above, bit_top, bit_one, bit_pack, testBit_and, testBit_or, bit_not, pack_lt, is_pack}

-- the word w, as the word k of a row, says what f says
pub record Says (w k : ℕ) (f : ℕ → Bool) : Type 0 where
  pub fits : w < 2 ^ 64
  pub at : (i : ℕ) → i < 64 → testBit w i ≡ f (64 * k + i)

-- ---- rows from words

-- four words that say what f says are f's row
pub is_row : {a b c d : ℕ} {f : ℕ → Bool} → Says a 0 f → Says b 1 f → Says c 2 f → Says d 3 f → a ∷ b ∷ c ∷ d ∷ [] ≡ row_of f
unfolding row_of
is_row {a} {b} {c} {d} {f} p q r s =
    let e0 = is_pack 64 a f p.fits (λ i h. p.at i h ∙ ap f (omega arith)) in
    let e1 = is_pack 64 b (λ i. f (64 + i)) q.fits q.at in
    let e2 = is_pack 64 c (λ i. f (128 + i)) r.fits r.at in
    let e3 = is_pack 64 d (λ i. f (192 + i)) s.fits s.at in
    cc

-- the same of a list of four words
pub is_row_list : (row : List ℕ) (f : ℕ → Bool) → length row ≡ 4 → ((k : ℕ) → k < 4 → Says (get_or row k 0) k f) → row ≡ row_of f
is_row_list [] f n says = absurd (omega arith)
is_row_list (a ∷ []) f n says = absurd (omega arith)
is_row_list (a ∷ b ∷ []) f n says = absurd (omega arith)
is_row_list (a ∷ b ∷ c ∷ []) f n says = absurd (omega arith)
is_row_list (a ∷ b ∷ c ∷ d ∷ []) f n says = is_row (says 0 (omega arith)) (says 1 (omega arith)) (says 2 (omega arith)) (says 3 (omega arith))
is_row_list (a ∷ b ∷ c ∷ d ∷ e ∷ row) f n says = absurd (omega arith)

-- the same of words that were made one by one
pub made_row : {f : ℕ → Bool} (row : List ℕ) (word : ℕ → ℕ) → length row ≡ 4 → ((k : ℕ) → k < 4 → get_or row k 0 ≡ word k) → ((k : ℕ) → k < 4 → Says (word k) k f)
    → row ≡ row_of f
made_row {f} row word n is says = is_row_list row f n (λ k h. subst (λ w. Says w k f) (sym (is k h)) (says k h))

-- ---- what a row says

pub bit_word : (row : List ℕ) (k i : ℕ) → i < 64 → bit row (64 * k + i) ≡ testBit (get_or row k 0) i
unfolding bit
bit_word row k i l =
    let q : (64 * k + i) / 64 ≡ k = omega arith in
    let r : (64 * k + i) % 64 ≡ i = omega arith in
    ap₂ (λ x y. testBit (get_or row x 0) y) q r

-- the word k of f's row
pub row_of_says : (f : ℕ → Bool) (k : ℕ) → k < 4 → Says (get_or (row_of f) k 0) k f
unfolding row_of
row_of_says f zero h = record { fits = pack_lt 64 f; at = λ i l. bit_pack 64 f i l ∙ ap f (omega arith) }
row_of_says f (suc zero) h = record { fits = pack_lt 64 (λ j. f (64 + j)); at = λ i l. bit_pack 64 (λ j. f (64 + j)) i l }
row_of_says f (suc (suc zero)) h = record { fits = pack_lt 64 (λ j. f (128 + j)); at = λ i l. bit_pack 64 (λ j. f (128 + j)) i l }
row_of_says f (suc (suc (suc zero))) h = record { fits = pack_lt 64 (λ j. f (192 + j)); at = λ i l. bit_pack 64 (λ j. f (192 + j)) i l }
row_of_says f (suc (suc (suc (suc k)))) h = absurd (omega arith)

pub length_row_of : (f : ℕ → Bool) → length (row_of f) ≡ 4
unfolding row_of
length_row_of f = refl

pub bit_row_of : (f : ℕ → Bool) (i : ℕ) → i < 256 → bit (row_of f) i ≡ f i
bit_row_of f i h =
    let e : i ≡ 64 * (i / 64) + i % 64 = omega arith in
    ap (bit (row_of f)) e ∙ bit_word (row_of f) (i / 64) (i % 64) (omega arith)
    ∙ (row_of_says f (i / 64) (omega arith)).at (i % 64) (omega arith) ∙ ap f (sym e)

pub bit_past : (row : List ℕ) → length row ≡ 4 → (i : ℕ) → 256 ≤ i → bit row i ≡ false
unfolding bit
bit_past row n i h = ap (λ w. testBit w (i % 64)) (get_or_past row (i / 64) 0 (omega arith)) ∙ bit_zero (i % 64)

pub said : (row : List ℕ) (f : ℕ → Bool) → row ≡ row_of f → (i : ℕ) → i < 256 → bit row i ≡ f i
said row f e i h = ap (λ x. bit x i) e ∙ bit_row_of f i h

-- ---- rows with the same bits are equal

-- what one says, another says that agrees with it
pub says_like : {u k : ℕ} {f g : ℕ → Bool} → Says u k f → ((i : ℕ) → i < 64 → f (64 * k + i) ≡ g (64 * k + i)) → Says u k g
says_like {k = k} p same = record { fits = p.fits; at = λ i h. p.at i h ∙ same i h }

pub row_of_same : (f g : ℕ → Bool) → ((i : ℕ) → i < 256 → f i ≡ g i) → row_of f ≡ row_of g
row_of_same f g same =
    is_row_list (row_of f) g (length_row_of f) (λ k h. says_like (row_of_says f k h) (λ i l. same (64 * k + i) (omega arith)))

-- ---- the operations on words

-- an operator on words acts on each bit alone, as `both` says
pub record Bitwise (operator : ℕ → ℕ → ℕ) (both : Bool → Bool → Bool) : Type 0 where
  pub fits : (u v : ℕ) → u < 2 ^ 64 → v < 2 ^ 64 → operator u v < 2 ^ 64
  pub at : (u v i : ℕ) → v < 2 ^ 64 → i < 64 → testBit (operator u v) i ≡ both (testBit u i) (testBit v i)

pub bitwise_and : Bitwise bit_and (λ x y. x && y)
bitwise_and = record { fits = λ u v. and_lt 64 u v; at = λ u v i p h. testBit_and u v i }

pub bitwise_or : Bitwise bit_or (λ x y. x || y)
bitwise_or = record { fits = λ u v. or_lt 64 u v; at = λ u v i p h. testBit_or u v i }

pub bitwise_minus : Bitwise (λ u v. bit_and u ((2 ^ 64 - 1) - v)) (λ x y. x && not y)
bitwise_minus =
    record {
      fits = λ u v p q. and_lt 64 u ((2 ^ 64 - 1) - v) p (omega arith);
      at = λ u v i q h. testBit_and u ((2 ^ 64 - 1) - v) i ∙ ap (λ y. testBit u i && y) (bit_not 64 v i q h);
    }

pub bitwise_or_not : Bitwise (λ u v. bit_or u ((2 ^ 64 - 1) - v)) (λ x y. x || not y)
bitwise_or_not =
    record {
      fits = λ u v p q. or_lt 64 u ((2 ^ 64 - 1) - v) p (omega arith);
      at = λ u v i q h. testBit_or u ((2 ^ 64 - 1) - v) i ∙ ap (λ y. testBit u i || y) (bit_not 64 v i q h);
    }

-- a row that such an operator made of two rows, word by word, says of each position what `both` says
pub combined : {operator : ℕ → ℕ → ℕ} {both : Bool → Bool → Bool} → Bitwise operator both → (a b row : List ℕ)
    → ((k : ℕ) → k < 4 → get_or a k 0 < 2 ^ 64) → ((k : ℕ) → k < 4 → get_or b k 0 < 2 ^ 64)
    → length row ≡ 4 → ((k : ℕ) → k < 4 → get_or row k 0 ≡ operator (get_or a k 0) (get_or b k 0)) → row ≡ row_of (λ i. both (bit a i) (bit b i))
combined {operator} {both} bitwise a b row p q n is =
    made_row row (λ k. operator (get_or a k 0) (get_or b k 0)) n is
    (λ k h. record {
      fits = bitwise.fits (get_or a k 0) (get_or b k 0) (p k h) (q k h);
      at = λ i l. bitwise.at (get_or a k 0) (get_or b k 0) i (q k h) l ∙ ap₂ both (sym (bit_word a k i l)) (sym (bit_word b k i l));
    })

-- the word k of the row that is true below n has its lowest bits set
pub says_ones : (k n : ℕ) → Says (low_ones (n - 64 * k)) k (λ i. ltb i n)
unfolding low_ones
says_ones k n =
    let left : ℕ = n - 64 * k in
    record { fits = pack_lt 64 (λ i. ltb i left); at = λ i h. bit_pack 64 (λ i. ltb i left) i h ∙ below i }
  where
    below : (i : ℕ) → ltb i (n - 64 * k) ≡ ltb (64 * k + i) n
    below i = grind (arith, nat_tests)

-- the row, moved one position down: its word k takes its top bit from the word above, and the last word has none above
pub says_earlier : (row : List ℕ) (k : ℕ) → get_or row k 0 < 2 ^ 64
    → Says (bit_or (get_or row k 0 / 2) ((get_or row (k + 1) 0 * 2 ^ 63) % 2 ^ 64)) k (λ i. bit row (i + 1))
says_earlier row k fit =
    let u : ℕ = get_or row k 0 in
    let v : ℕ = get_or row (k + 1) 0 in
    record {
      fits = or_lt 64 (u / 2) (v * 2 ^ 63 % 2 ^ 64) (omega arith) (omega arith);
      at = λ i h. testBit_or (u / 2) (v * 2 ^ 63 % 2 ^ 64) i
          ∙ ap₂ (λ x y. x || y) (sym (bit_half u i)) (bit_shl 64 v 63 i h)
          ∙ ⊎_elim
          (λ (l : i < 63). ap (λ b. testBit u (suc i) || (b && testBit v (i - 63))) (lt-leb 63 i l) ∙ or-false (testBit u (suc i))
          ∙ sym (bit_word row k (suc i) (omega arith)) ∙ ap (bit row) (omega arith))
          (λ (l : 63 ≤ i).
          let top : i ≡ 63 = omega arith in
          ap₂ (λ b c. b || (c && testBit v (i - 63))) (bit_above 64 u (suc i) fit (omega arith)) (le-leb 63 i l)
          ∙ ap (testBit v) (omega arith) ∙ sym (bit_word row (k + 1) 0 (omega arith)) ∙ ap (bit row) (omega arith))
          (cases_lt i 63);
    }

-- ---- a row with one bit, or none

-- a word of no bits
pub zero_says : (k : ℕ) (f : ℕ → Bool) → ((i : ℕ) → i < 64 → f (64 * k + i) ≡ false) → Says 0 k f
zero_says k f none = record { fits = omega arith; at = λ i h. bit_zero i ∙ sym (none i h) }

-- the word k of the row that is true at i alone, if `truth` is
pub says_only_at : (truth : Bool) (i k : ℕ) → Says (cond (truth && eqb k (i / 64)) ((1 * 2 ^ (i % 64)) % 2 ^ 64) 0) k (λ j. truth && eqb j i)
says_only_at false i k = zero_says k (λ j. false) (λ j h. refl)
says_only_at true i k =
    ⊎_elim
    (λ (e : k ≡ i / 64).
    subst (λ b. Says (cond b ((1 * 2 ^ (i % 64)) % 2 ^ 64) 0) k (λ j. eqb j i)) (sym (eq-eqb k (i / 64) e))
    (record { fits = omega arith; at = λ j h. bit_one 64 (i % 64) j h ∙ grind (arith, nat_tests) }))
    (λ ne.
    subst (λ b. Says (cond b ((1 * 2 ^ (i % 64)) % 2 ^ 64) 0) k (λ j. eqb j i)) (sym (ne_eqb k (i / 64) ne))
    (zero_says k (λ j. eqb j i) (λ j h. ne_eqb (64 * k + j) i (λ e. ne (omega arith)))))
    (cases_eq k (i / 64))

pub empty_row : (f : ℕ → Bool) → ((i : ℕ) → i < 256 → f i ≡ false) → 0 ∷ 0 ∷ 0 ∷ 0 ∷ [] ≡ row_of f
empty_row f none =
    is_row (zero_says 0 f (λ i h. none (64 * 0 + i) (omega arith))) (zero_says 1 f (λ i h. none (64 * 1 + i) (omega arith)))
    (zero_says 2 f (λ i h. none (64 * 2 + i) (omega arith))) (zero_says 3 f (λ i h. none (64 * 3 + i) (omega arith)))

-- ---- the last bit of a row

top_bit : (w m j : ℕ) → m ≡ suc j → w < 2 ^ m → 2 ^ m ≤ 2 * w + 1 → testBit w j ≡ true
top_bit w m j e h l =
    let h' : w < 2 ^ suc j = subst (λ x. w < 2 ^ x) e h in
    let l' : 2 ^ suc j ≤ 2 * w + 1 = subst (λ x. 2 ^ x ≤ 2 * w + 1) e l in
    bit_top w j (omega (arith, pow-suc 2 j)) h'

-- where the word k has a bit and none above it has one, the row ends after that word's highest
pub ends_in : (row : List ℕ) (k : ℕ) → k < 4 → get_or row k 0 < 2 ^ 64 → 0 < get_or row k 0 → ((j : ℕ) → k < j → get_or row j 0 ≡ 0)
    → Ends row (64 * (k + 1) - count_leading_zeros 64 (get_or row k 0))
unfolding bit
ends_in row k h fit pos above =
    let w : ℕ = get_or row k 0 in
    let t = leading_length 64 w fit in
    let m : ℕ = t.0 in
    record {
      fits = omega arith;
      within = λ i l.
          ⊎_elim
          (λ e. ap (λ x. testBit (get_or row x 0) (i % 64)) e ∙ bit_above m w (i % 64) t.2 (omega (arith, t.1)))
          (λ ne. ap (λ x. testBit x (i % 64)) (above (i / 64) (omega (arith, t.1, ne))) ∙ bit_zero (i % 64)) (cases_eq (i / 64) k);
      last = λ i e.
          ⊎_elim
          (λ (l : 0 < m).
          let at : i ≡ 64 * k + (m - 1) = omega (arith, t.1) in
          ap (bit row) at ∙ bit_word row k (m - 1) (omega (arith, t.1)) ∙ top_bit w m (m - 1) (omega arith) t.2 t.3)
          (λ (l : m ≤ 0).
          let z : m ≡ 0 = omega arith in
          let none : w < 1 = subst (λ x. w < 2 ^ x) z t.2 in
          absurd (omega arith))
          (cases_lt 0 m);
    }

-- where no word has a bit, the row ends at its start
pub ends_at_start : (row : List ℕ) → ((j : ℕ) → get_or row j 0 ≡ 0) → Ends row 0
unfolding bit
ends_at_start row none =
    record { fits = omega arith; within = λ i l. ap (λ x. testBit x (i % 64)) (none (i / 64)) ∙ bit_zero (i % 64); last = λ i e. absurd (omega arith) }

-- ---- a stretch of positions

pub true_from_true : (f : ℕ → Bool) (k n : ℕ) → ((j : ℕ) → k ≤ j → j < k + n → f j ≡ true) → true_from n k f ≡ true
unfolding true_from
true_from_true f k zero each = refl
true_from_true f k (suc n) each =
    and_from (f k) (true_from n (suc k) f) (each k (omega arith) (omega arith))
    (true_from_true f (suc k) n (λ j p q. each j (omega arith) (omega arith)))

pub true_from_false : (f : ℕ → Bool) (k n j : ℕ) → k ≤ j → j < k + n → f j ≡ false → true_from n k f ≡ false
unfolding true_from
true_from_false f k zero j p q e = absurd (omega arith)
true_from_false f k (suc n) j p q e =
    ⊎_elim (λ same. and_left (f k) (true_from n (suc k) f) (ap f same ∙ e))
    (λ ne. and_right (f k) (true_from n (suc k) f) (true_from_false f (suc k) n j (omega (arith, ne)) (omega arith) e)) (cases_eq k j)

pub true_from_at : (f : ℕ → Bool) (k n j : ℕ) → true_from n k f ≡ true → k ≤ j → j < k + n → f j ≡ true
true_from_at f k n j all p q =
    ⊎_elim (λ t. t) (λ e. absurd (both_ways (true_from n k f) (true_from_false f k n j p q e) all)) (cases_Bool (f j))

-- Where the rows of formulas stand in the words, and what they say there.
use Rattle.std.proofs.Common.{◌≡◌, ℕ, zero, suc, ◌+◌, ◌-◌, ◌*◌, ◌/◌, ◌%◌, ◌<◌, ◌≤◌, false, ◌&&◌, List, [], ◌∷◌, ◌++◌, length, get_or, take, drop, sym, refl, ap, ◌∙◌, ⊎_elim, arith}
use Rattle.std.proofs.lemmas.List.{append_assoc, length-append, length-take, length-drop, take_at, drop_at, drop-drop, get_or-take, get_or-drop, get_or_past}
use Rattle.std.proofs.lemmas.Bool.{lt-ltb, le-ltb, cases_lt}
use Rattle.logic.specs.Formula.{Formula}
use Rattle.logic.specs.Run.{Run}
use Rattle.logic.specs.Decide.{truth}
use Rattle.formulas.specs.Forming.{numbered}
use Rattle.rows.specs.Row.{bit, testBit}
use Rattle.rows.proofs.Rows.{length_row_of, bit_row_of, bit_past}
use Rattle.row_writer.specs.RowsAlong.{truth_row, rows_along, with_rows, row_at, row_says}

-- ---- one row in the words

-- the row with a number, word by word
word_of : (words : List ℕ) (n k : ℕ) → get_or (row_at words n) k 0 ≡ get_or (take 4 (drop (4 * n) words)) k 0
word_of words n k = ⊎_elim (λ (h : k < 4). near k h ∙ sym (get_or-take 4 (drop (4 * n) words) k 0 h ∙ get_or-drop (4 * n) words k 0))
    (λ (h : 4 ≤ k). get_or_past (row_at words n) k 0 h ∙ sym (get_or_past (take 4 (drop (4 * n) words)) k 0 (omega (arith, length-take 4 (drop (4 * n) words)))))
    (cases_lt k 4)
  where
    near : (k : ℕ) → k < 4 → get_or (row_at words n) k 0 ≡ get_or words (4 * n + k) 0
    near zero h = ap (λ m. get_or words m 0) (omega arith)
    near (suc zero) h = refl
    near (suc (suc zero)) h = refl
    near (suc (suc (suc zero))) h = refl
    near (suc (suc (suc (suc k)))) h = absurd (omega arith)

by_place : (words : List ℕ) (n i : ℕ) → bit (row_at words n) i ≡ bit (take 4 (drop (4 * n) words)) i
unfolding bit
by_place words n i = ap (λ w. testBit w (i % 64)) (word_of words n (i / 64))

pub row_at_says : (words : List ℕ) (n i : ℕ) → bit (row_at words n) i ≡ row_says words n i
unfolding row_says
row_at_says words n i = refl

-- ---- the rows of formulas

pub truth_row_length : (r : Run) (A : Formula) → length (truth_row r A) ≡ 4
unfolding truth_row
truth_row_length r A = length_row_of _

pub rows_along_length : (r : Run) (fs : List Formula) → length (rows_along r fs) ≡ 4 * length fs
unfolding rows_along
rows_along_length r [] = refl
rows_along_length r (A ∷ As) = length-append (truth_row r A) (rows_along r As) ∙ omega (arith, truth_row_length r A, rows_along_length r As)

-- the rows stand one after another
pub row_there : (r : Run) (fs : List Formula) (rest : List ℕ) (f : ℕ) → f < length fs → take 4 (drop (4 * f) (rows_along r fs ++ rest)) ≡ truth_row r (numbered fs f)
unfolding rows_along
row_there r [] rest f h = absurd (omega arith)
row_there r (A ∷ As) rest zero h =
    ap (take 4) (append_assoc (truth_row r A) (rows_along r As) rest) ∙ take_at (truth_row r A) (rows_along r As ++ rest) 4 (truth_row_length r A)
row_there r (A ∷ As) rest (suc f) h =
    let e : 4 * suc f ≡ 4 + 4 * f = omega arith in
    ap (λ n. take 4 (drop n ((truth_row r A ++ rows_along r As) ++ rest))) e
    ∙ ap (take 4) (sym (drop-drop (4 * f) 4 ((truth_row r A ++ rows_along r As) ++ rest))
    ∙ ap (drop (4 * f)) (ap (drop 4) (append_assoc (truth_row r A) (rows_along r As) rest) ∙ drop_at (truth_row r A) (rows_along r As ++ rest) 4 (truth_row_length r A)))
    ∙ row_there r As rest f (omega arith)

-- what a formula's row says up to the loop's end is its truth
pub row_along : (r : Run) (fs : List Formula) (words : List ℕ) (f i : ℕ) → f < length fs → i < r.stem + r.loop → r.stem + r.loop ≤ 256
    → row_says (with_rows r fs words) f i ≡ truth r (numbered fs f) i
unfolding row_says with_rows truth_row
row_along r fs words f i h l long =
    by_place (with_rows r fs words) f i
    ∙ ap (λ row. bit row i) (row_there r fs (drop (4 * length fs) words) f h)
    ∙ bit_row_of _ i (omega arith)
    ∙ ap (λ b. b && truth r (numbered fs f) i) (lt-ltb i (r.stem + r.loop) l)

-- and after that, nothing
pub row_behind : (r : Run) (fs : List Formula) (words : List ℕ) (f i : ℕ) → f < length fs → r.stem + r.loop ≤ i → row_says (with_rows r fs words) f i ≡ false
unfolding row_says with_rows truth_row
row_behind r fs words f i h l =
    by_place (with_rows r fs words) f i
    ∙ ap (λ row. bit row i) (row_there r fs (drop (4 * length fs) words) f h)
    ∙ ⊎_elim
    (λ (low : i < 256). bit_row_of _ i low ∙ ap (λ b. b && truth r (numbered fs f) i) (le-ltb i (r.stem + r.loop) l))
    (λ (high : 256 ≤ i). bit_past (truth_row r (numbered fs f)) (truth_row_length r (numbered fs f)) i high)
    (cases_lt i 256)

-- the words after the rows stay
pub rest_stays : (r : Run) (fs : List Formula) (words : List ℕ) → drop (4 * length fs) (with_rows r fs words) ≡ drop (4 * length fs) words
unfolding with_rows
rest_stays r fs words = drop_at (rows_along r fs) (drop (4 * length fs) words) (4 * length fs) (rows_along_length r fs)

-- rows written over the rows of at most as many formulas leave nothing of these
pub rows_over : (r q : Run) (fs gs : List Formula) (words : List ℕ) → length gs ≤ length fs → with_rows r fs (with_rows q gs words) ≡ with_rows r fs words
unfolding with_rows
rows_over r q fs gs words fewer =
    let all : 4 * length gs + (4 * length fs - 4 * length gs) ≡ 4 * length fs = omega (arith, fewer) in
    ap (λ (rest : List ℕ). rows_along r fs ++ rest)
    (ap (λ (n : ℕ). drop n (with_rows q gs words)) (sym all)
    ∙ sym (drop-drop (4 * length fs - 4 * length gs) (4 * length gs) (with_rows q gs words))
    ∙ ap (drop (4 * length fs - 4 * length gs)) (rest_stays q gs words)
    ∙ drop-drop (4 * length fs - 4 * length gs) (4 * length gs) words
    ∙ ap (λ (n : ℕ). drop n words) all)

-- writing the rows keeps the number of words
pub with_rows_length : (r : Run) (fs : List Formula) (words : List ℕ) → 4 * length fs ≤ length words → length (with_rows r fs words) ≡ length words
unfolding with_rows
with_rows_length r fs words room =
    length-append (rows_along r fs) (drop (4 * length fs) words)
    ∙ omega (arith, rows_along_length r fs, length-drop (4 * length fs) words)

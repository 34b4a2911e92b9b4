-- The row of an entry is that of its formula, and the rows grow by one at a time.
use Rattle.std.proofs.Common.{◌≡◌, ℕ, ◌+◌, ◌*◌, ◌<◌, ◌≤◌, true, ltb, List, [], ◌∷◌, ◌++◌, length, get_or, take, drop, sym, refl, ap, ◌∙◌, subst, ap₂, arith}
use Rattle.std.proofs.lemmas.List.{append_assoc, append-nil, length_push, length-take-le, get_or-take, take_at, take_more, drop_at, drop-drop}
use Rattle.std.proofs.lemmas.Bool.{and_parts, ltb-true, leb-true}
use Rattle.logic.specs.Formula.{Formula, falsum}
use Rattle.logic.specs.Run.{Run}
use Rattle.formulas.specs.declared.entry.Entry.{Entry}
use Rattle.formulas.specs.declared.entry.Entry.TheVariants.{False, Atom, Implies, Next, Always}
use Rattle.formulas.specs.Entries.{placed, Lower}
use Rattle.formulas.specs.Decode.{of_entry, formula_at, decoded}
use Rattle.formulas.specs.Forming.{numbered}
use Rattle.formulas.proofs.Decoded.{of_entry_same, formula_at_is, decoded_length, decoded_at}
use Rattle.row_writer.specs.RowsAlong.{truth_row, rows_along, with_rows, row_at}
use Rattle.row_writer.specs.Steps.{entry_row}
use Rattle.row_writer.proofs.RowsAlong.{rows_along_length, row_along, row_at_says}
use Rattle.row_writer.proofs.Folding.{RowTells, false_folds, atom_folds, implies_folds, next_folds, always_folds}

-- where the words tell of all formulas below an entry, its row is that of its formula
entry_folds : (r : Run) (fs : List Formula) (words : List ℕ) → ((f : ℕ) → f < length fs → RowTells r (numbered fs f) (row_at words f))
    → (e : Entry) → placed (length fs) e ≡ true → entry_row r words e ≡ truth_row r (of_entry (numbered fs) e)
entry_folds r fs words tell False p = false_folds r
entry_folds r fs words tell (Atom a) p = atom_folds r a (omega (arith, leb-true a 31 p))
entry_folds r fs words tell (Implies a b) p =
    let q = and_parts (ltb a (length fs)) (ltb b (length fs)) p in
    implies_folds r (numbered fs a) (numbered fs b) (row_at words a) (row_at words b) (tell a (ltb-true a (length fs) q.0)) (tell b (ltb-true b (length fs) q.1))
entry_folds r fs words tell (Next a) p = next_folds r (numbered fs a) (row_at words a) (tell a (ltb-true a (length fs) p))
entry_folds r fs words tell (Always a) p = always_folds r (numbered fs a) (row_at words a) (tell a (ltb-true a (length fs) p))

rows_push : (r : Run) (fs : List Formula) (A : Formula) → rows_along r (fs ++ A ∷ []) ≡ rows_along r fs ++ truth_row r A
unfolding rows_along
rows_push r [] A = append-nil (truth_row r A)
rows_push r (B ∷ fs) A = ap (λ rows. truth_row r B ++ rows) (rows_push r fs A) ∙ sym (append_assoc (truth_row r B) (rows_along r fs) (truth_row r A))

-- the row of one formula more, written after the others
with_rows_push : (r : Run) (fs : List Formula) (A : Formula) (old : List ℕ)
    → take (4 * length fs) (with_rows r fs old) ++ truth_row r A ++ drop (4 * length fs + 4) (with_rows r fs old) ≡ with_rows r (fs ++ A ∷ []) old
unfolding with_rows
with_rows_push r fs A old =
    let rest = drop (4 * length fs) old in
    let long = rows_along_length r fs in
    let e : 4 * length fs + 4 ≡ 4 * length (fs ++ A ∷ []) = omega (arith, length_push fs A) in
    ap₂ (λ front back. front ++ truth_row r A ++ back) (take_at (rows_along r fs) rest (4 * length fs) long)
    (sym (drop-drop 4 (4 * length fs) (rows_along r fs ++ rest)) ∙ ap (drop 4) (drop_at (rows_along r fs) rest (4 * length fs) long)
    ∙ drop-drop 4 (4 * length fs) old ∙ ap (λ n. drop n old) e)
    ∙ ap (λ rows. rows ++ drop (4 * length (fs ++ A ∷ [])) old) (sym (rows_push r fs A))

-- the row of the entry with the number n, where those below it are written
module _ (r : Run) (long : r.stem + r.loop ≤ 256) (es : List Entry) (low : Lower es) (old : List ℕ) (n : ℕ) (below : n < length es) where
  within : n < length (decoded es)
  within = omega (arith, below, decoded_length es)

  part_length : length (take n (decoded es)) ≡ n
  part_length = length-take-le n (decoded es) (omega (arith, within))

  meant : of_entry (numbered (take n (decoded es))) (get_or es n False) ≡ numbered (decoded es) n
  meant =
      of_entry_same (numbered (take n (decoded es))) (formula_at es) n (get_or es n False) (low n below)
      (λ a l. get_or-take n (decoded es) a falsum l ∙ decoded_at es a (omega (arith, below)))
      ∙ sym (formula_at_is es low n below) ∙ sym (decoded_at es n below)

  row_is : entry_row r (with_rows r (take n (decoded es)) old) (get_or es n False) ≡ truth_row r (numbered (decoded es) n)
  row_is =
      entry_folds r (take n (decoded es)) (with_rows r (take n (decoded es)) old)
      (λ f l i h. row_at_says (with_rows r (take n (decoded es)) old) f i ∙ row_along r (take n (decoded es)) old f i l h long)
      (get_or es n False) (subst (λ (k : ℕ). placed k (get_or es n False) ≡ true) (sym part_length) (low n below))
      ∙ ap (truth_row r) meant

  -- once it is stored, one row more is written
  pub with_rows_more : (words row : List ℕ) → words ≡ with_rows r (take n (decoded es)) old → row ≡ entry_row r words (get_or es n False)
      → take (4 * n) words ++ row ++ drop (4 * n + 4) words ≡ with_rows r (take (n + 1) (decoded es)) old
  with_rows_more words row inv made =
      ap₂ (λ x y. take (4 * n) x ++ y ++ drop (4 * n + 4) x) inv (made ∙ ap (λ ws. entry_row r ws (get_or es n False)) inv ∙ row_is)
      ∙ ap (λ k. take (4 * k) (with_rows r (take n (decoded es)) old) ++ truth_row r (numbered (decoded es) n) ++ drop (4 * k + 4) (with_rows r (take n (decoded es)) old)) (sym part_length)
      ∙ with_rows_push r (take n (decoded es)) (numbered (decoded es) n) old
      ∙ ap (λ fs. with_rows r fs old) (sym (take_more (decoded es) n falsum within))

-- before the first row nothing is written
pub with_rows_none : (r : Run) (fs : List Formula) (old : List ℕ) → old ≡ with_rows r (take 0 fs) old
unfolding with_rows rows_along
with_rows_none r fs old = refl

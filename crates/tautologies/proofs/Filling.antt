-- Lists that are filled place by place.
use Rattle.std.proofs.Common.{[], ap, ◌≡◌, ℕ, ◌<◌, List, length, get_or, set, sym, ◌∙◌, get_or-set_other, get_or-set_same}
use Rattle.std.proofs.lemmas.Option.{slice_get-get_or}
use Rattle.lists.proofs.Members.{some_same}

-- a word of a row that was written, and of any other
pub word_same : (rows : List (List ℕ)) (p w : ℕ) (row : List ℕ) → p < length rows → get_or (get_or (set rows p row) p []) w 0 ≡ get_or row w 0
word_same rows p w row room = ap (λ (r : List ℕ). get_or r w 0) (get_or-set_same rows p row [] room)

pub word_other : (rows : List (List ℕ)) (p q w : ℕ) (row : List ℕ) → (q ≡ p → ⊥) → get_or (get_or (set rows p row) q []) w 0 ≡ get_or (get_or rows q []) w 0
word_other rows p q w row ne = ap (λ (r : List ℕ). get_or r w 0) (get_or-set_other rows p q row [] ne)

-- what stands at a place in a list is the same whatever would stand behind its end
pub any_default : (xs : List ℕ) (i d e : ℕ) → i < length xs → get_or xs i d ≡ get_or xs i e
any_default xs i d e h = some_same (sym (slice_get-get_or xs i d h) ∙ slice_get-get_or xs i e h)

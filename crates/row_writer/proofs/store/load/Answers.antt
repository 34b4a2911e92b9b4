-- Word by word, the row is what stands in its place.
use Rattle.std.proofs.Common.{◌≡◌, ℕ, ◌+◌, ◌*◌, ◌<◌, List, [], ◌∷◌, length, get_or, ap, ◌∙◌, arith, rules}
use Rattle.row_writer.proofs.store.load.Goals as goal

-- four words, one by one
four : (row : List ℕ) (word : ℕ → ℕ) → length row ≡ 4 → ((k : ℕ) → k < 4 → get_or row k 0 ≡ word k) → row ≡ word 0 ∷ word 1 ∷ word 2 ∷ word 3 ∷ []
four [] word n is = absurd (omega arith)
four (a ∷ []) word n is = absurd (omega arith)
four (a ∷ b ∷ []) word n is = absurd (omega arith)
four (a ∷ b ∷ c ∷ []) word n is = absurd (omega arith)
four (a ∷ b ∷ c ∷ d ∷ []) word n is = cc (is 0 (omega arith), is 1 (omega arith), is 2 (omega arith), is 3 (omega arith))
four (a ∷ b ∷ c ∷ d ∷ e ∷ row) word n is = absurd (omega arith)

pub returns : goal.returns
returns c =
    let word = λ (k : ℕ). get_or c.args.words.now (4 * c.args.number + k) 0 in
    let first : 4 * c.args.number + 0 ≡ 4 * c.args.number = omega arith in
    four c.from_fn.result word c.from_fn.ensures.items.long (λ k h. search rules) ∙ ap (λ m. get_or c.args.words.now m 0 ∷ word 1 ∷ word 2 ∷ word 3 ∷ []) first

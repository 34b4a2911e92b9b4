-- A row that grows by one position at a time.
use Rattle.std.proofs.Common.{◌≡◌, ℕ, ◌+◌, ◌<◌, Bool, false, ◌&&◌, ◌||◌, eqb, ltb, List, ap₂, ap, ◌∙◌, arith}
use Rattle.std.proofs.lemmas.Bool.{and_left, le-ltb}
use Rattle.std.proofs.lemmas.Bool.Decides.{nat_tests}
use Rattle.rows.specs.Row.{bit, row_of, row_up_to}
use Rattle.rows.proofs.Rows.{said, row_of_same}

module _ (f : ℕ → Bool) where
  -- below 0 there is nothing
  pub none_yet : (j : ℕ) → j < 256 → (ltb j 0 && f j) ≡ false
  none_yet j h = and_left (ltb j 0) (f j) (le-ltb j 0 (omega arith))

  -- the positions below i + 1 are those below i, and i
  pub one_more : (i : ℕ) (row more : List ℕ) (truth : Bool) → row ≡ row_up_to i f → truth ≡ f i → more ≡ row_of (λ j. bit row j || (truth && eqb j i)) → more ≡ row_up_to (i + 1) f
  one_more i row more truth so_far is made =
      made ∙ row_of_same _ _ (λ j h. ap₂ (λ x y. x || (y && eqb j i)) (said row (λ j. ltb j i && f j) so_far j h) is ∙ grind (arith, nat_tests))

  -- to a position that is as good as another
  pub far_enough : (n m : ℕ) (row : List ℕ) → row ≡ row_up_to n f → ((j : ℕ) → j < 256 → ltb j n ≡ ltb j m) → row ≡ row_up_to m f
  far_enough n m row so_far same = so_far ∙ row_of_same _ _ (λ j h. ap (λ b. b && f j) (same j h))

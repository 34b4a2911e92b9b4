-- Standings by the first item of each formula, found from the last item to the first.
use Rattle.std.proofs.Common.{◌≡◌, ℕ, ◌+◌, ◌<◌, ◌-◌, ◌≤◌, set, length-set, get_or-set_same, get_or-set_other, Bool, cond, eqb, List, length, get_or, drop, Some, None, Option, sym, ap, ◌∙◌, subst, inl, inr, arith}
use Rattle.std.specs.List.{position, position_from}
use Rattle.std.proofs.lemmas.Bool.{cases_eq, cond-true, cond-false, eq-eqb, ne_eqb}
use Rattle.std.proofs.lemmas.List.{drop_more, drop_all}
use Rattle.std.proofs.lemmas.Iterator.Adapters.{position_from-zero}
use Rattle.model.specs.declared.standing.Standing.{Standing}
use Rattle.model.specs.declared.standing.Standing.TheVariants.{Open}

module _ {X : Type 0} (key : X → ℕ) (xs : List X) (by_first : ℕ → Option ℕ → Standing) where
  -- the first of the items from place k on that has the key
  abbrev pub first_from : ℕ → ℕ → Option ℕ
  first_from k f = position_from (λ x. eqb (key x) f) k (drop k xs)

  abbrev pub ByFirstFrom : ℕ → List Standing → Type 0
  ByFirstFrom k standings = (length standings ≡ 1024) × ((f : ℕ) → f < 1024 → get_or standings f Open ≡ by_first f (first_from k f))

  -- from the end on there is none
  pub none_behind : (k f : ℕ) → length xs ≤ k → first_from k f ≡ None
  none_behind k f past = ap (position_from (λ x. eqb (key x) f) k) (drop_all k xs past)

  -- and from the start on it is the first of all
  pub at_start : (ys : List X) (k : ℕ) (standings : List Standing) → k ≡ 0 → xs ≡ ys → ByFirstFrom k standings → (f : ℕ) → f < 1024 → get_or standings f Open ≡ by_first f (position (λ x. eqb (key x) f) ys)
  at_start ys k standings start same (long, told) f h = told f h ∙ ap (λ m. by_first f (first_from m f)) start ∙ ap (by_first f) (sym (position_from-zero (λ x. eqb (key x) f) xs) ∙ ap (position (λ x. eqb (key x) f)) same)

  -- one item more in front, whose standing is written
  pub one_more : (n : ℕ) (d : X) (standings next : List Standing) (s : Standing) → 0 < n → n ≤ length xs → s ≡ by_first (key (get_or xs (n - 1) d)) (Some (n - 1))
      → next ≡ set standings (key (get_or xs (n - 1) d)) s → ByFirstFrom n standings → ByFirstFrom (n - 1) next
  one_more n d standings next s some within own is (long, told) =
      let k : ℕ = n - 1 in
      let x = get_or xs k d in
      let test : ℕ → X → Bool = λ f y. eqb (key y) f in
      let after : k + 1 ≡ n = omega (arith, some) in
      let from = λ (f : ℕ). ap (position_from (test f) k) (drop_more xs k d (omega (arith, some))) ∙ ap (λ m. cond (test f x) (Some k) (position_from (test f) m (drop m xs))) after in
      subst (ByFirstFrom k) (sym is) (
        length-set standings (key x) s ∙ long,
        λ f h. elim (cases_eq f (key x)) [
          | inl e ↦
              ap (λ i. get_or (set standings i s) f Open) (sym e) ∙ get_or-set_same standings f s Open (omega (arith, long, h)) ∙ own
              ∙ ap (λ i. by_first i (Some k)) (sym e) ∙ ap (by_first f) (sym (from f ∙ cond-true (test f x) _ _ (eq-eqb (key x) f (sym e))))
          | inr ne ↦
              get_or-set_other standings (key x) f s Open ne ∙ told f h
              ∙ ap (by_first f) (sym (from f ∙ cond-false (test f x) _ _ (ne_eqb (key x) f (λ same. ne (sym same)))))
        ],
      )

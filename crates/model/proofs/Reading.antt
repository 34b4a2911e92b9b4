-- A list that has exactly what a history held, by its numbers: what is read of it, and how long it is.
use Rattle.std.proofs.Common.{◌≡◌, ◌↔◌, ℕ, ◌<◌, List, length, Some, None, Ok, Err, Option, sym, refl, ap, ◌∙◌}
use Rattle.std.specs.List.{slice_get}
use Rattle.std.specs.Option.{ok_or}
use Rattle.refusals.specs.declared.Refusal.{Refusal}
use Rattle.refusals.proofs.Answers.{ok_not_err, ok_same}
use Rattle.lists.proofs.Members.{nth_within, nth_there}

pub record Exactly {X : Type 0} (xs : List X) (Held : ℕ → X → Type 0) : Type 0 where
  pub from : (n : ℕ) (x : X) → slice_get xs n ≡ Some x → Held n x
  pub there : (n : ℕ) (x : X) → Held n x → slice_get xs n ≡ Some x

module _ {X : Type 0} {xs : List X} {Held : ℕ → X → Type 0} (exactly : Exactly xs Held) (n : ℕ) where
  -- its numbers are below its length
  pub counted : (n < length xs) ↔ ((x : X) × Held n x)
  counted = (λ within. let p = nth_there xs n within in (p.0, exactly.from n p.0 p.1), λ p. nth_within xs n (exactly.there n p.0 p.1))

  -- where nothing was held by a number, nothing is there
  none_there : ((x : X) → Held n x → ⊥) → (o : Option X) → slice_get xs n ≡ o → o ≡ None
  none_there none (Some x) is = absurd (none x (exactly.from n x is))
  none_there none None is = refl

  module _ (e : Refusal) where
    -- what is read by a number was held by it
    pub reads : (x : X) → (ok_or (slice_get xs n) e ≡ Ok x) ↔ Held n x
    reads x = (λ is. exactly.from n x (read (slice_get xs n) is), λ held. ap (λ o. ok_or o e) (exactly.there n x held))
      where
        read : (o : Option X) → ok_or o e ≡ Ok x → o ≡ Some x
        read (Some y) is = ap Some (ok_same is)
        read None is = absurd (ok_not_err (sym is))

    -- and reading is refused where nothing was
    pub reads_none : (ok_or (slice_get xs n) e ≡ Err e) ↔ ((x : X) → Held n x → ⊥)
    reads_none = (
      λ is x held. ok_not_err (sym (ap (λ o. ok_or o e) (exactly.there n x held)) ∙ is),
      λ none. ap (λ o. ok_or o e) (none_there none (slice_get xs n) refl),
    )

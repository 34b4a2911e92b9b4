-- By the kind of the entry that is met, and by the order of the operands that are gone through.
use Rattle.std.proofs.Common.{◌≡◌, ℕ, ◌<◌, ◌⊎◌, Bool, true, false, Ok, Err, Result, List, MatchResult, set, length, get_or, sym, ◌∙◌, subst, inl, inr}
use Rattle.std.proofs.lemmas.Bool.{both_ways, leb-true}
use Rattle.std.proofs.lemmas.Result.{MatchResult-from_err}
use Rattle.formulas.specs.declared.entry.Entry.{Entry}
use Rattle.formulas.specs.declared.entry.Entry.TheVariants.{False, Implies}
use Rattle.tautologies.specs.Gathering.{Entered, GoneThrough, TooManyParts, Marked, Prime}
use Rattle.tautologies.proofs.Marks.{Kinds, prime_kind, met_false, met_part, met_too_many, met_implication, implication_too_many, both, first_too_many, second_too_many, exchanged, exchanged_too_many}
use Rattle.tautologies.proofs.gathering.+gather.Goals as goal

-- what is at the place of a number
at_place : {n m : ℕ} (es : List Entry) {e : Entry} → m ≡ n → get_or es m False ≡ e → get_or es n False ≡ e
at_place es {e} same is = subst (λ (k : ℕ). get_or es k False ≡ e) same is

prime_at : {n m : ℕ} (es : List Entry) → m ≡ n → Kinds (get_or es m False) → Prime (get_or es n False)
prime_at {n} es same kinds = prime_kind (get_or es n False) (subst (λ (k : ℕ). Kinds (get_or es k False)) same kinds)

unmarked_at : {n m : ℕ} (seen : List Bool) → m ≡ n → get_or seen m false ≡ false → Marked seen n → ⊥
unmarked_at {n} seen same is mark = both_ways (get_or seen n false) (subst (λ (k : ℕ). get_or seen k false ≡ false) same is) mark

-- two numbers are two others, in this order or the other one
abbrev Ordered : ℕ → ℕ → ℕ → ℕ → Type 0
Ordered l h a b = ((l ≡ a) × (h ≡ b)) ⊎ ((l ≡ b) × (h ≡ a))

module _ (es : List Entry) (entered : Entered es) (l h a b : ℕ) (order : Ordered l h a b) (seen : List Bool) (parts : List ℕ) where
  in_place : (seen_after : List Bool) (parts_after : List ℕ) → GoneThrough es l h seen parts seen_after parts_after → GoneThrough es a b seen parts seen_after parts_after
  in_place seen_after parts_after gone = elim order [
    | inl (low, high) ↦ subst (λ (k : ℕ). GoneThrough es k b seen parts seen_after parts_after) low (subst (λ (k : ℕ). GoneThrough es l k seen parts seen_after parts_after) high gone)
    | inr (low, high) ↦
        exchanged es entered b a seen parts seen_after parts_after
        (subst (λ (k : ℕ). GoneThrough es k a seen parts seen_after parts_after) low (subst (λ (k : ℕ). GoneThrough es l k seen parts seen_after parts_after) high gone))
  ]

  many_in_place : TooManyParts es l h seen parts → TooManyParts es a b seen parts
  many_in_place many = elim order [
    | inl (low, high) ↦ subst (λ (k : ℕ). TooManyParts es k b seen parts) low (subst (λ (k : ℕ). TooManyParts es l k seen parts) high many)
    | inr (low, high) ↦
        exchanged_too_many es entered b a seen parts
        (subst (λ (k : ℕ). TooManyParts es k a seen parts) low (subst (λ (k : ℕ). TooManyParts es l k seen parts) high many))
  ]

  -- the lower one was gone through, and then the other one, or not all of it
  behind_lower : (between : List Bool) (parts_between : List ℕ) → GoneThrough es l l seen parts between parts_between
      → {T E : Type 0} (r : Result T E) (seen_after : List Bool) (parts_after : List ℕ)
      → MatchResult r (λ _. GoneThrough es h h between parts_between seen_after parts_after) (λ _. TooManyParts es h h between parts_between)
      → MatchResult r (λ _. GoneThrough es a b seen parts seen_after parts_after) (λ _. TooManyParts es a b seen parts)
  behind_lower between parts_between one (Ok x) seen_after parts_after other = in_place seen_after parts_after (both es entered l h seen parts between parts_between one seen_after parts_after other)
  behind_lower between parts_between one (Err e) seen_after parts_after many = many_in_place (second_too_many es entered l h seen parts between parts_between one many)

pub gather-returns-in_err-meet : goal.gather-returns-in_err-meet
gather-returns-in_err-meet t c =
    MatchResult-from_err c.from_residual.result _ _ c.from_residual.ensures.0 (λ e.
    many_in_place c.args.entries.now c.requires.entered c.in_order-lower.result.0 c.in_order-lower.result.1 c.args.left c.args.right c.in_order-lower.ensures c.args.seen.now c.args.parts.now
    (first_too_many c.args.entries.now c.requires.entered c.in_order-lower.result.0 c.in_order-lower.result.1 c.args.seen.now c.args.parts.now c.in_err-meet.ensures))

pub gather-returns : goal.gather-returns
gather-returns t c =
    behind_lower c.args.entries.now c.requires.entered c.in_order-lower.result.0 c.in_order-lower.result.1 c.args.left c.args.right c.in_order-lower.ensures c.args.seen.now c.args.parts.now
    c.meet.new.seen c.meet.new.parts c.in_ok-meet.ensures c.meet-2.result c.meet-2.new.seen c.meet-2.new.parts c.meet-2.ensures

pub meet-returns-then-is_full : goal.meet-returns-then-is_full
meet-returns-then-is_full t c =
    let es = c.args.entries.now in
    met_too_many es c.requires.entered c.args.number c.requires.there c.args.seen.now c.args.parts.now c.told-seen (unmarked_at c.args.seen.now c.from-place.ensures c.if-seen-place.false)
    (prime_at es c.from-place.ensures c.in-Atom.is) (leb-true 12 (length c.args.parts.now) (sym c.is_full.ensures ∙ c.if-is_full.true))

pub meet-returns-in-False : goal.meet-returns-in-False
meet-returns-in-False t c =
    let es = c.args.entries.now in
    let n : ℕ = c.args.number in
    let seen = c.args.seen.now in
    subst (λ (k : ℕ). GoneThrough es n n seen c.args.parts.now (set seen k true) c.args.parts.now) (sym c.from-place.ensures)
    (met_false es c.requires.entered n c.requires.there seen c.args.parts.now c.told-seen (unmarked_at seen c.from-place.ensures c.if-seen-place.false) (at_place es c.from-place.ensures c.in-False.is))

-- an implication, by what its operands came to
implication : (es : List Entry) (entered : Entered es) (n : ℕ) (there : n < length es) (seen : List Bool) (parts : List ℕ) (long : length seen ≡ 1024) (unmet : Marked seen n → ⊥)
    (a b : ℕ) (is : get_or es n False ≡ Implies a b) {m : ℕ} → m ≡ n → {T E : Type 0} (r : Result T E) (seen_after : List Bool) (parts_after : List ℕ)
    → MatchResult r (λ _. GoneThrough es a b (set seen m true) parts seen_after parts_after) (λ _. TooManyParts es a b (set seen m true) parts)
    → MatchResult r (λ _. GoneThrough es n n seen parts seen_after parts_after) (λ _. TooManyParts es n n seen parts)
implication es entered n there seen parts long unmet a b is same (Ok x) seen_after parts_after gone =
    met_implication es entered n there seen parts long unmet a b is seen_after parts_after (subst (λ (k : ℕ). GoneThrough es a b (set seen k true) parts seen_after parts_after) same gone)
implication es entered n there seen parts long unmet a b is same (Err e) seen_after parts_after many =
    implication_too_many es entered n there seen parts long unmet a b is (subst (λ (k : ℕ). TooManyParts es a b (set seen k true) parts) same many)

pub meet-returns-in-Implies : goal.meet-returns-in-Implies
meet-returns-in-Implies t c =
    let es = c.args.entries.now in
    implication es c.requires.entered c.args.number c.requires.there c.args.seen.now c.args.parts.now c.told-seen (unmarked_at c.args.seen.now c.from-place.ensures c.if-seen-place.false)
    c.in-Implies.left c.in-Implies.right (at_place es c.from-place.ensures c.in-Implies.is) c.from-place.ensures c.gather.result c.gather.new.seen c.gather.new.parts c.gather.ensures

pub meet-returns-else-is_full : goal.meet-returns-else-is_full
meet-returns-else-is_full t c =
    let es = c.args.entries.now in
    let n : ℕ = c.args.number in
    let seen = c.args.seen.now in
    subst (λ (k : ℕ). GoneThrough es n n seen c.args.parts.now (set seen k true) c.push.new.self) (sym c.from-place.ensures)
    (subst (λ (ps : List ℕ). GoneThrough es n n seen c.args.parts.now (set seen n true) ps) (sym c.push.ensures)
    (met_part es c.requires.entered n c.requires.there seen c.args.parts.now c.told-seen (unmarked_at seen c.from-place.ensures c.if-seen-place.false) (prime_at es c.from-place.ensures c.in-Atom.is)))

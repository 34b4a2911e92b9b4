-- Going down from an entry: what is known of marks and parts stays known at each entry that is met, and in the end the prime parts are there.
use Rattle.std.proofs.Common.{◌≡◌, ◌+◌, ◌<◌, ◌≤◌, Bool, true, false, ◌||◌, eqb, ◌≢◌, ◌⊎◌, List, [], ◌∷◌, ◌++◌, ℕ, zero, suc, replicate, set, length, get_or, Some, sym, refl, ap, ◌∙◌, subst, inl, inr, arith, get_or-set_other, get_or-set_same}
use Rattle.std.specs.List.{slice_get}
use Rattle.std.specs.Option.{option_map}
use Rattle.std.proofs.lemmas.Bool.{and_parts, cases_eq, cases_lt, true≢false, ltb-true, eqb-false, ne_eqb}
use Rattle.std.proofs.lemmas.Option.{slice_get-map}
use Rattle.std.proofs.lemmas.List.{length-map, length_push, get_or-replicate, get_or_past, length-replicate}
use Rattle.logic.specs.Formula.{Formula, falsum}
use Rattle.formulas.specs.declared.entry.Entry.{Entry}
use Rattle.formulas.specs.declared.entry.Entry.TheVariants.{False, Atom, Implies, Next, Always}
use Rattle.lists.specs.Adding.{Distinct, Member}
use Rattle.formulas.specs.Decode.{of_entry, formula_at}
use Rattle.formulas.specs.Entries.{placed}
use Rattle.formulas.proofs.Decoded.{formula_at_is, formula_injective}
use Rattle.lists.proofs.Members.{some_same, some_not_none, nth_within, nth_there, nth_push, nth_pushed, nth_stays, distinct_push}
use Rattle.calculus.specs.PrimeParts.{PrimePart, prime_parts}
use Rattle.calculus.proofs.Parts.{prime_parts_listed}
use Rattle.tautologies.specs.Gathering.{Entered, Below, Going, GoneThrough, TooManyParts, Gathered, Marked, Prime, formulas_at}
use Rattle.tautologies.proofs.Counting.{no_longer}

-- ---- parts and their formulas

-- a formula of the parts is that of a part with the same place
pub member_part : (es : List Entry) (parts : List ℕ) (k : ℕ) {P : Formula} → slice_get (formulas_at es parts) k ≡ Some P
    → (n : ℕ) × (slice_get parts k ≡ Some n) × (formula_at es n ≡ P)
member_part es parts k is =
    let there = nth_there parts k (omega (arith, nth_within (formulas_at es parts) k is, length-map parts (formula_at es))) in
    (there.0, there.1, some_same (sym (ap (option_map (formula_at es)) there.1) ∙ sym (slice_get-map (formula_at es) parts k) ∙ is))

pub part_member : (es : List Entry) (parts : List ℕ) (k n : ℕ) → slice_get parts k ≡ Some n → slice_get (formulas_at es parts) k ≡ Some (formula_at es n)
part_member es parts k n is = slice_get-map (formula_at es) parts k ∙ ap (option_map (formula_at es)) is

-- ---- tests

or_false : (x y : Bool) → (x || y) ≡ false → (x ≡ false) × (y ≡ false)
or_false true y h = absurd (true≢false h)
or_false false y h = (refl, h)

neither : (x y : Bool) → x ≡ false → y ≡ false → (x || y) ≡ false
neither true y h k = absurd (true≢false h)
neither false y h k = k

ne_from_false : (m n : ℕ) → eqb m n ≡ false → m ≢ n
ne_from_false m n = eqb-false m n

-- ---- a mark more

module _ (seen : List Bool) (n : ℕ) (room : n < length seen) where
  pub mark_there : Marked (set seen n true) n
  mark_there = get_or-set_same seen n true false room

  pub mark_stays : (j : ℕ) → Marked seen j → Marked (set seen n true) j
  mark_stays j m = elim (cases_eq j n) [
    | inl e ↦ subst (λ (i : ℕ). Marked (set seen n true) i) (sym e) mark_there
    | inr ne ↦ get_or-set_other seen n j true false ne ∙ m
  ]

  pub mark_new : (j : ℕ) → Marked (set seen n true) j → (j ≡ n) ⊎ Marked seen j
  mark_new j m = elim (cases_eq j n) [
    | inl e ↦ inl e
    | inr ne ↦ inr (sym (get_or-set_other seen n j true false ne) ∙ m)
  ]

-- ---- kinds of entries

-- the formula of an entry of a prime kind is its own prime part, and its only one
own_part : (at : ℕ → Formula) (e : Entry) → Prime e → PrimePart (of_entry at e) (of_entry at e)
own_part at False p = absurd p
own_part at (Atom a) p = refl
own_part at (Implies a b) p = absurd p
own_part at (Next a) p = refl
own_part at (Always a) p = refl

not_false : (at : ℕ → Formula) (e : Entry) → Prime e → of_entry at e ≢ falsum
not_false at False p = absurd p
not_false at (Atom a) p = λ is. cc
not_false at (Implies a b) p = absurd p
not_false at (Next a) p = λ is. cc
not_false at (Always a) p = λ is. cc

-- how an entry is that is a part
abbrev pub Kinds : Entry → Type 0
Kinds e = ((a : ℕ) × (e ≡ Atom a)) ⊎ (((a : ℕ) × (e ≡ Next a)) ⊎ ((a : ℕ) × (e ≡ Always a)))

pub prime_kind : (e : Entry) → Kinds e → Prime e
prime_kind e (inl (a, is)) = subst Prime (sym is) tt
prime_kind e (inr (inl (a, is))) = subst Prime (sym is) tt
prime_kind e (inr (inr (a, is))) = subst Prime (sym is) tt

module _ (es : List Entry) (entered : Entered es) where
  -- an entry's formula, by those of its operands
  pub formula_is : (n : ℕ) → n < length es → (e : Entry) → get_or es n False ≡ e → formula_at es n ≡ of_entry (formula_at es) e
  formula_is n there e is = formula_at_is es entered.lower n there ∙ ap (of_entry (formula_at es)) is

  -- operands have lower numbers
  pub lower_operands : (n a b : ℕ) → n < length es → get_or es n False ≡ Implies a b → (a < n) × (b < n)
  lower_operands n a b there is =
      let both = and_parts _ _ (subst (λ (e : Entry). placed n e ≡ true) is (entered.lower n there)) in
      (ltb-true a n both.0, ltb-true b n both.1)

  own : (n : ℕ) → n < length es → Prime (get_or es n False) → PrimePart (formula_at es n) (formula_at es n)
  own n there p = subst (λ (X : Formula). PrimePart X X) (sym (formula_at_is es entered.lower n there)) (own_part (formula_at es) (get_or es n False) p)

  -- ---- how many parts there are

  -- different entries have different formulas
  pub distinct_formulas : (parts : List ℕ) → ((k n : ℕ) → slice_get parts k ≡ Some n → n < length es) → Distinct parts → Distinct (formulas_at es parts)
  distinct_formulas parts within once i j before there same =
      let one = nth_there (formulas_at es parts) i (omega arith) in
      let other = nth_there (formulas_at es parts) j there in
      let left = member_part es parts i one.1 in
      let right = member_part es parts j other.1 in
      let equal : left.0 ≡ right.0 = formula_injective es entered.lower entered.distinct left.0 right.0 (within i left.0 left.1) (within j right.0 right.1)
      (left.2 ∙ some_same (sym one.1 ∙ same ∙ other.1) ∙ sym right.2) in
      once i j before (omega (arith, length-map parts (formula_at es))) (left.1 ∙ ap Some equal ∙ sym right.1)

  -- no more than the formula's prime parts
  pub at_most : (root : ℕ) (parts : List ℕ) → ((k n : ℕ) → slice_get parts k ≡ Some n → (n < length es) × PrimePart (formula_at es root) (formula_at es n)) → Distinct parts
      → length parts ≤ length (prime_parts (formula_at es root))
  at_most root parts are once =
      let fewer = no_longer (formulas_at es parts) (prime_parts (formula_at es root)) (distinct_formulas parts (λ k n is. (are k n is).0) once)
      (λ P there.
      let part = member_part es parts there.0 there.1 in
      ((prime_parts_listed (formula_at es root)).1 P).1 (subst (PrimePart (formula_at es root)) part.2 (are there.0 part.0 part.1).1)) in
      omega (arith, fewer, length-map parts (formula_at es))

  -- and no fewer, where all are there
  pub at_least : (root : ℕ) (parts : List ℕ) → ((P : Formula) → PrimePart (formula_at es root) P → Member (formulas_at es parts) P)
      → length (prime_parts (formula_at es root)) ≤ length parts
  at_least root parts has =
      let listed = prime_parts_listed (formula_at es root) in
      let fewer = no_longer (prime_parts (formula_at es root)) (formulas_at es parts) listed.0 (λ P there. has P ((listed.1 P).0 there)) in
      omega (arith, fewer, length-map parts (formula_at es))

  -- parts are prime parts of the formula that is gone through
  parts_are : (root : ℕ) (waits : ℕ → Bool) (seen : List Bool) (parts : List ℕ) → Going es root waits seen parts
      → (k m : ℕ) → slice_get parts k ≡ Some m → (m < length es) × PrimePart (formula_at es root) (formula_at es m)
  parts_are root waits seen parts g k m is =
      let so = g.met k m is in
      let there = g.entered m so.0 in
      (there, g.only m so.0 (formula_at es m) (own m there so.1))

  -- ---- one entry met

  module _ (n : ℕ) (there : n < length es) (seen : List Bool) (parts : List ℕ) where
    -- one that was met before
    pub known : Marked seen n → GoneThrough es n n seen parts seen parts
    known mark = record { stay = λ m marked. marked; first = mark; second = mark; on = λ root waits g below again. g }

    module _ (long : length seen ≡ 1024) (unmet : Marked seen n → ⊥) where
      abbrev seen' : List Bool
      seen' = set seen n true

      room : n < length seen
      room = omega (arith, long, there, entered.within)

      stays : (m : ℕ) → Marked seen m → Marked seen' m
      stays = mark_stays seen n room

      marked : Marked seen' n
      marked = mark_there seen n room

      new : (m : ℕ) → Marked seen' m → (m ≡ n) ⊎ Marked seen m
      new = mark_new seen n room

      module _ (root : ℕ) (waits : ℕ → Bool) (g : Going es root waits seen parts) (below : Below es root n) where
        entered_still : (m : ℕ) → Marked seen' m → m < length es
        entered_still m mark = elim (new m mark) [ inl e ↦ omega (arith, there, e) | inr old ↦ g.entered m old ]

        only_still : (m : ℕ) → Marked seen' m → Below es root m
        only_still m mark P p = elim (new m mark) [
          | inl e ↦ below P (subst (λ (i : ℕ). PrimePart (formula_at es i) P) e p)
          | inr old ↦ g.only m old P p
        ]

        -- it may wait
        waiting : Going es root (λ m. waits m || eqb m n) seen' parts
        waiting = record {
          entered = entered_still;
          only = only_still;
          operands = λ m a b mark ready is. elim (new m mark) [
            | inl e ↦ absurd (ne_from_false m n (or_false (waits m) (eqb m n) ready).1 e)
            | inr old ↦ let both = g.operands m a b old (or_false (waits m) (eqb m n) ready).0 is in (stays a both.0, stays b both.1)
          ];
          prime = λ m mark ready p. elim (new m mark) [
            | inl e ↦ absurd (ne_from_false m n (or_false (waits m) (eqb m n) ready).1 e)
            | inr old ↦ g.prime m old (or_false (waits m) (eqb m n) ready).0 p
          ];
          met = λ k m is. let so = g.met k m is in (stays m so.0, so.1);
          once = g.once;
        }

      -- false has nothing to add
      pub met_false : get_or es n False ≡ False → GoneThrough es n n seen parts seen' parts
      met_false is = record {
        stay = stays;
        first = marked;
        second = marked;
        on = λ root waits g below again. record {
          entered = entered_still root waits g below;
          only = only_still root waits g below;
          operands = λ m a b mark ready at. elim (new m mark) [
            | inl e ↦ let wrong : ◌≡◌ {A = Entry} False (Implies a b) = sym is ∙ subst (λ (i : ℕ). get_or es i False ≡ Implies a b) e at in cc
            | inr old ↦ let both = g.operands m a b old ready at in (stays a both.0, stays b both.1)
          ];
          prime = λ m mark ready p. elim (new m mark) [
            | inl e ↦ absurd (subst Prime is (subst (λ (i : ℕ). Prime (get_or es i False)) e p))
            | inr old ↦ g.prime m old ready p
          ];
          met = λ k m at. let so = g.met k m at in (stays m so.0, so.1);
          once = g.once;
        };
      }

      -- one of a prime kind is one part more
      module _ (prime : Prime (get_or es n False)) where
        pub met_part : GoneThrough es n n seen parts seen' (parts ++ n ∷ [])
        met_part = record {
          stay = stays;
          first = marked;
          second = marked;
          on = λ root waits g below again. record {
            entered = entered_still root waits g below;
            only = only_still root waits g below;
            operands = λ m a b mark ready at. elim (new m mark) [
              | inl e ↦ absurd (subst Prime (subst (λ (i : ℕ). get_or es i False ≡ Implies a b) e at) prime)
              | inr old ↦ let both = g.operands m a b old ready at in (stays a both.0, stays b both.1)
            ];
            prime = λ m mark ready p. elim (new m mark) [
              | inl e ↦ (length parts, subst (λ (i : ℕ). slice_get (parts ++ n ∷ []) (length parts) ≡ Some i) (sym e) (nth_push parts n))
              | inr old ↦ let place = g.prime m old ready p in (place.0, nth_stays parts n place.0 m place.1)
            ];
            met = λ k m at. elim (nth_pushed parts n k m at) [
              | inl old ↦ let so = g.met k m old in (stays m so.0, so.1)
              | inr last ↦ subst (λ (i : ℕ). Marked seen' i × Prime (get_or es i False)) last.1 (marked, prime)
            ];
            once = distinct_push parts n g.once (λ k at. unmet (g.met k n at).0);
          };
        }

        -- or finds no room
        pub met_too_many : 12 ≤ length parts → TooManyParts es n n seen parts
        met_too_many full root waits g below again =
            let more = met_part.on root waits g below again in
            omega (arith, at_most root (parts ++ n ∷ []) (parts_are root waits seen' (parts ++ n ∷ []) more) more.once, length_push parts n)

      -- an implication waits for its operands
      module _ (a b : ℕ) (is : get_or es n False ≡ Implies a b) where
        left_below : (root : ℕ) → Below es root n → Below es root a
        left_below root below P p = below P (subst (λ (X : Formula). PrimePart X P) (sym (formula_is n there (Implies a b) is)) (inl p))

        right_below : (root : ℕ) → Below es root n → Below es root b
        right_below root below P p = below P (subst (λ (X : Formula). PrimePart X P) (sym (formula_is n there (Implies a b) is)) (inr p))

        pub met_implication : (seen_after : List Bool) (parts_after : List ℕ) → GoneThrough es a b seen' parts seen_after parts_after → GoneThrough es n n seen parts seen_after parts_after
        met_implication seen_after parts_after operands = record {
          stay = λ m mark. operands.stay m (stays m mark);
          first = operands.stay n marked;
          second = operands.stay n marked;
          on = λ root waits g below again.
              let after = operands.on root (λ m. waits m || eqb m n) (waiting root waits g below) (left_below root below) (right_below root below) in
              record {
                entered = after.entered;
                only = after.only;
                operands = λ m c d mark ready at. elim (cases_eq m n) [
                  | inl e ↦
                      let same = sym is ∙ subst (λ (i : ℕ). get_or es i False ≡ Implies c d) e at in
                      let left : a ≡ c = cc in
                      let right : b ≡ d = cc in
                      (subst (Marked seen_after) left operands.first, subst (Marked seen_after) right operands.second)
                  | inr ne ↦ after.operands m c d mark (neither (waits m) (eqb m n) ready (ne_eqb m n ne)) at
                ];
                prime = λ m mark ready p. elim (cases_eq m n) [
                  | inl e ↦ absurd (subst Prime is (subst (λ (i : ℕ). Prime (get_or es i False)) e p))
                  | inr ne ↦ after.prime m mark (neither (waits m) (eqb m n) ready (ne_eqb m n ne)) p
                ];
                met = after.met;
                once = after.once;
              };
        }

        pub implication_too_many : TooManyParts es a b seen' parts → TooManyParts es n n seen parts
        implication_too_many many root waits g below again = many root (λ m. waits m || eqb m n) (waiting root waits g below) (left_below root below) (right_below root below)

  -- ---- one after another

  module _ (a b : ℕ) (seen : List Bool) (parts : List ℕ) (between : List Bool) (parts_between : List ℕ) (one : GoneThrough es a a seen parts between parts_between) where
    pub both : (seen_after : List Bool) (parts_after : List ℕ) → GoneThrough es b b between parts_between seen_after parts_after → GoneThrough es a b seen parts seen_after parts_after
    both seen_after parts_after other = record {
      stay = λ m mark. other.stay m (one.stay m mark);
      first = other.stay a one.first;
      second = other.first;
      on = λ root waits g below again. other.on root waits (one.on root waits g below below) again again;
    }

    pub second_too_many : TooManyParts es b b between parts_between → TooManyParts es a b seen parts
    second_too_many many root waits g below again = many root waits (one.on root waits g below below) again again

  pub first_too_many : (a b : ℕ) (seen : List Bool) (parts : List ℕ) → TooManyParts es a a seen parts → TooManyParts es a b seen parts
  first_too_many a b seen parts many root waits g below again = many root waits g below below

  -- in either order
  pub exchanged : (a b : ℕ) (seen : List Bool) (parts : List ℕ) (seen_after : List Bool) (parts_after : List ℕ) → GoneThrough es a b seen parts seen_after parts_after → GoneThrough es b a seen parts seen_after parts_after
  exchanged a b seen parts seen_after parts_after gone = record { stay = gone.stay; first = gone.second; second = gone.first; on = λ root waits g below again. gone.on root waits g again below }

  pub exchanged_too_many : (a b : ℕ) (seen : List Bool) (parts : List ℕ) → TooManyParts es a b seen parts → TooManyParts es b a seen parts
  exchanged_too_many a b seen parts many root waits g below again = many root waits g again below

  -- ---- the start

  unmarked : (n : ℕ) → Marked (replicate 1024 false) n → ⊥
  unmarked n m = elim (cases_lt n 1024) [
    | inl within ↦ true≢false (sym m ∙ get_or-replicate 1024 n false false within)
    | inr past ↦ true≢false (sym m ∙ get_or_past (replicate 1024 false) n false (omega (arith, length-replicate 1024 false)))
  ]

  -- nothing is marked, and there are no parts
  pub started : (root : ℕ) → Going es root (λ _. false) (replicate 1024 false) []
  started root = record {
    entered = λ m marked. absurd (unmarked m marked);
    only = λ m marked. absurd (unmarked m marked);
    operands = λ m a b marked ready is. absurd (unmarked m marked);
    prime = λ m marked ready p. absurd (unmarked m marked);
    met = λ k m is. absurd (some_not_none (sym is));
    once = λ i j before within e. omega arith;
  }

  -- ---- the end

  module _ (root : ℕ) (seen : List Bool) (parts : List ℕ) (g : Going es root (λ _. false) seen parts) (begun : Marked seen root) where
    -- the prime parts of a marked entry are there, if those of marked entries below are
    module _ (n : ℕ) (mark : Marked seen n) (P : Formula)
        (below : (a : ℕ) → a < n → Marked seen a → PrimePart (formula_at es a) P → Member (formulas_at es parts) P) where
      lone : (e : Entry) → get_or es n False ≡ e → Prime e → of_entry (formula_at es) e ≡ P → Member (formulas_at es parts) P
      lone e is prime same =
          let there = g.entered n mark in
          let place = g.prime n mark refl (subst Prime (sym is) prime) in
          (place.0, part_member es parts place.0 n place.1 ∙ ap Some (formula_is n there e is ∙ same))

      by_kind : (e : Entry) → get_or es n False ≡ e → PrimePart (of_entry (formula_at es) e) P → Member (formulas_at es parts) P
      by_kind False is p = absurd p
      by_kind (Atom a) is p = lone (Atom a) is tt p
      by_kind (Implies a b) is p =
          let low = lower_operands n a b (g.entered n mark) is in
          let both = g.operands n a b mark refl is in
          elim p [ inl l ↦ below a low.0 both.0 l | inr r ↦ below b low.1 both.1 r ]
      by_kind (Next a) is p = lone (Next a) is tt p
      by_kind (Always a) is p = lone (Always a) is tt p

    has_below : (most n : ℕ) → n < most → Marked seen n → (P : Formula) → PrimePart (formula_at es n) P → Member (formulas_at es parts) P
    has_below zero n h mark P p = absurd (omega arith)
    has_below (suc most) n h mark P p =
        by_kind n mark P (λ a low marked q. has_below most a (omega (arith, low)) marked P q) (get_or es n False) refl
        (subst (λ (X : Formula). PrimePart X P) (formula_at_is es entered.lower n (g.entered n mark)) p)

    pub ended : Gathered es seen parts
    ended = record {
      entered = g.entered;
      gathered = λ n mark P p. has_below (n + 1) n (omega arith) mark P p;
      closed = λ n a b mark is. g.operands n a b mark refl is;
      met = λ k n is.
          let so = g.met k n is in
          (so.0, subst (λ (X : Formula). X ≢ falsum) (sym (formula_at_is es entered.lower n (g.entered n so.0))) (not_false (formula_at es) (get_or es n False) so.1));
      once = g.once;
    }

    pub few : length (prime_parts (formula_at es root)) ≤ length parts
    few = at_least root parts (λ P p. has_below (root + 1) root (omega arith) begun P p)

-- Where something stands in a list, by a test of likeness that is equality.
use Rattle.std.proofs.Common.{◌≡◌, ℕ, ◌+◌, ◌-◌, ◌<◌, ◌≤◌, Bool, true, false, eqb, ltb, List, length, take, drop, get_or, Some, None, Option, refl, sym, ap, ◌∙◌, subst, inl, inr, arith}
use Rattle.std.specs.List.{slice_get, position, position_or_len}
use Rattle.std.specs.Option.{option_map}
use Rattle.std.proofs.lemmas.Bool.{cases_Bool, cases_lt, cond-true, cond-false, lt-ltb, le-ltb, eqb-true, eq-eqb, true≢false}
use Rattle.std.proofs.lemmas.List.Quantifiers.{position-Some}
use Rattle.std.proofs.lemmas.List.Sums.{position_or_len_is, fails_before_first}
use Rattle.std.proofs.lemmas.List.{get_or-take, get_or-drop, length-take-le, length-drop}
use Rattle.std.proofs.lemmas.Option.{slice_get-get_or}
use Rattle.lists.specs.Adding.{Distinct, first_like, first_like_from}
use Rattle.lists.proofs.Members.{some_same, some_not_none, nth_within}

-- the test is equality
pub record IsEquality {X : Type 0} (eq : X → X → Bool) : Type 0 where
  pub sound : (x y : X) → eq x y ≡ true → x ≡ y
  pub itself : (x : X) → eq x x ≡ true

-- as that of numbers
pub eqb_tells : IsEquality eqb
eqb_tells = record { sound = eqb-true; itself = λ n. eq-eqb n n refl }

module _ {X : Type 0} (eq : X → X → Bool) (tells : IsEquality eq) where
  differ : (x y : X) → (x ≡ y → ⊥) → eq x y ≡ false
  differ x y h = elim (cases_Bool (eq x y)) [ inl t ↦ absurd (h (tells.sound x y t)) | inr f ↦ f ]

  module _ (ys : List X) (x : X) where
    -- x passes where it stands
    passes : (i : ℕ) → slice_get ys i ≡ Some x → eq (get_or ys i x) x ≡ true
    passes i is =
        let here : get_or ys i x ≡ x = some_same (sym (slice_get-get_or ys i x (nth_within ys i is)) ∙ is) in
        subst (λ (y : X). eq y x ≡ true) (sym here) (tells.itself x)

    -- the place that is found holds x
    pub first_like_is : (i : ℕ) → first_like eq ys x ≡ Some i → slice_get ys i ≡ Some x
    first_like_is i found =
        let at = position-Some (λ y. eq y x) ys i x found in
        slice_get-get_or ys i x at.0 ∙ ap Some (tells.sound (get_or ys i x) x at.1)

    -- in a list without repeats, the only place is the first
    pub first_like_only : Distinct ys → (i : ℕ) → slice_get ys i ≡ Some x → first_like eq ys x ≡ Some i
    first_like_only distinct i is =
        let i_in : i < length ys = nth_within ys i is in
        let at : position_or_len (λ y. eq y x) ys ≡ i =
        position_or_len_is (λ y. eq y x) ys i x (omega arith)
        (λ k before. differ (get_or ys k x) x (λ z. distinct k i before i_in (slice_get-get_or ys k x (omega arith) ∙ ap Some z ∙ sym is)))
        (λ _. passes i is) in
        cond-true (ltb (position_or_len (λ y. eq y x) ys) (length ys)) _ _ (lt-ltb _ _ (omega arith)) ∙ ap Some at

    -- no place is found where x is not
    pub first_like_none : ((k : ℕ) → slice_get ys k ≡ Some x → ⊥) → first_like eq ys x ≡ None
    first_like_none none =
        let at : position_or_len (λ y. eq y x) ys ≡ length ys =
        position_or_len_is (λ y. eq y x) ys (length ys) x (omega arith)
        (λ k within. differ (get_or ys k x) x (λ z. none k (slice_get-get_or ys k x within ∙ ap Some z)))
        (λ past. absurd (omega arith)) in
        cond-false (ltb (position_or_len (λ y. eq y x) ys) (length ys)) _ _ (le-ltb _ _ (omega arith))

    -- where no place is found, x is not
    pub none_there : first_like eq ys x ≡ None → (k : ℕ) → slice_get ys k ≡ Some x → ⊥
    none_there found k is =
        elim (cases_lt (position_or_len (λ y. eq y x) ys) (length ys)) [
          | inl within ↦ some_not_none (sym (cond-true (ltb (position_or_len (λ y. eq y x) ys) (length ys)) _ _ (lt-ltb _ _ within)) ∙ found)
          | inr past ↦ true≢false (sym (passes k is) ∙ fails_before_first (λ y. eq y x) ys k x (omega (arith, nth_within ys k is)))
        ]

-- where nothing passes, the search goes through the whole list
past_all : {X : Type 0} (p : X → Bool) (xs : List X) → position p xs ≡ None → length xs ≤ position_or_len p xs
past_all p xs none =
    elim (cases_lt (position_or_len p xs) (length xs)) [
      | inl within ↦ absurd (some_not_none (sym (cond-true (ltb (position_or_len p xs) (length xs)) _ _ (lt-ltb _ _ within)) ∙ none))
      | inr past ↦ past
    ]

-- and the other way round: where the first that passes is known, it is found
found_at : {X : Type 0} (p : X → Bool) (xs : List X) (i : ℕ) → i < length xs → position_or_len p xs ≡ i → position p xs ≡ Some i
found_at p xs i within at = cond-true (ltb (position_or_len p xs) (length xs)) _ _ (lt-ltb _ _ (omega (arith, at, within))) ∙ ap Some at

found_nowhere : {X : Type 0} (p : X → Bool) (xs : List X) → position_or_len p xs ≡ length xs → position p xs ≡ None
found_nowhere p xs at = cond-false (ltb (position_or_len p xs) (length xs)) _ _ (le-ltb _ _ (omega (arith, at)))

-- where none passes below a number, the first is found from there on
module _ {X : Type 0} (p : X → Bool) (xs : List X) (start : ℕ) (d : X) (there : start ≤ length xs) (none : position p (take start xs) ≡ None) where
  abbrev rest : List X
  rest = drop start xs

  fails_below : (k : ℕ) → k < start → p (get_or xs k d) ≡ false
  fails_below k h = ap p (sym (get_or-take start xs k d h)) ∙ fails_before_first p (take start xs) k d (omega (arith, past_all p (take start xs) none, length-take-le start xs there))

  at_rest : (k : ℕ) → start ≤ k → get_or xs k d ≡ get_or rest (k - start) d
  at_rest k le = sym (get_or-drop start xs (k - start) d ∙ ap (λ j. get_or xs j d) (omega arith))

  fails_up_to : (i : ℕ) → ((k : ℕ) → k < i → p (get_or rest k d) ≡ false) → (k : ℕ) → k < start + i → p (get_or xs k d) ≡ false
  fails_up_to i fails k h =
      elim (cases_lt k start) [
        | inl l ↦ fails_below k l
        | inr le ↦ ap p (at_rest k le) ∙ fails (k - start) (omega arith)
      ]

  long : start + length rest ≡ length xs
  long = omega (arith, length-drop start xs, there)

  position_from : (o : Option ℕ) → position p rest ≡ o → position p xs ≡ option_map (λ k. start + k) o
  position_from None is =
      found_nowhere p xs
      (position_or_len_is p xs (length xs) d (omega arith)
      (λ k h. fails_up_to (length rest) (λ j l. fails_before_first p rest j d (omega (arith, past_all p rest is))) k (omega (arith, long)))
      (λ h. absurd (omega arith)))
  position_from (Some i) is =
      let (inside, passes, fails) = position-Some p rest i d is in
      found_at p xs (start + i) (omega (arith, long))
      (position_or_len_is p xs (start + i) d (omega (arith, long)) (fails_up_to i fails)
      (λ h. ap p (at_rest (start + i) (omega arith) ∙ ap (λ j. get_or rest j d) (omega arith)) ∙ passes))

-- where none below a number is x, x is found from there on
pub first_like_from_is : {X : Type 0} (eq : X → X → Bool) (xs : List X) (start : ℕ) (x : X) → start ≤ length xs → first_like eq (take start xs) x ≡ None → first_like_from eq start xs x ≡ first_like eq xs x
first_like_from_is eq xs start x there none = sym (position_from (λ y. eq y x) xs start x there none (first_like eq (drop start xs) x) refl)

-- two tests that are both equality find the same place
pub same_first_like : {X : Type 0} (e f : X → X → Bool) → IsEquality e → IsEquality f → (ys : List X) (x : X) → first_like e ys x ≡ first_like f ys x
same_first_like {X} e f of_e of_f ys x = ap (λ (t : X → X → Bool). first_like t ys x) (λ i y z. same y z i)
  where
    same : (y z : X) → e y z ≡ f y z
    same y z = elim (cases_Bool (f y z)) [
      | inl t ↦ subst (λ (w : X). e y w ≡ f y z) (of_f.sound y z t) (of_e.itself y ∙ sym (subst (λ (w : X). f y w ≡ true) (of_f.sound y z t) (of_f.itself y)))
      | inr g ↦ differ e of_e y z (λ s. true≢false (sym (subst (λ (w : X). f y w ≡ true) s (of_f.itself y)) ∙ g)) ∙ sym g
    ]

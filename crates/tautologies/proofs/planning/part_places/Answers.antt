-- The place of a part is written once, since each part stands once.
use Rattle.std.proofs.Common.{◌≡◌, ℕ, ◌<◌, List, length, get_or, set, replicate, Some, sym, ap, ◌∙◌, subst, inl, inr, arith, get_or-set_other, get_or-set_same, length-set}
use Rattle.std.proofs.lemmas.List.{length-replicate}
use Rattle.std.specs.List.{slice_get}
use Rattle.std.proofs.lemmas.Bool.{cases_eq, cases_lt}
use Rattle.std.proofs.lemmas.Option.{slice_get-get_or}
use Rattle.std.proofs.lemmas.List.{get_or-replicate, get_or_past}
use Rattle.lists.proofs.Members.{some_same, nth_within}
use Rattle.tautologies.proofs.planning.part_places.Goals as goal

-- at first all places are that of false
filler : (n : ℕ) → get_or (replicate {A = ℕ} 1024 12) n 12 ≡ 12
filler n =
    elim (cases_lt n 1024) [
      | inl l ↦ get_or-replicate 1024 n 12 12 l
      | inr le ↦ get_or_past (replicate 1024 12) n 12 (omega (arith, length-replicate {A = ℕ} 1024 12))
    ]

pub loop-place-init : goal.loop-place-init
loop-place-init c = record {
  long = length-replicate {A = ℕ} 1024 12;
  parts = λ k n before is. absurd (omega arith);
  others = λ n none. filler n;
  small = λ n. omega (arith, filler n);
}

pub bounds-places-from : goal.bounds-places-from
bounds-places-from c =
    c.requires.within c.loop-place.place c.from.result (slice_get-get_or c.args.parts.now c.loop-place.place 0 c.loop-place-test.true ∙ ap Some (sym c.from.ensures))

pub loop-place-preserved : goal.loop-place-preserved
loop-place-preserved c =
    let parts = c.args.parts.now in
    let places : List ℕ = c.loop-place.places in
    let at : ℕ = c.loop-place.place in
    let here : slice_get parts at ≡ Some c.from.result = slice_get-get_or parts at 0 c.loop-place-test.true ∙ ap Some (sym c.from.ensures) in
    let room : c.from.result < length places = omega (arith, c.loop-place.invariant.long, c.requires.within at c.from.result here) in
    record {
      long = length-set places c.from.result at ∙ c.loop-place.invariant.long;
      parts = λ k n before is. elim (cases_eq k at) [
        | inl e ↦
            let same : c.from.result ≡ n = some_same (sym here ∙ ap (slice_get parts) (sym e) ∙ is) in
            subst (λ (m : ℕ). get_or (set places c.from.result at) m 12 ≡ k) same (get_or-set_same places c.from.result at 12 room ∙ sym e)
        | inr ne ↦
            let earlier : k < at = omega (arith, ne) in
            get_or-set_other places c.from.result n at 12
            (λ same. c.requires.once k at earlier c.loop-place-test.true (is ∙ ap Some same ∙ sym here))
            ∙ c.loop-place.invariant.parts k n earlier is
      ];
      others = λ n none.
          get_or-set_other places c.from.result n at 12
          (λ same. none at (omega arith) (here ∙ ap Some (sym same)))
          ∙ c.loop-place.invariant.others n (λ k before. none k (omega arith));
      small = λ n. elim (cases_eq n c.from.result) [
        | inl e ↦ omega (arith, c.requires.few, c.loop-place-test.true, subst (λ (m : ℕ). get_or (set places c.from.result at) m 12 ≡ at) (sym e) (get_or-set_same places c.from.result at 12 room))
        | inr ne ↦ omega (arith, get_or-set_other places c.from.result n at 12 ne, c.loop-place.invariant.small n)
      ];
    }

pub returns-clause-parts : goal.returns-clause-parts
returns-clause-parts c = λ k n is. c.loop-place.invariant.parts k n (omega (arith, nth_within c.args.parts.now k is)) is

pub returns-clause-others : goal.returns-clause-others
returns-clause-others c = λ n none. c.loop-place.invariant.others n (λ k before. none k)

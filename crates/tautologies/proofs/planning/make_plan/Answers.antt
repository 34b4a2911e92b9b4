-- Entry by entry, a marked implication adds its step.
use Rattle.std.proofs.Common.{◌≡◌, ℕ, ◌+◌, List, [], ◌∷◌, ◌++◌, length, set, false, get_or, ap, ap₂, ◌∙◌, subst, arith, rules}
use Rattle.tautologies.proofs.Filling.{any_default}
use Rattle.tautologies.specs.Planning.{place_of, PlannedBelow}
use Rattle.std.proofs.lemmas.Bool.{both_ways}
use Rattle.tautologies.specs.declared.planning.Plan.{Plan}
use Rattle.tautologies.specs.declared.step.Step.{Step}
use Rattle.tautologies.specs.Gathering.{Marked}
use Rattle.tautologies.proofs.Plans.{started, passed, added, same}
use Rattle.tautologies.proofs.planning.make_plan.Goals as goal
use Rattle.tautologies.proofs.planning.make_plan.Goals.{then-seen-number+in-Implies, then-seen-number+in_default, else-seen-number}

pub part_places-requires-clause-within : goal.part_places-requires-clause-within
part_places-requires-clause-within c = λ k n is. omega (arith, c.requires.entered.within, c.requires.gathered.entered n (c.requires.gathered.met k n is).0)

pub loop-number-init : goal.loop-number-init
loop-number-init c =
    let p = c.part_places in
    started c.args.entries.now c.requires.entered c.args.seen.now c.args.parts.now c.requires.gathered p.result c.new.result
    c.new.ensures (search rules) p.ensures.parts p.ensures.others p.ensures.small

pub loop-number-preserved : goal.loop-number-preserved
loop-number-preserved c =
    let es = c.args.entries.now in
    let seen = c.args.seen.now in
    let parts = c.args.parts.now in
    let n : ℕ = c.loop-number.number in
    let so = c.loop-number.invariant in
    let places = c.loop-number.plan.places in
    let steps = c.loop-number.plan.steps in
    let entered = c.requires.entered in
    let g = c.requires.gathered in
    elim c.if-seen-number.branch [
      | then-seen-number+in-Implies w ↦
          let a = w.in-Implies.left in
          let b = w.in-Implies.right in
          let both = g.closed n a b w.if-seen-number.true w.in-Implies.is in
          let at = λ (m k : ℕ) (mm : Marked seen m) (is : k ≡ m).
          ap (λ (i : ℕ). get_or places i 0) is ∙ any_default places m 0 12 (omega (arith, so.long, g.entered m mm, entered.within)) in
          same es entered seen parts g (set places n (13 + length steps)) (steps ++ record { left = place_of places a; right = place_of places b } ∷ []) (n + 1) _ _
          ((ap (λ (p : Plan). p.places) w.plan-is) ∙ ap (λ (ss : List Step). set places n (13 + length ss)) w.as_slice.ensures.items)
          ((ap (λ (p : Plan). p.steps) w.plan-is) ∙ w.push.ensures
          ∙ ap₂ (λ (x y : ℕ). steps ++ record { left = x; right = y } ∷ []) (at a w.from.result both.0 w.from.ensures) (at b w.from-in-Implies.result both.1 w.from-in-Implies.ensures))
          (added es entered seen parts g places steps n a b w.if-seen-number.true w.in-Implies.is so)
      | then-seen-number+in_default w ↦ same es entered seen parts g places steps (n + 1) _ _ (ap (λ (p : Plan). p.places) w.plan-is) (ap (λ (p : Plan). p.steps) w.plan-is) (passed es entered seen parts g places steps n (λ _. w.in_default.not-Implies) so)
      | else-seen-number w ↦ same es entered seen parts g places steps (n + 1) _ _ (ap (λ (p : Plan). p.places) w.plan-is) (ap (λ (p : Plan). p.steps) w.plan-is) (passed es entered seen parts g places steps n (λ m. absurd (both_ways (get_or seen n false) w.if-seen-number.false m)) so)
    ]

pub returns : goal.returns
returns c =
    subst (λ (k : ℕ). PlannedBelow c.args.entries.now c.args.seen.now c.args.parts.now k c.loop-number.plan.steps c.loop-number.plan.places) (omega (arith, c.loop-number-test.false))
    c.loop-number.invariant

-- `are_in_order` meets its contract: one pulse that is not allowed breaks the order, and of allowed pulses the atoms decide.
use Rattle.std.proofs.Common.{◌≡◌, ◌&&◌, sym, ap, ◌∙◌, rules, tests}
use Rattle.std.specs.List.{list_all}
use Rattle.std.proofs.lemmas.Bool.{and_left}
use Rattle.std.proofs.lemmas.Iterator.{YieldsList-from_slice, YieldsList-from_map}
use Rattle.std.proofs.lemmas.Iterator.Search.{all_from_yields_List}
use Rattle.std.proofs.lemmas.List.Sorted.{answers_always}
use Rattle.runs.specs.Pulses.{pulse_of, pulses_of, allowed, rising}
use Rattle.runs.proofs.Arrays.{earlier, sorted_rising}
use Rattle.runs.proofs.pulses.Pulses.are_in_order.Goals as goal
use Rattle.runs.proofs.pulses.Pulses.are_in_order.Goals.{After-all}

-- what `all` answered
answered : (c : After-all) → c.all.result ≡ list_all (allowed c.args.loop_length) (pulses_of c.args.self.now.0.now)
answered c =
    all_from_yields_List (allowed c.args.loop_length) _ _ _ c.all.ensures.ran
    (YieldsList-from_map _ pulse_of (YieldsList-from_slice c.args.self.now.0.now cc) c.map-pulses.ensures.closure (λ x r q k. search rules))
    (λ x b q k. search (rules, tests))

pub returns-then-all : goal.returns-then-all
returns-then-all c =
    let arrays = c.args.self.now.0.now in
    let each = sym (answered (goal.at.returns-then-all c).After-all) ∙ c.if-all.true in
    sorted_rising arrays c.is_sorted_by.result (c.is_sorted_by.ensures.cases earlier (answers_always _ _ _ (λ f a r g h. search (rules, tests))))
    ∙ sym (ap (λ b. b && rising (pulses_of arrays)) each)

pub returns-else-all : goal.returns-else-all
returns-else-all c = c.if-all.false ∙ sym (and_left _ _ (sym (answered (goal.at.returns-else-all c).After-all) ∙ c.if-all.false))

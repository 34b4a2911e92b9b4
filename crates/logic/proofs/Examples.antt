-- `truth` computed on a run of which atom 0 is true at 1, 3, 5 and so on.
use Rattle.std.proofs.Common.{◌≡◌, ◌+◌, ◌%◌, true, false, eqb, refl, ap, arith}
use Rattle.logic.specs.Formula.{atom, implies, next, always}
use Rattle.logic.specs.Abbreviations.{eventually}
use Rattle.logic.specs.Run.{Run}
use Rattle.logic.specs.Decide.{truth}

abbrev blinks : Run
blinks = record {
  stem = 0;
  loop = 2;
  says = λ a i. eqb (i % 2) 1;
  turns = omega arith;
  repeats = λ a i s. let e : (i + 2) % 2 ≡ i % 2 = omega arith in ap (λ x. eqb x 1) e;
}

yes_always : truth blinks (always (eventually (atom 0))) 5 ≡ true
yes_always = refl

not_always : truth blinks (always (atom 0)) 5 ≡ false
not_always = refl

then_next : truth blinks (always (implies (atom 0) (next (next (atom 0))))) 0 ≡ true
then_next = refl

-- The laws of the rules and of the two pages: what they give or admit holds on each run on which its premises do.
use Rattle.std.proofs.Common.{◌≡◌, ℕ, Option, inl, inr}
use Rattle.logic.specs.Formula.{Formula}
use Rattle.logic.specs.Run.{Run}
use Rattle.logic.specs.Truth.{Throughout}
use Rattle.calculus.specs.declared.verdict.Verdict.TheVariants.{Admitted}
use Rattle.calculus.specs.Rules.{Gives, taut, ltl1, ltl2, ltl3, mp, nex, ind, DerivedGives, alw, ind1, som, chain}
use Rattle.calculus.specs.Pages.{Given, Lawful, Page}
use Rattle.calculus.specs.Published.{published}
use Rattle.calculus.specs.Derived.{derived}
use Rattle.calculus.specs.Promises.{RulesKeepLaw}
use Rattle.calculus.proofs.Laws as laws
use Rattle.calculus.proofs.Exact.{admitted_if_true, published_exact, derived_both}

pub gives_lawful : {rule : ℕ} {X : Formula} {P Q : Option Formula} → Gives rule X P Q → (r : Run) → Given r P → Given r Q → Throughout r X
gives_lawful (taut A t) r p q = laws.taut A t r
gives_lawful (ltl1 A) r p q = laws.ltl1 r A
gives_lawful (ltl2 A B) r p q = laws.ltl2 r A B
gives_lawful (ltl3 A) r p q = laws.ltl3 r A
gives_lawful (mp A B) r p q = laws.mp r A B p q
gives_lawful (nex A) r p q = laws.nex r A p
gives_lawful (ind A B) r p q = laws.ind r A B p q

pub derived_gives_lawful : {rule : ℕ} {X : Formula} {P Q : Option Formula} → DerivedGives rule X P Q → (r : Run) → Given r P → Given r Q → Throughout r X
derived_gives_lawful (alw A) r p q = laws.alw r A p
derived_gives_lawful (ind1 A) r p q = laws.ind1 r A p
derived_gives_lawful (som A B) r p q = laws.som r A B p
derived_gives_lawful (chain A B C) r p q = laws.chain r A B C p q

pub rules_keep_law : RulesKeepLaw
rules_keep_law rule X P Q (inl g) = gives_lawful g
rules_keep_law rule X P Q (inr g) = derived_gives_lawful g

pub published_lawful : Lawful published
published_lawful rule X P Q e = gives_lawful ((published_exact rule X P Q).0 e).0

pub derived_lawful : (page : Page) → Lawful (derived page.verdict)
derived_lawful page rule X P Q =
    derived_both page.verdict rule X P Q (λ v. v ≡ Admitted → (r : Run) → Given r P → Given r Q → Throughout r X)
    (λ b gives e. derived_gives_lawful (gives (admitted_if_true b e)))
    (λ _. page.lawful rule X P Q)

-- Entering a derivation line by line in a sealed case, with other calls in between.
use Rattle.std.specs.Prelude.{◌≡◌, ℕ, suc, ◌≤◌, List, length, take, Some}
use Rattle.std.specs.List.{slice_get}
use Rattle.refusals.specs.declared.Refusal.{Refusal}
use Rattle.logic.specs.Formula.{Formula}
use Rattle.logic.specs.Run.{Run}
use Rattle.calculus.specs.PrimeParts.{prime_parts}
use Rattle.calculus.specs.Pages.{Page}
use Rattle.calculus.specs.Published.{published}
use Rattle.calculus.specs.Derived.{derived}
use Rattle.calculus.specs.Derivations.{DerivationLine, Derivation}
use Rattle.lists.specs.Adding.{Distinct}
use Rattle.model.specs.declared.line.Line.{Line}
use Rattle.model.specs.Describes.{Number, Describes}
use Rattle.model.specs.History.{sealed_stage, Call, form, truth, line, refute, History, then, after, Refused, Formed, Assumed, HeldLine}

-- a page's verdict on a rule is the published one: if it is one of the axioms and rules 1 to 7, that of the published page, and if it is one of the derived rules 16 to 19, that of the derived page over it
abbrev pub Publishes : Page → ℕ → Type 0
Publishes page rule = (1 ≤ rule → rule ≤ 7 → page.verdict rule ≡ published rule) × (16 ≤ rule → rule ≤ 19 → page.verdict rule ≡ derived published rule)

-- a history that leaves a sealed case without lines, which has a derivation's assumptions; the derivation has at most 512 lines, and no taut line with more than twelve prime parts. The formulas of its lines may be formed later, in between the lines
pub record Ready (D : Derivation) (h : History sealed_stage) : Type 0 where
  pub no_lines : (n : ℕ) (l : Line) → HeldLine sealed_stage h n l → ⊥
  pub short : length D.steps ≤ 512
  pub few_parts : (n : ℕ) (s : DerivationLine) → slice_get D.steps n ≡ Some s → s.rule ≡ 1 → length (prime_parts s.formula) ≤ 12
  pub assumptions : (k : ℕ) (A : Formula) → slice_get D.assumptions k ≡ Some A → (j : ℕ) × (f : ℕ) × Assumed sealed_stage h j f × Formed sealed_stage h f A

-- the line of a case for a line of a derivation, where its formula has the number f
abbrev pub entered_as : ℕ → DerivationLine → Line
entered_as f s = record { rule = s.rule; formula = f; first = s.first; second = s.second }

-- a call that may come between two lines of a derivation: any but a line that is held
pub data Between (h : History sealed_stage) : Call sealed_stage → Type 0 where
  form_between : (kind left right : ℕ) → Between h (form kind left right)
  truth_between : (r : Run) (f i n : ℕ) → Between h (truth r f i n)
  refute_between : (r : Run) (f i n : ℕ) → Between h (refute r f i n)
  refused_between : (page : Page) (l : Line) (e : Refusal) → Refused (after h) (line page l) e → Between h (line page l)

-- after the history h the first n lines of a derivation were entered in order, each under a page with the published verdict on its rule, and with other calls in between; this made the history g
pub data Entering (D : Derivation) (h : History sealed_stage) : ℕ → History sealed_stage → Type 0 where
  not_begun : Entering D h 0 h
  other_call : {n : ℕ} {g : History sealed_stage} → Entering D h n g → (x : Call sealed_stage) → Between g x → Entering D h n (then g x)
  next_line : {n : ℕ} {g : History sealed_stage} → Entering D h n g → (s : DerivationLine) → slice_get D.steps n ≡ Some s
      → (page : Page) → Publishes page s.rule → (f : ℕ) → Formed sealed_stage g f s.formula → Entering D h (suc n) (then g (line page (entered_as f s)))

-- a derivation and a list of formulas keep to the limits of a case: nothing stands twice in the list, it has at most 1,024 formulas, the parts of each stand before it, with atoms of at most 31, and it has the formulas of all lines and assumptions; there are at most 16 assumptions and 512 lines, and no taut line has more than twelve prime parts
pub record WithinLimits (D : Derivation) (fs : List Formula) : Type 0 where
  pub distinct : Distinct fs
  pub few : length fs ≤ 1024
  pub parts_before : (n : ℕ) (A : Formula) → Number fs n A → (kind : ℕ) × (left : ℕ) × (right : ℕ) × Describes (take n fs) kind left right A
  pub has_lines : (n : ℕ) (s : DerivationLine) → slice_get D.steps n ≡ Some s → (f : ℕ) × Number fs f s.formula
  pub has_assumptions : (k : ℕ) (A : Formula) → slice_get D.assumptions k ≡ Some A → (f : ℕ) × Number fs f A
  pub few_assumptions : length D.assumptions ≤ 16
  pub short : length D.steps ≤ 512
  pub few_parts : (n : ℕ) (s : DerivationLine) → slice_get D.steps n ≡ Some s → s.rule ≡ 1 → length (prime_parts s.formula) ≤ 12

-- A derivation that a case is ready for is held line by line, whatever other calls come in between.
use Rattle.std.proofs.Common.{◌≡◌, ℕ, ◌<◌, List, length, Some, sym, refl, ap, ◌∙◌, subst, inl, inr, arith}
use Rattle.std.specs.List.{slice_get}
use Rattle.std.proofs.lemmas.Bool.{cases_lt}
use Rattle.logic.specs.Formula.{Formula}
use Rattle.calculus.specs.Derivations.{DerivationLine, Derivation}
use Rattle.refusals.proofs.Answers.{ok_not_err}
use Rattle.lists.specs.Adding.{Distinct}
use Rattle.lists.proofs.Growing.{grown_same}
use Rattle.lists.proofs.Members.{some_same, nth_within, nth_there}
use Rattle.model.specs.declared.line.Line.{Line}
use Rattle.model.specs.Describes.{Number}
use Rattle.model.specs.History.{sealed_stage, Call, line, History, then, after, Formed, formed_earlier, Assumed, assumed_earlier, HeldLine, line_last, line_earlier}
use Rattle.model.specs.Entering.{Ready, Between, form_between, truth_between, refute_between, refused_between, entered_as, Entering, not_begun, other_call, next_line}
use Rattle.model.specs.Promises.{DerivationsHeld, EnteredHeld, PublishedPagePublishes}
use Rattle.model.proofs.Changes.{Answered, BringsLine, changes}
use Rattle.model.proofs.NextLine.{HasFirst, next_answers, next_has_first}
use Rattle.model.proofs.Histories.{call_keeps_formulas, formed_there, assumed_there, limits_kept}
use Rattle.model.proofs.HeldLines.{lines_from}

-- a call that comes between leaves the lines as they are
between_lines : (g : History sealed_stage) (x : Call sealed_stage) → Between g x → (after (then g x)).lines ≡ (after g).lines
between_lines g x b = grown_same (changes (after g) x).lines (none x b)
  where
    none : (x : Call sealed_stage) → Between g x → (n : ℕ) (l : Line) → Answered (after g) x n × BringsLine (after g) x l → ⊥
    none x (form_between kind left right) n l brought = brought.1
    none x (truth_between r f i m) n l brought = brought.1
    none x (refute_between r f i m) n l brought = brought.1
    none x (refused_between page k e is) n l brought = ok_not_err (sym brought.0 ∙ is)

-- in a list where nothing stands twice, a member has one number
one_number : {X : Type 0} (xs : List X) → Distinct xs → (i j : ℕ) (x : X) → slice_get xs i ≡ Some x → slice_get xs j ≡ Some x → i ≡ j
one_number xs distinct i j x at_i at_j = elim (cases_lt i j) [
  | inl below ↦ absurd (distinct i j below (nth_within xs j at_j) (at_i ∙ sym at_j))
  | inr from ↦ elim (cases_lt j i) [
    | inl above ↦ absurd (distinct j i above (nth_within xs i at_i) (at_j ∙ sym at_i))
    | inr to ↦ omega arith
  ]
]

module _ (D : Derivation) (h : History sealed_stage) where
  -- once the first n lines were entered, what was formed and assumed before still is
  pub formed_still : {n : ℕ} {g : History sealed_stage} → Entering D h n g → (f : ℕ) (A : Formula) → Formed sealed_stage h f A → Formed sealed_stage g f A
  formed_still not_begun f A formed = formed
  formed_still (other_call e x b) f A formed = formed_earlier (formed_still e f A formed)
  formed_still (next_line e s is page publishes k number) f A formed = formed_earlier (formed_still e f A formed)

  assumed_still : {n : ℕ} {g : History sealed_stage} → Entering D h n g → (k f : ℕ) → Assumed sealed_stage h k f → Assumed sealed_stage g k f
  assumed_still not_begun k f assumed = assumed
  assumed_still (other_call e x b) k f assumed = assumed_earlier (assumed_still e k f assumed)
  assumed_still (next_line e s is page publishes j number) k f assumed = assumed_earlier (assumed_still e k f assumed)

module _ (D : Derivation) (h : History sealed_stage) (ready : Ready D h) where
  -- the formula of an assumption of the derivation is assumed, by the only number that it has
  module _ {n : ℕ} {g : History sealed_stage} (e : Entering D h n g) (f : ℕ) (A : Formula) (numbered : Number (after g).formulas f A) where
    assumed_by : (k : ℕ) → slice_get D.assumptions k ≡ Some A → (j : ℕ) × (slice_get (after g).assumptions j ≡ Some f)
    assumed_by k at =
        let a = ready.assumptions k A at in
        let there = formed_there sealed_stage g a.1 A (formed_still D h e a.1 A a.3) in
        let same_number = one_number (after g).formulas (limits_kept sealed_stage g).formulas_distinct a.1 f A there numbered in
        (a.0, subst (λ (x : ℕ). slice_get (after g).assumptions a.0 ≡ Some x) same_number (assumed_there sealed_stage g a.0 a.1 (assumed_still D h e a.0 a.1 a.2)))

  -- a call that comes between leaves what is held of the derivation
  first_kept : {n : ℕ} (g : History sealed_stage) (x : Call sealed_stage) → Between g x → HasFirst D n (after g) → HasFirst D n (after (then g x))
  first_kept g x b first =
      let same = between_lines g x b in
      record {
        count = ap length same ∙ first.count;
        matches = λ k l there.
            let m = first.matches k l (subst (λ (ls : List Line). slice_get ls k ≡ Some l) same there) in
            (m.0, m.1, call_keeps_formulas sealed_stage (after g) x l.formula m.0.formula m.2);
      }

  no_line : (k : ℕ) (l : Line) → slice_get (after h).lines k ≡ Some l → ⊥
  no_line k l there = ready.no_lines k l (lines_from sealed_stage h k l there)

  -- once the first n lines were entered, the case has these and no others
  has_first : {n : ℕ} {g : History sealed_stage} → Entering D h n g → HasFirst D n (after g)
  has_first not_begun =
      let none : 0 < length (after h).lines → ⊥ = λ lt. let l = nth_there (after h).lines 0 lt in no_line 0 l.0 l.1 in
      record { count = omega (arith, none); matches = λ k l there. absurd (no_line k l there) }
  has_first (other_call {g = g} e x b) = first_kept g x b (has_first e)
  has_first (next_line {n = n} {g = g} e s is page publishes f formed) =
      let numbered = formed_there sealed_stage g f s.formula formed in
      next_has_first D (has_first e) s is f numbered (assumed_by e f s.formula numbered) (ready.few_parts n s is) page publishes ready.short

pub derivations_held : DerivationsHeld
derivations_held D h ready n g e s is f formed page publishes =
    let numbered = formed_there sealed_stage g f s.formula formed in
    next_answers D (has_first D h ready e) s is f numbered (assumed_by D h ready e f s.formula numbered) (ready.few_parts n s is) page publishes ready.short

-- the line that was entered last, or an earlier one
entered_line : (D : Derivation) (h : History sealed_stage) → Ready D h → {m : ℕ} {g : History sealed_stage} → Entering D h m g
    → (n : ℕ) (s : DerivationLine) → n < m → slice_get D.steps n ≡ Some s → (f : ℕ) × Formed sealed_stage g f s.formula × HeldLine sealed_stage g n (entered_as f s)
entered_line D h ready not_begun n s before at = absurd (omega (arith, before))
entered_line D h ready (other_call e x b) n s before at =
    let (f, formed, held) = entered_line D h ready e n s before at in
    (f, formed_earlier formed, line_earlier held)
entered_line D h ready (next_line {n = m} {g = g} e t is page publishes f formed) n s before at = elim (cases_lt n m) [
  | inl earlier ↦ let (k, early, held) = entered_line D h ready e n s earlier at in (k, formed_earlier early, line_earlier held)
  | inr from ↦
      let here : m ≡ n = omega (arith, before, from) in
      let same : t ≡ s = some_same (sym is ∙ ap (slice_get D.steps) here ∙ at) in
      let held = derivations_held D h ready m g e t is f formed page publishes in
      let longer : History sealed_stage = then g (line page (entered_as f t)) in
      subst (λ (u : DerivationLine). (k : ℕ) × Formed sealed_stage longer k u.formula × HeldLine sealed_stage longer n (entered_as k u)) same
      (f, formed_earlier formed, subst (λ (k : ℕ). HeldLine sealed_stage longer k (entered_as f t)) here (line_last held))
]

pub entered_held : EnteredHeld
entered_held D h ready m g e n s before at = entered_line D h ready e n s before at

pub published_page_publishes : PublishedPagePublishes
published_page_publishes rule low = (λ from to. refl, λ from to. absurd (omega (arith, low, from)))

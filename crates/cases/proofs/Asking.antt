-- What a page is asked about a line, and what line answers then.
use Rattle.std.proofs.Common.{◌≡◌, ℕ, ◌<◌, ◌≤◌, true, false, ◌&&◌, ltb, length, Some, None, Ok, Err, Option, Result, sym, refl, ap, ◌∙◌, subst, ap₂, inl, inr}
use lib.Dec
use Rattle.std.specs.Option.{option_map}
use Rattle.std.proofs.lemmas.Option.{slice_get_past}
use Rattle.std.proofs.lemmas.Bool.{cond-true, cond-false, lt-ltb, le-ltb, le-leb, lt-leb, and_from, and_left, and_right, cases_lt}
use Rattle.refusals.specs.declared.Refusal.{Refusal}
use Rattle.refusals.specs.declared.Refusal.TheVariants.{NotEntered, LineNotHeld, LinesFull}
use Rattle.logic.specs.Formula.{Formula}
use Rattle.calculus.specs.declared.verdict.Verdict.{Verdict}
use Rattle.calculus.specs.declared.verdict.Verdict.TheVariants.{Admitted, NotAdmitted}
use Rattle.calculus.specs.Pages.{Page}
use Rattle.formulas.specs.Forming.{numbered}
use Rattle.lists.proofs.Members.{nth_there}
use Rattle.rules.specs.declared.page.Question.{Question}
use Rattle.rules.specs.Questions.{premise_entered, all_entered, verdict_on}
use Rattle.model.specs.declared.line.Line.{Line}
use Rattle.model.specs.Case.{Case}
use Rattle.model.specs.Calls.{unchanged}
use Rattle.model.specs.Lines.{place_held, premise, line_verdict, line_by, line}
use Rattle.model.specs.Limits.{LinesEntered}
use Rattle.model.proofs.LineGoes.{Allowed}
use Rattle.model.proofs.Checks.{line_unknown, line_unplaced, line_full, line_judged_as}
use Rattle.cases.specs.Asking.{premise_number, asked_with, question_for}

module _ (c : Case) where
  -- a place is held, and its premise is the formula with the number
  pub record Told (p o : Option ℕ) : Type 0 where
    pub held : place_held c p ≡ true
    pub is : option_map (numbered c.formulas) o ≡ premise c p
    pub entered : LinesEntered c.formulas c.lines → premise_entered c.formulas o ≡ true

  abbrev pub PlaceAsked : Option ℕ → Result (Option ℕ) Refusal → Type 0
  PlaceAsked p (Ok o) = Told p o
  PlaceAsked p (Err e) = (place_held c p ≡ false) × (LineNotHeld ≡ e)

  pub place_asked : (p : Option ℕ) → PlaceAsked p (premise_number c p)
  place_asked None = record { held = refl; is = refl; entered = λ _. refl }
  place_asked (Some k) = elim (cases_lt k (length c.lines)) [
    | inl there ↦
        let x = nth_there c.lines k there in
        rw x.1 (record {
          held = lt-ltb k (length c.lines) there;
          is = ap (λ (o : Option Line). option_map (λ l. numbered c.formulas l.formula) o) (sym x.1);
          entered = λ all. lt-ltb x.0.formula (length c.formulas) (all k x.0 x.1);
        })
    | inr past ↦ rw (slice_get_past c.lines k past) (le-ltb k (length c.lines) past, refl)
  ]

  module _ (l : Line) where
    pub question_unknown : length c.formulas ≤ l.formula → question_for c l ≡ Err NotEntered
    question_unknown past = cond-true (Dec.leb (length c.formulas) l.formula) _ _ (le-leb (length c.formulas) l.formula past)

    pub question_known : l.formula < length c.formulas → question_for c l ≡ asked_with l (premise_number c l.first) (premise_number c l.second)
    question_known known = cond-false (Dec.leb (length c.formulas) l.formula) _ _ (lt-leb (length c.formulas) l.formula known)

    -- the question is for the line's own formulas
    pub record Asked (q : Question) : Type 0 where
      pub known : l.formula < length c.formulas
      pub placed : (place_held c l.first && place_held c l.second) ≡ true
      pub rule : q.rule ≡ l.rule
      pub conclusion : q.conclusion ≡ l.formula
      pub first : Told l.first q.first
      pub second : Told l.second q.second

    -- a line that can't be asked about is refused, whatever the page is
    abbrev RefusedBy : Refusal → Type 0
    RefusedBy e = (page : Page) → line c page l ≡ unchanged c (Err e)

    abbrev Answered : Result Question Refusal → Type 0
    Answered (Ok q) = Asked q
    Answered (Err e) = RefusedBy e

    asked_when_known : l.formula < length c.formulas → (o p : Result (Option ℕ) Refusal) → PlaceAsked l.first o → PlaceAsked l.second p → Answered (asked_with l o p)
    asked_when_known known (Err e) p first second = λ page. subst (λ (x : Refusal). line c page l ≡ unchanged c (Err x)) first.1 (line_unplaced c page l known (and_left (place_held c l.first) (place_held c l.second) first.0))
    asked_when_known known (Ok o) (Err e) first second = λ page. subst (λ (x : Refusal). line c page l ≡ unchanged c (Err x)) second.1 (line_unplaced c page l known (and_right (place_held c l.first) (place_held c l.second) second.0))
    asked_when_known known (Ok o) (Ok p) first second = record {
      known = known;
      placed = and_from (place_held c l.first) (place_held c l.second) first.held second.held;
      rule = refl;
      conclusion = refl;
      first = first;
      second = second;
    }

    answered : Answered (question_for c l)
    answered = elim (cases_lt l.formula (length c.formulas)) [
      | inl known ↦ subst Answered (sym (question_known known)) (asked_when_known known (premise_number c l.first) (premise_number c l.second) (place_asked l.first) (place_asked l.second))
      | inr past ↦ subst Answered (sym (question_unknown past)) (λ page. line_unknown c page l past)
    ]

    pub question_refused : (e : Refusal) → question_for c l ≡ Err e → (page : Page) → line c page l ≡ unchanged c (Err e)
    question_refused e is = subst Answered is answered

    pub question_asked : (q : Question) → question_for c l ≡ Ok q → Asked q
    question_asked q is = subst Answered is answered

    -- a page's verdict on the question is that on the formulas
    pub asked_verdict : LinesEntered c.formulas c.lines → (page : Page) (q : Question) → question_for c l ≡ Ok q
        → verdict_on page.verdict c.formulas q ≡ page.verdict l.rule (numbered c.formulas l.formula) (premise c l.first) (premise c l.second)
    asked_verdict stated page q is =
        let a = question_asked q is in
        let conclusion_in : ltb q.conclusion (length c.formulas) ≡ true = lt-ltb q.conclusion (length c.formulas) (subst (λ (n : ℕ). n < length c.formulas) (sym a.conclusion) a.known) in
        cond-true (all_entered c.formulas q) _ NotAdmitted
        (and_from (ltb q.conclusion (length c.formulas)) _ conclusion_in
        (and_from (premise_entered c.formulas q.first) (premise_entered c.formulas q.second) (a.first.entered stated) (a.second.entered stated)))
        ∙ ap₂ (λ (rule : ℕ) (n : ℕ). page.verdict rule (numbered c.formulas n) (option_map (numbered c.formulas) q.first) (option_map (numbered c.formulas) q.second)) a.rule a.conclusion
        ∙ ap₂ (λ (o p : Option Formula). page.verdict l.rule (numbered c.formulas l.formula) o p) a.first.is a.second.is

    -- a line that can be asked about, where there is room, is answered by its verdict
    module _ (page : Page) (q : Question) (is : question_for c l ≡ Ok q) where
      pub asked_full : 512 ≤ length c.lines → line c page l ≡ unchanged c (Err LinesFull)
      asked_full full = let a = question_asked q is in line_full c page l a.known a.placed full

      module _ (room : length c.lines < 512) where
        pub asked_judged : (v : Verdict) → line_verdict c page l ≡ v → line c page l ≡ line_by c l v
        asked_judged v told = let a = question_asked q is in line_judged_as c page l a.known a.placed room v told

        pub asked_allowed : line_verdict c page l ≡ Admitted → Allowed c page l
        asked_allowed admitted =
            let a = question_asked q is in
            record { entered = a.known; placed = a.placed; room = room; admitted = admitted }

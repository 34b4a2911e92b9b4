-- The formula of a line that is held follows from the assumptions, where those of the lines before it do.
use Rattle.std.proofs.Common.{◌≡◌, ℕ, ◌<◌, true, [], ◌∷◌, ◌++◌, length, Some, None, Ok, Option, sym, subst, eqb}
use mathlib.Core.Logic.{∥∥₁_map, ∥∥₁_map₂}
use Rattle.std.specs.List.{slice_get}
use Rattle.std.specs.Option.{option_map}
use Rattle.std.proofs.lemmas.Bool.{and_parts, cond_both, ltb-true, eqb-true}
use Rattle.logic.specs.Run.{Run}
use Rattle.logic.specs.Truth.{Throughout}
use Rattle.calculus.specs.declared.verdict.Verdict.{Verdict}
use Rattle.calculus.specs.declared.verdict.Verdict.TheVariants.{Admitted}
use Rattle.calculus.specs.Pages.{Given, Page}
use Rattle.formulas.specs.Forming.{numbered}
use Rattle.lists.proofs.Members.{nth_there, every_push}
use Rattle.model.specs.declared.line.Line.{Line}
use Rattle.model.specs.Case.{Case}
use Rattle.model.specs.Breaking.{Keeps, Follows, LinesFollow}
use Rattle.model.specs.Lines.{place_held, premise, assumption_verdict, line_verdict, line}
use Rattle.model.specs.Limits.{AssumptionsEntered}
use Rattle.model.proofs.Describing.{numbered_is}
use Rattle.model.proofs.Judged.{entered_number}
use Rattle.model.proofs.AssumptionLines.{assumption_admitted}
use Rattle.model.proofs.LineGoes.{Allowed, line_allowed}

module _ (c : Case) where
  -- the premise at a place holds on each run that keeps the assumptions
  abbrev pub PremiseFollows : Option ℕ → Type 0
  PremiseFollows p = (r : Run) → Keeps c.formulas c.assumptions r → Given r (premise c p)

  premise_on : (k : ℕ) (x : Line) → slice_get c.lines k ≡ Some x → Follows c.formulas c.assumptions x.formula → PremiseFollows (Some k)
  premise_on k x is follows r keeps =
      subst (λ (o : Option Line). Given r (option_map (λ l. numbered c.formulas l.formula) o)) (sym is)
      (subst (Throughout r) (sym (numbered_is c.formulas x.formula follows.formula follows.numbered)) (follows.holds r keeps))

  -- the formula of each line follows
  abbrev pub LineByLine : Type 0
  LineByLine = (n : ℕ) (x : Line) → slice_get c.lines n ≡ Some x → Follows c.formulas c.assumptions x.formula

  -- where they do, so do the premises
  pub premise_follows : LineByLine → (p : Option ℕ) → place_held c p ≡ true → PremiseFollows p
  premise_follows each None held = λ r keeps. tt
  premise_follows each (Some k) held =
      let x = nth_there c.lines k (ltb-true k (length c.lines) held) in
      premise_on k x.0 x.1 (each k x.0 x.1)

  pub premise_follows_merely : LinesFollow c.formulas c.assumptions c.lines → (p : Option ℕ) → place_held c p ≡ true → ∥ PremiseFollows p ∥₁
  premise_follows_merely each None held = ∣ (λ r keeps. tt) ∣₁
  premise_follows_merely each (Some k) held =
      let x = nth_there c.lines k (ltb-true k (length c.lines) held) in
      ∥∥₁_map (each k x.0 x.1) (premise_on k x.0 x.1)

  module _ (entered : AssumptionsEntered c.formulas c.assumptions) (page : Page) (l : Line) where
    -- the formula of an admitted line holds where its premises do
    pub admitted_follows : l.formula < length c.formulas → line_verdict c page l ≡ Admitted
        → PremiseFollows l.first → PremiseFollows l.second → Follows c.formulas c.assumptions l.formula
    admitted_follows known admitted first second = record {
      formula = numbered c.formulas l.formula;
      numbered = entered_number c.formulas l.formula known;
      holds = cond_both (eqb l.rule 0) (assumption_verdict c l) (page.verdict l.rule (numbered c.formulas l.formula) (premise c l.first) (premise c l.second))
          (λ (v : Verdict). v ≡ Admitted → (r : Run) → Keeps c.formulas c.assumptions r → Throughout r (numbered c.formulas l.formula))
          (λ zero is r keeps.
          let a = assumption_admitted c l (eqb-true l.rule 0 zero) is in
          keeps a.place (numbered c.formulas l.formula) (record { number = l.formula; assumed = a.assumed; numbered = entered_number c.formulas l.formula known }))
          (λ _ is r keeps. page.lawful l.rule (numbered c.formulas l.formula) (premise c l.first) (premise c l.second) is r (first r keeps) (second r keeps))
          admitted;
    }

    -- so does that of a line that can be held, where the formulas of the lines before it follow
    module _ (can : Allowed c page l) where
      abbrev held : (place_held c l.first ≡ true) × (place_held c l.second ≡ true)
      held = and_parts (place_held c l.first) (place_held c l.second) can.placed

      pub allowed_follows : LineByLine → Follows c.formulas c.assumptions l.formula
      allowed_follows each = admitted_follows can.entered can.admitted (premise_follows each l.first held.0) (premise_follows each l.second held.1)

      pub allowed_follows_merely : LinesFollow c.formulas c.assumptions c.lines → ∥ Follows c.formulas c.assumptions l.formula ∥₁
      allowed_follows_merely each =
          ∥∥₁_map₂ (premise_follows_merely each l.first held.0) (premise_follows_merely each l.second held.1)
          (admitted_follows can.entered can.admitted)

      -- and with it the formulas of all lines do
      pub lines_follow_push : LinesFollow c.formulas c.assumptions c.lines → LinesFollow c.formulas c.assumptions (c.lines ++ l ∷ [])
      lines_follow_push each = every_push (λ (x : Line). ∥ Follows c.formulas c.assumptions x.formula ∥₁) c.lines l each (allowed_follows_merely each)

    -- and so does that of a line that was answered a number for
    module _ (n : ℕ) (is : (line c page l).answer ≡ Ok n) where
      pub held_follows : LineByLine → Follows c.formulas c.assumptions l.formula
      held_follows = allowed_follows (line_allowed c page l n is).1

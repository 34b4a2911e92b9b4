-- line by its checks in their order.
use Rattle.std.proofs.Common.{◌≡◌, ℕ, ◌<◌, ◌≤◌, true, false, not, ◌&&◌, length, Ok, Err, sym, refl}
use lib.Dec
use Rattle.std.proofs.lemmas.Bool.{cond_both, leb-true, leb-false, not-true, not-false}
use Rattle.refusals.specs.declared.Refusal.TheVariants.{NotEntered, LineNotHeld, LinesFull}
use Rattle.refusals.proofs.Answers.{ok_not_err, ok_same}
use Rattle.calculus.specs.declared.verdict.Verdict.{Verdict}
use Rattle.calculus.specs.declared.verdict.Verdict.TheVariants.{Admitted, NotAdmitted, BeyondLimit}
use Rattle.calculus.specs.Pages.{Page}
use Rattle.model.specs.declared.line.Line.{Line}
use Rattle.model.specs.Case.{Case}
use Rattle.model.specs.Calls.{Outcome, unchanged}
use Rattle.model.specs.Lines.{place_held, line_verdict, line_by, line}

module _ (c : Case) (page : Page) (l : Line) where
  -- both places of the line are held
  abbrev pub Placed : Type 0
  Placed = (place_held c l.first && place_held c l.second) ≡ true

  -- a check refuses it, the first that does; or there is a verdict
  pub data LineGoes : Outcome ℕ → Type 0 where
    unknown : length c.formulas ≤ l.formula → LineGoes (unchanged c (Err NotEntered))
    unplaced : l.formula < length c.formulas → (place_held c l.first && place_held c l.second) ≡ false → LineGoes (unchanged c (Err LineNotHeld))
    full : l.formula < length c.formulas → Placed → 512 ≤ length c.lines → LineGoes (unchanged c (Err LinesFull))
    judged : l.formula < length c.formulas → Placed → length c.lines < 512 → (v : Verdict) → line_verdict c page l ≡ v → LineGoes (line_by c l v)

  pub line_goes : LineGoes (line c page l)
  unfolding line
  line_goes =
      cond_both (Dec.leb (length c.formulas) l.formula) _ _ LineGoes (λ t. unknown (leb-true (length c.formulas) l.formula t)) (λ f.
      let known = leb-false (length c.formulas) l.formula f in
      cond_both (not (place_held c l.first && place_held c l.second)) _ _ LineGoes (λ t. unplaced known (not-true _ t)) (λ g.
      cond_both (Dec.leb 512 (length c.lines)) _ _ LineGoes (λ t. full known (not-false _ g) (leb-true 512 (length c.lines) t)) (λ h.
      judged known (not-false _ g) (leb-false 512 (length c.lines) h) (line_verdict c page l) refl)))

  -- a line can be held: its formula is entered, its places are held, there is room, and it is admitted
  pub record Allowed : Type 0 where
    pub entered : l.formula < length c.formulas
    pub placed : Placed
    pub room : length c.lines < 512
    pub admitted : line_verdict c page l ≡ Admitted

  -- a line that is answered a number for can be held, and its number is the next one
  pub line_allowed : (n : ℕ) → (line c page l).answer ≡ Ok n → (n ≡ length c.lines) × Allowed
  line_allowed n = allowed line_goes
    where
      allowed : {o : Outcome ℕ} → LineGoes o → o.answer ≡ Ok n → (n ≡ length c.lines) × Allowed
      allowed (unknown past) is = absurd (ok_not_err (sym is))
      allowed (unplaced known at) is = absurd (ok_not_err (sym is))
      allowed (full known placed most) is = absurd (ok_not_err (sym is))
      allowed (judged known placed room Admitted v) is = (sym (ok_same is), record { entered = known; placed = placed; room = room; admitted = v })
      allowed (judged known placed room NotAdmitted v) is = absurd (ok_not_err (sym is))
      allowed (judged known placed room BeyondLimit v) is = absurd (ok_not_err (sym is))

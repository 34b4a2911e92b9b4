-- How a call changes a case: each list stays, or has one more member at its end, by whose number the call is answered.
use Rattle.std.proofs.Common.{◌≡◌, ℕ, ◌<◌, [], ◌∷◌, ◌++◌, List, length, Some, Ok, Err, Result, sym, refl, ap, ◌∙◌, subst}
use Rattle.std.specs.List.{slice_get}
use Rattle.refusals.specs.declared.Refusal.{Refusal}
use Rattle.refusals.proofs.Answers.{ok_not_err, ok_same}
use Rattle.logic.specs.Formula.{Formula}
use Rattle.logic.specs.Run.{Run}
use Rattle.calculus.specs.Pages.{Page}
use Rattle.calculus.specs.declared.verdict.Verdict.TheVariants.{Admitted, NotAdmitted, BeyondLimit}
use Rattle.lists.proofs.Members.{nth_push}
use Rattle.lists.proofs.Growing.{Grown, as_it_was, one_more}
use Rattle.model.specs.declared.line.Line.{Line}
use Rattle.model.specs.declared.refutation.Refutation.{Refutation}
use Rattle.model.specs.Case.{Case}
use Rattle.model.specs.Calls as calls
use Rattle.model.specs.Calls.{Outcome, unchanged}
use Rattle.model.specs.Lines as lines
use Rattle.model.specs.Judging as judging
use Rattle.model.specs.Judging.{once_checked, true_at}
use Rattle.model.specs.Describes.{Number, Describes}
use Rattle.model.specs.Outcomes.{Absent, FormEnds, unknown_kind, bad_field, formula_there, formulas_full, formula_entered, AssumeEnds, not_entered, assumption_there, assumptions_full, newly_assumed, Judgeable}
use Rattle.model.specs.History.{Stage, Call, form, assume, truth, line, refute, after_call}
use Rattle.model.proofs.Describing.{describes_one}
use Rattle.model.proofs.Exact.{form_exact, assume_exact}
use Rattle.model.proofs.LineGoes.{Allowed, LineGoes, unknown, unplaced, full, judged, line_goes, line_allowed}
use Rattle.model.proofs.Checks.{line_judged_as}
use Rattle.model.proofs.Judged.{RefuteGoes, unjudged, full as refutations_full, judged as run_judged, refute_goes}

-- ---- what a call may bring

-- the number or place that it answers; truth answers none
abbrev pub Answered : {s : Stage} → Case → Call s → ℕ → Type 0
Answered c (form kind left right) n = (calls.form c kind left right).answer ≡ Ok n
Answered c (assume f) n = (calls.assume c f).answer ≡ Ok n
Answered c (truth r f i words) n = ⊥
Answered c (line page l) n = (lines.line c page l).answer ≡ Ok n
Answered c (refute r f i words) n = (judging.refute c r f i words).answer ≡ Ok n

-- a new formula, as its kind and fields describe it
abbrev pub BringsFormula : {s : Stage} → Case → Call s → Formula → Type 0
BringsFormula c (form kind left right) A = Describes c.formulas kind left right A × Absent c.formulas A × (length c.formulas < 1024)
BringsFormula c x A = ⊥

-- a new assumption
abbrev pub BringsAssumption : {s : Stage} → Case → Call s → ℕ → Type 0
BringsAssumption c (assume f) g = (f ≡ g) × (g < length c.formulas) × Absent c.assumptions g × (length c.assumptions < 16)
BringsAssumption c x g = ⊥

-- a line that can be held
abbrev pub BringsLine : {s : Stage} → Case → Call s → Line → Type 0
BringsLine c (line page l) k = (l ≡ k) × Allowed c page k
BringsLine c x k = ⊥

-- a refutation that could be judged, where there was room
abbrev pub BringsRefutation : {s : Stage} → Case → Call s → Refutation → Type 0
BringsRefutation c (refute r f i words) y = (record { formula = f; position = i } ≡ y) × Judgeable c r f i words × (length c.refutations < 64)
BringsRefutation c x y = ⊥

-- a call that answers so changes one case to another
pub record Changes {s : Stage} (c : Case) (x : Call s) (Answer : ℕ → Type 0) (d : Case) : Type 0 where
  pub formulas : Grown (λ n A. Answer n × BringsFormula c x A) c.formulas d.formulas
  pub assumptions : Grown (λ k f. Answer k × BringsAssumption c x f) c.assumptions d.assumptions
  pub lines : Grown (λ n l. Answer n × BringsLine c x l) c.lines d.lines
  pub refutations : Grown (λ n y. Answer n × BringsRefutation c x y) c.refutations d.refutations

-- ---- each call

module _ {s : Stage} (c : Case) (x : Call s) (Answer : ℕ → Type 0) where
  nothing : Changes c x Answer c
  nothing = record { formulas = as_it_was; assumptions = as_it_was; lines = as_it_was; refutations = as_it_was }

-- truth leaves the case as it is
pub truth_changes_nothing : (c : Case) (r : Run) (f i n : ℕ) → (judging.truth c r f i n).after ≡ c
unfolding judging.truth
truth_changes_nothing c r f i n = by (judging.check c r f i n)
  where
    by : (k : Result (Unit {0}) Refusal) → (once_checked c k (unchanged c (Ok (true_at c r f i)))).after ≡ c
    by (Ok done) = refl
    by (Err e) = refl

pub changes : {s : Stage} (c : Case) (x : Call s) → Changes c x (Answered c x) (after_call c x)
changes {s} c (form kind left right) = by (form_exact c kind left right)
  where
    by : {o : Outcome ℕ} → FormEnds c kind left right o → Changes {s = s} c (form kind left right) (λ n. o.answer ≡ Ok n) o.after
    by (unknown_kind k) = nothing c _ _
    by (bad_field k none) = nothing c _ _
    by (formula_there A d n there) = nothing c _ _
    by (formulas_full A d none most) = nothing c _ _
    by (formula_entered A d none room) = record { formulas = one_more A (refl, (d, none, room)); assumptions = as_it_was; lines = as_it_was; refutations = as_it_was }
changes c (assume f) = by (assume_exact c f)
  where
    by : {o : Outcome ℕ} → AssumeEnds c f o → Changes c (assume f) (λ k. o.answer ≡ Ok k) o.after
    by (not_entered past) = nothing c _ _
    by (assumption_there f_in k there) = nothing c _ _
    by (assumptions_full f_in none most) = nothing c _ _
    by (newly_assumed f_in none room) = record { formulas = as_it_was; assumptions = one_more f (refl, (refl, f_in, none, room)); lines = as_it_was; refutations = as_it_was }
changes {s} c (truth r f i n) = subst (Changes {s = s} c (truth r f i n) (λ k. ⊥)) (sym (truth_changes_nothing c r f i n)) (nothing c _ _)
changes c (line page l) = by (line_goes c page l)
  where
    by : {o : Outcome ℕ} → LineGoes c page l o → Changes c (line page l) (λ n. o.answer ≡ Ok n) o.after
    by (unknown past) = nothing c _ _
    by (unplaced known at) = nothing c _ _
    by (full known placed most) = nothing c _ _
    by (judged known placed room Admitted v) = record {
      formulas = as_it_was;
      assumptions = as_it_was;
      lines = one_more l (refl, (refl, record { entered = known; placed = placed; room = room; admitted = v }));
      refutations = as_it_was;
    }
    by (judged known placed room NotAdmitted v) = nothing c _ _
    by (judged known placed room BeyondLimit v) = nothing c _ _
changes c (refute r f i n) = by (refute_goes c r f i n)
  where
    by : {o : Outcome ℕ} {left : List ℕ → List ℕ} → RefuteGoes c r f i n o left → Changes c (refute r f i n) (λ m. o.answer ≡ Ok m) o.after
    by (unjudged e cannot) = nothing c _ _
    by (refutations_full can most) = nothing c _ _
    by (run_judged can room (Ok done) v) = record { formulas = as_it_was; assumptions = as_it_was; lines = as_it_was; refutations = one_more (record { formula = f; position = i }) (refl, (refl, can, room)) }
    by (run_judged can room (Err e) v) = nothing c _ _

-- ---- what a call that is answered leaves

-- the number that form answers is that of the formula that it was asked for
pub form_gives : (c : Case) (kind left right n : ℕ) (A : Formula) → (calls.form c kind left right).answer ≡ Ok n → Describes c.formulas kind left right A
    → Number (calls.form c kind left right).after.formulas n A
form_gives c kind left right n A is d = by (form_exact c kind left right) is
  where
    by : {o : Outcome ℕ} → FormEnds c kind left right o → o.answer ≡ Ok n → Number o.after.formulas n A
    by (unknown_kind k) is = absurd (ok_not_err (sym is))
    by (bad_field k none) is = absurd (ok_not_err (sym is))
    by (formula_there B b m there) is = subst (λ (k : ℕ). Number c.formulas k A) (ok_same is) (there ∙ ap Some (describes_one c.formulas kind left right B A b d))
    by (formulas_full B b none most) is = absurd (ok_not_err (sym is))
    by (formula_entered B b none room) is =
        subst (λ (k : ℕ). Number (c.formulas ++ B ∷ []) k A) (ok_same is) (nth_push c.formulas B ∙ ap Some (describes_one c.formulas kind left right B A b d))

-- the place that assume answers is that of the formula that it was asked for
pub assume_gives : (c : Case) (f k : ℕ) → (calls.assume c f).answer ≡ Ok k → slice_get (calls.assume c f).after.assumptions k ≡ Some f
assume_gives c f k is = by (assume_exact c f) is
  where
    by : {o : Outcome ℕ} → AssumeEnds c f o → o.answer ≡ Ok k → slice_get o.after.assumptions k ≡ Some f
    by (not_entered past) is = absurd (ok_not_err (sym is))
    by (assumption_there f_in m there) is = subst (λ (j : ℕ). slice_get c.assumptions j ≡ Some f) (ok_same is) there
    by (assumptions_full f_in none most) is = absurd (ok_not_err (sym is))
    by (newly_assumed f_in none room) is = subst (λ (j : ℕ). slice_get (c.assumptions ++ f ∷ []) j ≡ Some f) (ok_same is) (nth_push c.assumptions f)

-- a line that is answered a number for is held by that number
pub line_gives : (c : Case) (page : Page) (l : Line) (n : ℕ) → (lines.line c page l).answer ≡ Ok n → slice_get (lines.line c page l).after.lines n ≡ Some l
line_gives c page l n is =
    let (at, can) = line_allowed c page l n is in
    rw (line_judged_as c page l can.entered can.placed can.room Admitted can.admitted, at) (nth_push c.lines l)

-- and so is a refutation; it could be judged, there was room, and its run refutes the formula
pub refute_allowed : (c : Case) (r : Run) (f i n m : ℕ) → (judging.refute c r f i n).answer ≡ Ok m
    → (m ≡ length c.refutations) × (length c.refutations < 64) × Judgeable c r f i n × (judging.judge c r f i ≡ Ok tt)
refute_allowed c r f i n m is = by (refute_goes c r f i n) is
  where
    by : {o : Outcome ℕ} {left : List ℕ → List ℕ} → RefuteGoes c r f i n o left → o.answer ≡ Ok m
        → (m ≡ length c.refutations) × (length c.refutations < 64) × Judgeable c r f i n × (judging.judge c r f i ≡ Ok tt)
    by (unjudged e cannot) is = absurd (ok_not_err (sym is))
    by (refutations_full can most) is = absurd (ok_not_err (sym is))
    by (run_judged can room (Ok done) v) is = (sym (ok_same is), room, can, v)
    by (run_judged can room (Err e) v) is = absurd (ok_not_err (sym is))

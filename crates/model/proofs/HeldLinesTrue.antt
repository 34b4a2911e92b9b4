-- After every history, the formulas of held lines follow from the assumptions, and no refutation is of one of them.
use Rattle.std.proofs.Common.{◌≡◌, ℕ, List, Some, sym, ◌∙◌, subst}
use Rattle.std.specs.List.{slice_get}
use Rattle.logic.specs.Formula.{Formula}
use Rattle.logic.specs.Run.{Run}
use Rattle.logic.specs.Truth.{Throughout}
use Rattle.lists.proofs.Members.{some_same}
use Rattle.model.specs.declared.line.Line.{Line}
use Rattle.model.specs.Case.{Case}
use Rattle.model.specs.Breaking.{Keeps, Follows}
use Rattle.model.specs.Limits.{AssumptionsEntered}
use Rattle.model.specs.History.{Stage, open_stage, sealed_stage, Call, line, History, then, then_seal, after_call, after, HeldLine, line_last, line_earlier}
use Rattle.model.specs.Promises.{HeldLinesTrue, NeverBoth, KeepsAssumptions}
use Rattle.model.proofs.Following.{held_follows}
use Rattle.model.proofs.Kept.{follows_kept}
use Rattle.model.proofs.Histories.{call_keeps_formulas, sealed_assumes_nothing, formed_there, assumptions_from, formulas_from, limits_kept}
use Rattle.model.proofs.HeldLines.{no_line_open, lines_from, line_there}
use Rattle.model.proofs.HeldRefutations.{refutations_have_runs}

-- the formula of a held line follows
abbrev LineFollows : (s : Stage) → History s → Type 0
LineFollows s h = (n : ℕ) (l : Line) → HeldLine s h n l → Follows (after h).formulas (after h).assumptions l.formula

-- what follows goes on following in every call on a sealed case
follows_after : (c : Case) (x : Call sealed_stage) → AssumptionsEntered c.formulas c.assumptions → (f : ℕ) → Follows c.formulas c.assumptions f
    → Follows (after_call c x).formulas (after_call c x).assumptions f
follows_after c x entered f w = rw (sealed_assumes_nothing c x) (follows_kept c.formulas (after_call c x).formulas c.assumptions (call_keeps_formulas sealed_stage c x) entered f w)

-- so it does after one more call
one_call : (h : History sealed_stage) (x : Call sealed_stage) → LineFollows sealed_stage h → LineFollows sealed_stage (then h x)
one_call h x before n l (line_last {page = page} is) =
    let entered = (limits_kept sealed_stage h).assumptions_entered in
    follows_after (after h) (line page l) entered l.formula (held_follows (after h) entered page l n is (λ m k there. before m k (lines_from sealed_stage h m k there)))
one_call h x before n l (line_earlier held) = follows_after (after h) x (limits_kept sealed_stage h).assumptions_entered l.formula (before n l held)

pub lines_follow : (s : Stage) (h : History s) → LineFollows s h
lines_follow open_stage h n l held = absurd (no_line_open h n l (line_there open_stage h n l held))
lines_follow sealed_stage (then h x) n l held = one_call h x (lines_follow sealed_stage h) n l held
lines_follow sealed_stage (then_seal h) n l held = absurd (no_line_open h n l (line_there sealed_stage (then_seal h) n l held))

-- a run that keeps what was assumed in a history keeps the assumptions of the case
keeps_case : (s : Stage) (h : History s) (r : Run) → KeepsAssumptions s h r → Keeps (after h).formulas (after h).assumptions r
keeps_case s h r keeps k A a = keeps k a.number A (assumptions_from s h k a.number a.assumed) (formulas_from s h a.number A a.numbered)

-- one number is of one formula
one_formula : (fs : List Formula) (f : ℕ) {A B : Formula} → slice_get fs f ≡ Some A → slice_get fs f ≡ Some B → A ≡ B
one_formula fs f a b = some_same (sym a ∙ b)

pub held_lines_true : HeldLinesTrue
held_lines_true s h n l A held formed r keeps =
    let w = lines_follow s h n l held in
    subst (Throughout r) (one_formula (after h).formulas l.formula w.numbered (formed_there s h l.formula A formed)) (w.holds r (keeps_case s h r keeps))

pub never_both : NeverBoth
never_both s h n m f i l r A held formed_line refuted formed =
    let p = refutations_have_runs s h m f i r refuted in
    p.2 A formed (held_lines_true s h n l A held formed_line r p.0 i)

-- What one call leaves of the scratch words, and how later calls write over that.
use Rattle.std.proofs.Common.{◌≡◌, ℕ, ◌<◌, ◌≤◌, List, ◌∷◌, length, Some, None, Option, refl, ◌∙◌, arith}
use Rattle.refusals.specs.declared.Refusal.{Refusal}
use Rattle.logic.specs.Formula.{Formula}
use Rattle.logic.specs.Run.{Run}
use Rattle.calculus.specs.Pages.{Page}
use Rattle.lists.proofs.Growing.{grown_longer}
use Rattle.row_writer.specs.RowsAlong.{with_rows}
use Rattle.row_writer.proofs.RowsAlong.{rows_over}
use Rattle.model.specs.declared.line.Line.{Line}
use Rattle.model.specs.Case.{Case}
use Rattle.model.specs.Calls.{Outcome}
use Rattle.model.specs.Judging.{refute_scratch}
use Rattle.model.specs.Outcomes.{Judgeable, Unjudgeable, formula_unknown, run_too_long, past_run, scratch_too_short}
use Rattle.model.specs.History.{Stage, sealed_stage, Call, form, truth, line, refute, after_call, Refused}
use Rattle.model.specs.LastRows.{WritesRows, truth_writes, refute_writes, LastRows, no_call, refused_writing, refused_unwritten, answered_before, answered_writing, answered_unwritten, with_last}
use Rattle.model.proofs.Judged.{RefuteGoes, unjudged, full, judged, refute_goes}
use Rattle.model.proofs.Changes.{changes}

-- ---- what one call leaves

-- the words after a call hold the rows of all formulas if it writes rows, and are as they were if it writes none
pub data Leaves (s : Stage) (c : Case) (x : Call s) (words : List ℕ) : List ℕ → Type 0 where
  leaves_rows : {r : Run} → WritesRows c s x r → Leaves s c x words (with_rows r c.formulas words)
  leaves_all : ((r : Run) → WritesRows c s x r → ⊥) → Leaves s c x words words

-- what a call that writes rows needs
abbrev Writable : {s : Stage} → Case → Call s → Type 0
Writable c (truth r f i n) = Judgeable c r f i n
Writable c (refute r f i n) = Judgeable c r f i n × (length c.refutations < 64)
Writable c x = ⊥

writable : {s : Stage} {c : Case} {x : Call s} {r : Run} → WritesRows c s x r → Writable c x
writable (truth_writes judgeable) = judgeable
writable (refute_writes judgeable room) = (judgeable, room)

pub form_leaves : (s : Stage) (c : Case) (kind left right : ℕ) (words : List ℕ) → Leaves s c (form kind left right) words words
form_leaves s c kind left right words = leaves_all (λ r w. writable w)

pub line_leaves : (c : Case) (page : Page) (l : Line) (words : List ℕ) → Leaves sealed_stage c (line page l) words words
line_leaves c page l words = leaves_all (λ r w. writable w)

module _ (c : Case) (r : Run) (f i : ℕ) where
  not_both : {n : ℕ} {e : Refusal} → Judgeable c r f i n → Unjudgeable c r f i n e → ⊥
  not_both judgeable (formula_unknown past) = omega (arith, judgeable.entered)
  not_both judgeable (run_too_long known long) = omega (arith, judgeable.short)
  not_both judgeable (past_run known short past) = omega (arith, judgeable.within)
  not_both judgeable (scratch_too_short known short within few) = omega (arith, judgeable.room)

  module _ (words : List ℕ) where
    abbrev RefuteLeaves : List ℕ → Type 0
    RefuteLeaves = Leaves sealed_stage c (refute r f i (length words)) words

    by_goes : {o : Outcome ℕ} {left : List ℕ → List ℕ} → RefuteGoes c r f i (length words) o left → RefuteLeaves (left words)
    by_goes (unjudged e cannot) = leaves_all (λ q w. not_both (writable w).0 cannot)
    by_goes (full can most) = leaves_all (λ q w. omega (arith, most, (writable w).1))
    by_goes (judged can room v is) = leaves_rows (refute_writes can room)

    pub refute_leaves : RefuteLeaves (refute_scratch c r f i words)
    unfolding refute_scratch
    refute_leaves = by_goes (refute_goes c r f i (length words))

-- ---- the calls after it

-- no call takes formulas away
formulas_stay : {s : Stage} (c : Case) (x : Call s) → length c.formulas ≤ length (after_call c x).formulas
formulas_stay c x = grown_longer (changes c x).formulas

-- the last rows are those of all formulas that there were before, at least
abbrev Covers : Case → Option (Run × List Formula) → Type 0
Covers c None = Unit {0}
Covers c (Some last) = length c.formulas ≤ length last.1

covers : {s : Stage} {c : Case} {xs : List (Call s)} {last : Option (Run × List Formula)} → LastRows s c xs last → Covers c last
covers no_call = tt
covers (refused_writing e is w) = omega arith
covers (refused_unwritten e is none) = tt
covers (answered_before {c = c} {x = x} answered rows) = omega (arith, formulas_stay c x, covers rows)
covers (answered_writing answered w rows) = omega arith
covers (answered_unwritten answered none rows) = tt

-- words that hold the last rows that calls wrote
abbrev pub RowsLeft : (s : Stage) → Case → List (Call s) → List ℕ → List ℕ → Type 0
RowsLeft s c xs words left = (last : Option (Run × List Formula)) × LastRows s c xs last × (left ≡ with_last last words)

module _ {s : Stage} {c : Case} {x : Call s} {xs : List (Call s)} {words : List ℕ} where
  pub refused_leaves : {left : List ℕ} (e : Refusal) → Refused c x e → Leaves s c x words left → RowsLeft s c (x ∷ xs) words left
  refused_leaves e is (leaves_rows {r = r} w) = (Some (r, c.formulas), refused_writing e is w, refl)
  refused_leaves e is (leaves_all none) = (None, refused_unwritten e is none, refl)

  module _ (answered : (e : Refusal) → Refused c x e → ⊥) where
    by_last : {left ending : List ℕ} → Leaves s c x words left → (last : Option (Run × List Formula)) → LastRows s (after_call c x) xs last → ending ≡ with_last last left
        → RowsLeft s c (x ∷ xs) words ending
    by_last (leaves_rows {r = r} w) None rows is = (Some (r, c.formulas), answered_writing answered w rows, is)
    by_last (leaves_rows {r = r} w) (Some last) rows is =
        let all = answered_before answered rows in
        (Some last, all, is ∙ rows_over last.0 r last.1 c.formulas words (covers all))
    by_last (leaves_all none) None rows is = (None, answered_unwritten answered none rows, is)
    by_last (leaves_all none) (Some last) rows is = (Some last, answered_before answered rows, is)

    pub answered_leaves : {left ending : List ℕ} → Leaves s c x words left → RowsLeft s (after_call c x) xs left ending → RowsLeft s c (x ∷ xs) words ending
    answered_leaves leaves rest = by_last leaves rest.0 rest.1 rest.2

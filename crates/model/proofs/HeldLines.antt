-- What every history keeps of lines.
use Rattle.std.proofs.Common.{◌≡◌, ℕ, List, Some, sym, subst, inl, inr}
use Rattle.std.specs.List.{slice_get}
use Rattle.refusals.specs.declared.Refusal.TheVariants.{LineNotHeld}
use Rattle.lists.proofs.Members.{some_not_none}
use Rattle.lists.proofs.Growing.{grown_keeps, grown_brings, grown_same}
use Rattle.model.specs.declared.line.Line.{Line}
use Rattle.model.specs.Case.{Case}
use Rattle.model.specs.History.{Stage, open_stage, Call, form, line, History, new, then, then_seal, after, HeldLine, line_last, line_earlier}
use Rattle.model.specs.Promises.{LinesHeld}
use Rattle.model.proofs.Changes.{Answered, BringsLine, changes, line_gives}
use Rattle.model.proofs.Reading.{Exactly, reads, reads_none}

-- no call on an open case holds one
none_brought : (c : Case) (x : Call open_stage) (l : Line) → BringsLine c x l → ⊥
none_brought c (form kind left right) l brought = brought
none_brought c x l brought = brought

pub no_line_open : (h : History open_stage) (n : ℕ) (l : Line) → slice_get (after h).lines n ≡ Some l → ⊥
no_line_open new n l is = some_not_none (sym is)
no_line_open (then h x) n l is =
    no_line_open h n l (subst (λ (ls : List Line). slice_get ls n ≡ Some l) (grown_same (changes (after h) x).lines (λ m k b. none_brought (after h) x k b.1)) is)

held_now : {s : Stage} (h : History s) (x : Call s) (n : ℕ) (l : Line) → Answered (after h) x n → BringsLine (after h) x l → HeldLine s (then h x) n l
held_now h (line page k) n l is brought = rw (← brought.0) (line_last is)
held_now h x n l is brought = absurd brought

pub lines_from : (s : Stage) (h : History s) (n : ℕ) (l : Line) → slice_get (after h).lines n ≡ Some l → HeldLine s h n l
lines_from s new n l is = absurd (some_not_none (sym is))
lines_from s (then h x) n l is = elim (grown_brings (changes (after h) x).lines n l is) [
  | inl old ↦ line_earlier (lines_from s h n l old)
  | inr now ↦ held_now h x n l now.1.0 now.1.1
]
lines_from s (then_seal h) n l is = absurd (no_line_open h n l is)

pub line_there : (s : Stage) (h : History s) (n : ℕ) (l : Line) → HeldLine s h n l → slice_get (after h).lines n ≡ Some l
line_there s h n l (line_last {h = before} {page = page} is) = line_gives (after before) page l n is
line_there s h n l (line_earlier {h = before} {x = x} p) = grown_keeps (changes (after before) x).lines n l (line_there s before n l p)

pub lines_exactly : (s : Stage) (h : History s) → Exactly (after h).lines (HeldLine s h)
lines_exactly s h = record { from = lines_from s h; there = line_there s h }

pub lines_held : LinesHeld
lines_held s h n = (reads (lines_exactly s h) n LineNotHeld, reads_none (lines_exactly s h) n LineNotHeld)

-- Entering a formula by its kind and two fields, in a list of formulas.
use Rattle.std.specs.Prelude.{ℕ, List, length, Ok, Err, Result, slice_index_or}
use Rattle.formulas.specs.declared.refusal.FormRefusal.{FormRefusal}
use Rattle.formulas.specs.declared.refusal.FormRefusal.TheVariants.{FormulasFull}
use Rattle.logic.specs.Formula.{Formula, falsum}
use Rattle.logic.specs.Same.{same}
use Rattle.formulas.specs.declared.entry.Entry.{Entry}
use Rattle.lists.specs.Adding.{first_like, add_answer, add_after}
use Rattle.formulas.specs.Entries.{alike, asked}
use Rattle.formulas.specs.Decode.{of_entry}

-- the formula with a number
abbrev pub numbered : List Formula → ℕ → Formula
numbered fs n = slice_index_or fs n falsum

-- a list of formulas takes 1,024; one that is there answers its old number
abbrev pub enter_answer : List Formula → Formula → Result ℕ FormRefusal
enter_answer fs A = add_answer 1024 FormulasFull fs (first_like same fs A)

abbrev pub enter_after : List Formula → Formula → List Formula
enter_after fs A = add_after 1024 fs A (first_like same fs A)

-- the same for what is asked for, or refused already
abbrev pub answer_for : List Formula → Result Entry FormRefusal → Result ℕ FormRefusal
answer_for fs (Ok e) = enter_answer fs (of_entry (numbered fs) e)
answer_for fs (Err x) = Err x

abbrev pub after_for : List Formula → Result Entry FormRefusal → List Formula
after_for fs (Ok e) = enter_after fs (of_entry (numbered fs) e)
after_for fs (Err x) = fs

-- the entries, where an entry is asked for or refused already
abbrev pub entries_for : List Entry → Result Entry FormRefusal → List Entry
entries_for es (Ok e) = add_after 1024 es e (first_like alike es e)
entries_for es (Err x) = es

-- what `form` answers, and the formulas and the entries afterwards
unfoldable pub form_answer : List Formula → ℕ → ℕ → ℕ → Result ℕ FormRefusal
form_answer fs kind left right = answer_for fs (asked (length fs) kind left right)

unfoldable pub form_after : List Formula → ℕ → ℕ → ℕ → List Formula
form_after fs kind left right = after_for fs (asked (length fs) kind left right)

unfoldable pub entries_after : List Entry → ℕ → ℕ → ℕ → List Entry
entries_after es kind left right = entries_for es (asked (length es) kind left right)

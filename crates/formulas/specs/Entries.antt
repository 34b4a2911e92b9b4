-- Entries of a formula list: one formula each, with the numbers of earlier entries as operands.
use Rattle.std.specs.Prelude.{◌≡◌, ℕ, ◌<◌, Bool, true, if◌then◌else◌, ◌&&◌, List, length, Ok, Err, Result, ◌==◌, nat_le, nat_lt, slice_index_or}
use Rattle.formulas.specs.declared.refusal.FormRefusal.{FormRefusal}
use Rattle.formulas.specs.declared.refusal.FormRefusal.TheVariants.{UnknownKind, BadField}
use Rattle.formulas.specs.declared.entry.Entry.{Entry}
use Rattle.formulas.specs.declared.entry.Kind.{Kind}
use Rattle.formulas.specs.declared.entry.Kind.TheVariants as kinds
use Rattle.formulas.specs.declared.entry.Entry.TheVariants.{False, Atom, Implies, Next, Always}

-- an entry as three numbers, its kind and two fields, where an unused field is 0
abbrev pub kind_of : Entry → ℕ
kind_of False = 0
kind_of (Atom a) = 1
kind_of (Implies a b) = 2
kind_of (Next a) = 3
kind_of (Always a) = 4

abbrev pub left_of : Entry → ℕ
left_of False = 0
left_of (Atom a) = a
left_of (Implies a b) = a
left_of (Next a) = a
left_of (Always a) = a

abbrev pub right_of : Entry → ℕ
right_of (Implies a b) = b
right_of e = 0

-- two entries are alike that have one kind and the same two fields
abbrev pub alike : Entry → Entry → Bool
alike e f = kind_of e == kind_of f && (left_of e == left_of f && right_of e == right_of f)

-- whether an entry may stand after n others: an atom is at most 31, and operands have lower numbers
abbrev pub placed : ℕ → Entry → Bool
placed n False = true
placed n (Atom a) = nat_le a 31
placed n (Implies a b) = nat_lt a n && nat_lt b n
placed n (Next a) = nat_lt a n
placed n (Always a) = nat_lt a n

-- the kind with a number
abbrev pub kind_numbered : ℕ → Result Kind FormRefusal
kind_numbered n =
    if n == 0 then Ok kinds.False
    else if n == 1 then Ok kinds.Atom
    else if n == 2 then Ok kinds.Implies
    else if n == 3 then Ok kinds.Next
    else if n == 4 then Ok kinds.Always
    else Err UnknownKind

-- an entry whose unused fields are 0, if it may stand there
abbrev pub when_placed : ℕ → Entry → Bool → Result Entry FormRefusal
when_placed n e unused = if unused && placed n e then Ok e else Err BadField

-- the entry that a kind and two fields ask for where n are entered
abbrev pub asked : ℕ → ℕ → ℕ → ℕ → Result Entry FormRefusal
asked n kind left right =
    if kind == 0 then when_placed n False (left == 0 && right == 0)
    else if kind == 1 then when_placed n (Atom left) (right == 0)
    else if kind == 2 then when_placed n (Implies left right) true
    else if kind == 3 then when_placed n (Next left) (right == 0)
    else if kind == 4 then when_placed n (Always left) (right == 0)
    else Err UnknownKind

-- each entry stands after its operands
abbrev pub Lower : List Entry → Type 0
Lower es = (i : ℕ) → i < length es → placed i (slice_index_or es i False) ≡ true

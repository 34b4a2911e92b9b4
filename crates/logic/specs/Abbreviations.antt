-- The connectives that are written with the others: ¬, ∨, ∧, ↔ and ◇.
use Rattle.logic.specs.Formula.{Formula, falsum, implies, always}

abbrev pub not : Formula → Formula
not A = implies A falsum

abbrev pub or : Formula → Formula → Formula
or A B = implies (not A) B

abbrev pub and : Formula → Formula → Formula
and A B = not (implies A (not B))

abbrev pub iff : Formula → Formula → Formula
iff A B = and (implies A B) (implies B A)

abbrev pub eventually : Formula → Formula
eventually A = not (always (not A))

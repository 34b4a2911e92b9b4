-- Tests of likeness of entries that are equality.
use Rattle.std.proofs.Common.{◌≡◌, Bool, true, ◌&&◌, eqb, refl, ap, arith}
use Rattle.std.proofs.lemmas.Bool.{and_parts, and_from, eqb-true, eq-eqb, false≢true}
use Rattle.formulas.specs.declared.entry.Entry.{Entry}
use Rattle.formulas.specs.declared.entry.Entry.TheVariants.{False, Atom, Implies, Next, Always}
use Rattle.formulas.specs.Entries.{kind_of, left_of, right_of, alike}
use Rattle.formulas.specs.contracts.entry.EntryPartialEq.TheImpl.{eq-value}
use Rattle.lists.proofs.Places.{IsEquality}

-- the comparison that is derived for entries
abbrev pub entry_eq : Entry → Entry → Bool
entry_eq = eq-value.it

entry_sound : (e f : Entry) → entry_eq e f ≡ true → e ≡ f
entry_sound False False h = refl
entry_sound (Atom a) (Atom c) h = ap Atom (eqb-true a c h)
entry_sound (Implies a b) (Implies c d) h =
    let p = and_parts (eqb a c) (eqb b d) h in
    let l = eqb-true a c p.0 in
    let r = eqb-true b d p.1 in
    λ i. Implies (l i) (r i)
entry_sound (Next a) (Next c) h = ap Next (eqb-true a c h)
entry_sound (Always a) (Always c) h = ap Always (eqb-true a c h)
entry_sound e f h = absurd (false≢true h)

entry_itself : (e : Entry) → entry_eq e e ≡ true
entry_itself False = refl
entry_itself (Atom a) = eq-eqb a a refl
entry_itself (Implies a b) = and_from (eqb a a) (eqb b b) (eq-eqb a a refl) (eq-eqb b b refl)
entry_itself (Next a) = eq-eqb a a refl
entry_itself (Always a) = eq-eqb a a refl

pub entry_tells : IsEquality entry_eq
entry_tells = record { sound = entry_sound; itself = entry_itself }

-- entries with one kind and the same two fields are one
pub entry_by_fields : (d e : Entry) → kind_of d ≡ kind_of e → left_of d ≡ left_of e → right_of d ≡ right_of e → d ≡ e
entry_by_fields False False kind left right = refl
entry_by_fields (Atom a) (Atom b) kind left right = ap Atom left
entry_by_fields (Implies a b) (Implies c d) kind left right = λ i. Implies (left i) (right i)
entry_by_fields (Next a) (Next b) kind left right = ap Next left
entry_by_fields (Always a) (Always b) kind left right = ap Always left
entry_by_fields d e kind left right = absurd (omega (arith, kind))

alike_sound : (e f : Entry) → alike e f ≡ true → e ≡ f
alike_sound e f h =
    let p = and_parts (eqb (kind_of e) (kind_of f)) (eqb (left_of e) (left_of f) && eqb (right_of e) (right_of f)) h in
    let q = and_parts (eqb (left_of e) (left_of f)) (eqb (right_of e) (right_of f)) p.1 in
    entry_by_fields e f (eqb-true (kind_of e) (kind_of f) p.0) (eqb-true (left_of e) (left_of f) q.0) (eqb-true (right_of e) (right_of f) q.1)

alike_itself : (e : Entry) → alike e e ≡ true
alike_itself e = and_from _ _ (eq-eqb (kind_of e) (kind_of e) refl) (and_from _ _ (eq-eqb (left_of e) (left_of e) refl) (eq-eqb (right_of e) (right_of e) refl))

pub alike_tells : IsEquality alike
alike_tells = record { sound = alike_sound; itself = alike_itself }

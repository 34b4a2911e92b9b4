-- A listing of a case that has no more of each than a case takes has at most 20,480 bytes.
use Rattle.std.proofs.Common.{◌≡◌, ℕ, zero, suc, ◌*◌, ◌^◌, ◌<◌, ◌≤◌, Bool, List, [], ◌∷◌, length, leb, Some, None, Ok, Err, Option, Result, refl, arith, length-append}
use Rattle.std.specs.List.{position}
use Rattle.std.proofs.lemmas.Bool.{cond_both, leb-false}
use Rattle.std.proofs.lemmas.List.Quantifiers.{position-Some}
use Rattle.refusals.specs.declared.Refusal.TheVariants.{NotEntered}
use Rattle.model.specs.Case.{Case}
use Rattle.model.specs.Reads.{counts_of, standing_by, first_line, first_refutation_of, standing_in}
use Rattle.model.specs.declared.counts.Counts.{Counts}
use Rattle.records.specs.Faults.{layer_of, cause_number}
use Rattle.records.specs.declared.fault.Cause.{Cause}
use Rattle.listing.specs.declared.unread.Unread.{Unread}
use Rattle.listing.specs.declared.unread.Unread.TheVariants.{TooLong, Refused}
use Rattle.listing.specs.Listing.{line_of_counts, line_of_standing, standing_lines_to, line_of_ending}
use Rattle.listing.specs.Room.{Fits64, AlwaysRoom}
use Rattle.listing.proofs.Decimals.{decimal_short, digits_four}

pub layer_small : (e : Cause) → layer_of e < 2 ^ 64
layer_small e = grind arith

pub number_small : (e : Cause) → cause_number e < 2 ^ 64
number_small e = grind arith

counts_short : (n : Counts) → n.formulas < 2 ^ 64 → n.assumptions < 2 ^ 64 → n.lines < 2 ^ 64 → n.refutations < 2 ^ 64
    → length (line_of_counts n) ≤ 128
unfolding line_of_counts
counts_short n f a l r =
    let formulas = decimal_short n.formulas f in
    let assumptions = decimal_short n.assumptions a in
    let lines = decimal_short n.lines l in
    let refutations = decimal_short n.refutations r in
    simp length-append (omega arith)

ending_short : (e : Result ℕ Unread) → Fits64 e → length (line_of_ending e) ≤ 128
unfolding line_of_ending
ending_short (Ok n) fits = let size = decimal_short n fits in simp length-append (omega arith)
ending_short (Err (Refused f)) fits =
    let layer = decimal_short (layer_of f.cause) (layer_small f.cause) in
    let number = decimal_short (cause_number f.cause) (number_small f.cause) in
    let offset = decimal_short f.offset fits in
    simp length-append (omega arith)
ending_short (Err TooLong) fits = omega arith

-- the place that is found is in the list
pub found_below : {X : Type 0} (p : X → Bool) (xs : List X) (k : ℕ) → position p xs ≡ Some k → k < length xs
found_below p [] k found = cc
found_below p (x ∷ xs) k found = (position-Some p (x ∷ xs) k x found).0

-- a formula's line, if its number and that of its first line or refutation have at most four digits
line_short : (f : ℕ) (derived refuted : Option ℕ) → f < 10 ^ 4 → ((k : ℕ) → derived ≡ Some k → k < 10 ^ 4)
    → ((k : ℕ) → refuted ≡ Some k → k < 10 ^ 4) → length (line_of_standing f (Ok (standing_by derived refuted))) ≤ 18
unfolding line_of_standing
line_short f (Some k) refuted small lines refutations =
    let number = digits_four f small in
    let first = digits_four k (lines k refl) in
    simp length-append (omega arith)
line_short f None (Some k) small lines refutations =
    let number = digits_four f small in
    let first = digits_four k (refutations k refl) in
    simp length-append (omega arith)
line_short f None None small lines refutations = omega arith

module _ (c : Case) (formulas : length c.formulas ≤ 10 ^ 4) (lines : length c.lines ≤ 10 ^ 4) (refutations : length c.refutations ≤ 10 ^ 4) where
  -- only an entered formula has a line
  standing_short : (f : ℕ) → length (line_of_standing f (standing_in c f)) ≤ 18
  unfolding line_of_standing
  standing_short f =
      cond_both (leb (length c.formulas) f) (Err NotEntered) (Ok (standing_by (first_line c f) (first_refutation_of c f)))
      (λ r. length (line_of_standing f r) ≤ 18)
      (λ _. omega arith)
      (λ known. line_short f (first_line c f) (first_refutation_of c f)
      (omega (arith, leb-false (length c.formulas) f known))
      (λ k is. omega (arith, found_below _ c.lines k is))
      (λ k is. omega (arith, found_below _ c.refutations k is)))

  standings_short : (f : ℕ) → length (standing_lines_to c f) ≤ 18 * f
  unfolding standing_lines_to
  standings_short zero = omega arith
  standings_short (suc f) =
      let earlier = standings_short f in
      let last = standing_short f in
      simp length-append (omega arith)

pub always_room : AlwaysRoom 20480
always_room c e formulas assumptions lines refutations fits =
    let first = counts_short (counts_of c) (omega arith) (omega arith) (omega arith) (omega arith) in
    let standings = standings_short c (omega arith) (omega arith) (omega arith) (length c.formulas) in
    let last = ending_short e fits in
    simp length-append (omega arith)

-- The lines of formulas grow by one formula after another.
use Rattle.std.proofs.Common.{List, Ok, Err, get_or, leb, sym, ap, ◌∙◌, ◌≡◌, ℕ, zero, suc, ◌+◌, ◌<◌, ◌≤◌, ◌++◌, length, inl, inr, add-one, arith, length-append}
use Rattle.std.proofs.lemmas.Bool.{cases_lt, cond-false, lt-leb}
use Rattle.std.proofs.lemmas.Option.{slice_get-get_or}
use Rattle.lists.proofs.Members.{some_same}
use Rattle.refusals.specs.declared.Refusal.TheVariants.{NotEntered}
use Rattle.model.specs.declared.standing.Standing.{Standing}
use Rattle.model.specs.declared.standing.Standing.TheVariants.{Open}
use Rattle.listing.specs.Standings.{AreStandings}
use Rattle.model.specs.Case.{Case}
use Rattle.model.specs.Reads.{standing_in}
use Rattle.listing.specs.Listing.{line_of_standing, standing_lines_to}

-- the line of one formula more
pub lines_more : (c : Case) (f : ℕ) → standing_lines_to c (f + 1) ≡ standing_lines_to c f ++ line_of_standing f (standing_in c f)
unfolding standing_lines_to
lines_more c f = rw add-one

-- a line and those before it are no longer than the lines of more formulas
pub lines_within : (c : Case) (f g : ℕ) → f < g → length (standing_lines_to c f) + length (line_of_standing f (standing_in c f)) ≤ length (standing_lines_to c g)
unfolding standing_lines_to
lines_within c f zero less = absurd (omega arith)
lines_within c f (suc g) less = elim (cases_lt f g) [
  | inl before ↦ let within = lines_within c f g before in rw length-append (omega arith)
  | inr last ↦ let same : f ≡ g = omega arith in rw (same, length-append) (omega arith)
]

-- the line of a formula, by how an array says that it stands
pub line_told : (c : Case) (standings : List Standing) → length standings ≡ 1024 → AreStandings c standings → (f i : ℕ) (d : Standing) → i ≡ f → f < length c.formulas → f < 1024
    → line_of_standing f (Ok (get_or standings i d)) ≡ line_of_standing f (standing_in c f)
line_told c standings long so f i d is there few =
    let here : get_or standings i d ≡ get_or standings f Open =
    ap (λ (k : ℕ). get_or standings k d) is
    ∙ some_same (sym (slice_get-get_or standings f d (omega (arith, long))) ∙ slice_get-get_or standings f Open (omega (arith, long))) in
    ap (λ (s : Standing). line_of_standing f (Ok s)) (here ∙ so f few)
    ∙ ap (line_of_standing f) (sym (cond-false (leb (length c.formulas) f) (Err NotEntered) _ (lt-leb (length c.formulas) f there)))

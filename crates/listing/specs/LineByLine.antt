-- Which lines a listing has for a formula, and what they say.
use Rattle.std.specs.Prelude.{◌≡◌, ℕ, ◌^◌, ◌<◌, ◌↔◌, ◌==◌, ◌⊎◌, List, ◌++◌, Ok, Result, Contains, codes, decimal}
use Rattle.std.specs.List.{slice_split}
use Rattle.model.specs.Case.{Case}
use Rattle.model.specs.Reads.{counts_of, standing_in}
use Rattle.model.specs.declared.standing.Standing.{Standing}
use Rattle.model.specs.declared.standing.Standing.TheVariants.{Derived, Refuted, Open}
use Rattle.listing.specs.declared.unread.Unread.{Unread}
use Rattle.listing.specs.Listing.{listing}
use Rattle.listing.specs.Room.{Fits64}
use Rattle.listing.specs.SameListing.{CountsFit}

-- the lines of a text: what stands in front of each byte 10, and what stands after the last
abbrev pub lines : List ℕ → List (List ℕ)
lines text = slice_split (λ b. b == 10) text

-- a line is for a formula if it begins with the formula's number and a space
abbrev pub IsFor : ℕ → List ℕ → Type 0
IsFor f l = (rest : List ℕ) × (l ≡ decimal f ++ (codes " " ++ rest))

-- a text has a line for a formula
abbrev pub HasLineFor : List ℕ → ℕ → Type 0
HasLineFor text f = (l : List ℕ) × Contains (lines text) l × IsFor f l

-- a line says how a formula stands: derived, and by which line first, or refuted, and by which refutation first; none says that it is open
abbrev pub Says : ℕ → Standing → List ℕ → Type 0
Says f (Derived n) l = l ≡ decimal f ++ codes " derived " ++ decimal n
Says f (Refuted n) l = l ≡ decimal f ++ codes " refuted " ++ decimal n
Says f Open l = ⊥

-- of a case with counts of 64 bits, and a formula's number of 64 bits
pub record LinesForSettled : Type 0 where
  -- the listing has a line for the formula exactly when the formula is derived or refuted
  pub has : (c : Case) (e : Result ℕ Unread) (f : ℕ) → CountsFit (counts_of c) → Fits64 e → f < 2 ^ 64
      → HasLineFor (listing c e) f ↔ (((n : ℕ) × (standing_in c f ≡ Ok (Derived n))) ⊎ ((n : ℕ) × (standing_in c f ≡ Ok (Refuted n))))
  -- and a line is there and for the formula exactly when it says how the formula stands
  pub says : (c : Case) (e : Result ℕ Unread) (f : ℕ) (l : List ℕ) → CountsFit (counts_of c) → Fits64 e → f < 2 ^ 64
      → (Contains (lines (listing c e)) l × IsFor f l) ↔ ((s : Standing) × (standing_in c f ≡ Ok s) × Says f s l)

-- What a listing tells: whoever has the text alone knows the counts, how each formula stands, and how the reading ended.
use Rattle.std.specs.Prelude.{◌≡◌, ℕ, ◌^◌, ◌<◌, Ok, Err, Result}
use Rattle.model.specs.Case.{Case}
use Rattle.model.specs.Reads.{counts_of, standing_in}
use Rattle.model.specs.declared.counts.Counts.{Counts}
use Rattle.records.specs.Faults.{layer_of, cause_number}
use Rattle.listing.specs.declared.unread.Unread.{Unread}
use Rattle.listing.specs.declared.unread.Unread.TheVariants.{TooLong, Refused}
use Rattle.listing.specs.Listing.{listing}
use Rattle.listing.specs.Room.{Fits64}

-- counts are numbers of 64 bits
pub record CountsFit (n : Counts) : Type 0 where
  pub formulas : n.formulas < 2 ^ 64
  pub assumptions : n.assumptions < 2 ^ 64
  pub lines : n.lines < 2 ^ 64
  pub refutations : n.refutations < 2 ^ 64

-- both files were read to their end and are equally long, both are too long, or both were refused at one offset, by one number of one layer
abbrev pub EndsAlike : Result ℕ Unread → Result ℕ Unread → Type 0
EndsAlike (Ok m) (Ok n) = m ≡ n
EndsAlike (Err (Refused x)) (Err (Refused y)) = (layer_of x.cause ≡ layer_of y.cause) × (cause_number x.cause ≡ cause_number y.cause) × (x.offset ≡ y.offset)
EndsAlike (Err TooLong) (Err TooLong) = Unit {0}
EndsAlike e f = ⊥

-- two cases have the same counts, each formula stands in both alike, and the endings are alike
pub record ToldAlike (c d : Case) (e f : Result ℕ Unread) : Type 0 where
  pub counts : counts_of c ≡ counts_of d
  pub standings : (k : ℕ) → standing_in c k ≡ standing_in d k
  pub endings : EndsAlike e f

-- two cases and endings with one listing are told alike
abbrev pub ListingTells : Type 0
ListingTells = (c d : Case) (e f : Result ℕ Unread) → CountsFit (counts_of c) → CountsFit (counts_of d) → Fits64 e → Fits64 f → listing c e ≡ listing d f → ToldAlike c d e f

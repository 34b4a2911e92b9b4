-- How formulas stand, by their numbers in an array.
use Rattle.std.specs.Prelude.{◌≡◌, ℕ, ◌<◌, List, None, slice_index_or}
use Rattle.model.specs.declared.standing.Standing.{Standing}
use Rattle.model.specs.declared.standing.Standing.TheVariants.{Open}
use Rattle.listing.specs.declared.standings.TheConstants.{PLACES}
use Rattle.model.specs.Case.{Case}
use Rattle.model.specs.Reads.{standing_by, first_line, first_refutation_of}

-- by refutations alone
abbrev pub AreRefutedStandings : Case → List Standing → Type 0
AreRefutedStandings c standings = (f : ℕ) → f < PLACES → slice_index_or standings f Open ≡ standing_by None (first_refutation_of c f)

-- by lines and refutations
abbrev pub AreStandings : Case → List Standing → Type 0
AreStandings c standings = (f : ℕ) → f < PLACES → slice_index_or standings f Open ≡ standing_by (first_line c f) (first_refutation_of c f)

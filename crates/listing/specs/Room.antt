-- How long a listing can be.
use Rattle.std.specs.Prelude.{ℕ, ◌^◌, ◌<◌, ◌≤◌, length, Ok, Err, Result}
use Rattle.model.specs.Case.{Case}
use Rattle.listing.specs.declared.unread.Unread.{Unread}
use Rattle.listing.specs.declared.unread.Unread.TheVariants.{TooLong, Refused}
use Rattle.listing.specs.Listing.{listing}

-- the length or the offset that an ending tells is a number of 64 bits
abbrev pub Fits64 : Result ℕ Unread → Type 0
Fits64 (Ok n) = n < 2 ^ 64
Fits64 (Err (Refused f)) = f.offset < 2 ^ 64
Fits64 (Err TooLong) = Unit {0}

-- this many bytes have room for every listing of a case that has no more of each than a case takes
abbrev pub AlwaysRoom : ℕ → Type 0
AlwaysRoom most = (c : Case) (e : Result ℕ Unread) → length c.formulas ≤ 1024 → length c.assumptions ≤ 16 → length c.lines ≤ 512 → length c.refutations ≤ 64
    → Fits64 e → length (listing c e) ≤ most

-- A text that is written to the front of a buffer, whole or not at all.
use Rattle.std.specs.Prelude.{ℕ, cond, List, ◌++◌, length, drop, Ok, Err, Result, nat_le}
use Rattle.listing.specs.declared.refusal.ListingRefusal.{ListingRefusal}
use Rattle.listing.specs.declared.refusal.ListingRefusal.TheVariants.{BufferTooShort}

-- the number that a caller is told for a refusal
abbrev pub listing_number : ListingRefusal → ℕ
listing_number BufferTooShort = 27

-- the text's length, if the buffer has room for it
abbrev pub written_answer : List ℕ → List ℕ → Result ℕ ListingRefusal
written_answer text buffer = cond (nat_le (length text) (length buffer)) (Ok (length text)) (Err BufferTooShort)

-- the buffer afterwards: what lies after the text stays, and all of it if there is no room
abbrev pub written_after : List ℕ → List ℕ → List ℕ
written_after text buffer = cond (nat_le (length text) (length buffer)) (text ++ drop (length text) buffer) buffer

-- What is answered and written where a case is made for a file and its listing goes into a caller's buffer.
use Rattle.std.specs.Prelude.{◌≡◌, ℕ, List, replicate, Ok, Err, Result}
use Rattle.listing.specs.declared.refusal.ListingRefusal.{ListingRefusal}
use Rattle.listing.specs.declared.refusal.ListingRefusal.TheVariants as listing_refusal
use Rattle.listing.specs.Written.{written_answer, written_after}
use Rattle.model.specs.Case.{empty}
use Rattle.checker.specs.declared.unwritten.Unwritten.{Unwritten}
use Rattle.checker.specs.declared.unwritten.Unwritten.TheVariants.{BufferTooShort, NoMemory}
use Rattle.checker.specs.Checked.{file_listing}

-- the number that a caller is told
abbrev pub unwritten_number : Unwritten → ℕ
unwritten_number BufferTooShort = 27
unwritten_number NoMemory = 28

-- an answer about a buffer, where memory may be lacking too
abbrev pub as_unwritten : Result ℕ ListingRefusal → Result ℕ Unwritten
as_unwritten (Ok n) = Ok n
as_unwritten (Err listing_refusal.BufferTooShort) = Err BufferTooShort

-- of a file, with n scratch words: memory for a case may be lacking, and then the buffer stays; else its listing is written, whole or not at all
unfoldable pub ListsInto : ℕ → List ℕ → List ℕ → Result ℕ Unwritten → List ℕ → Type 0
ListsInto n bytes before (Err NoMemory) after = after ≡ before
ListsInto n bytes before answer after =
    let text : List ℕ = file_listing empty (replicate n 0) bytes in
    (answer ≡ as_unwritten (written_answer text before)) × (after ≡ written_after text before)

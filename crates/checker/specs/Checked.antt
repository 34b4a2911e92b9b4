-- What reading a file gives: the case that its records make, how its reading ended, and the scratch words afterwards.
use Rattle.std.specs.Prelude.{ℕ, List, length, Ok, Err, Result, if◌then◌else◌, nat_lt}
use Rattle.calculus.specs.Pages.{Page}
use Rattle.model.specs.StandardPages.{published_page, derived_page}
use Rattle.model.specs.Case.{Case}
use Rattle.records.specs.declared.fault.Fault.{Fault}
use Rattle.files.specs.Reading.{Reading, Carried, front, body}
use Rattle.listing.specs.declared.unread.Unread.{Unread}
use Rattle.listing.specs.declared.unread.Unread.TheVariants.{TooLong, Refused}
use Rattle.listing.specs.Listing.{listing}

-- the page that lines are entered under: the derived rules over the published page
abbrev pub program_page : Page
program_page = derived_page published_page

-- all three of these
pub record Checked : Type 0 where
  pub case : Case
  pub ending : Result ℕ Unread
  pub scratch : List ℕ

-- how the reading of a file of n bytes ended, by what its body answered
abbrev pub ended : ℕ → Result (Unit {0}) Fault → Result ℕ Unread
ended n (Ok done) = Ok n
ended n (Err e) = Err (Refused e)

-- what the front answered, and the case then: the body is read only after a front that was read
abbrev pub from_front : List ℕ → List ℕ → Result ℕ Fault → Case → Checked
from_front words bytes (Ok behind) c =
    let read : Reading Carried (Unit {0}) = body program_page c behind words bytes in
    record { case = read.after; ending = ended (length bytes) read.answer; scratch = read.carried.scratch }
from_front words bytes (Err e) c = record { case = c; ending = Err (Refused e); scratch = words }

-- of an input longer than 16,384 bytes, which no file is, nothing is read
unfoldable pub checked : Case → List ℕ → List ℕ → Checked
checked c words bytes =
    if nat_lt 16384 (length bytes) then record { case = c; ending = Err TooLong; scratch = words }
    else from_front words bytes (front c bytes).answer (front c bytes).after

-- the listing of a file
abbrev pub file_listing : Case → List ℕ → List ℕ → List ℕ
file_listing c words bytes = listing (checked c words bytes).case (checked c words bytes).ending

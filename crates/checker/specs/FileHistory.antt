-- The calls that a file makes after a history, how its reading ends, and the scratch words that it leaves.
use Rattle.std.specs.Prelude.{◌≡◌, ℕ, ◌<◌, ◌≤◌, List, length, drop, Ok, Err, Option, Result}
use Rattle.logic.specs.Formula.{Formula}
use Rattle.logic.specs.Run.{Run}
use Rattle.model.specs.History.{History, open_stage, sealed_stage, then_seal, after}
use Rattle.model.specs.LastRows.{LastRows, with_last}
use Rattle.model.specs.Making.{Makes}
use Rattle.runs.specs.Bytes.{Bytes}
use Rattle.records.specs.declared.fault.Fault.{Fault}
use Rattle.records.specs.Records.{records}
use Rattle.files.specs.Reading.{front, body}
use Rattle.files.specs.CallsMade.{front_calls, body_calls}
use Rattle.files.specs.FileReads.{FrontReads, BodyReads}
use Rattle.listing.specs.declared.unread.Unread.{Unread}
use Rattle.listing.specs.declared.unread.Unread.TheVariants.{TooLong, Refused}
use Rattle.checker.specs.Checked.{program_page}

-- after the history h the front's calls make the history g, up to the first that is refused, and the reading of the front is answered so, as its bytes say
pub record FrontMade (h : History open_stage) (bytes : List ℕ) (g : History open_stage) (answer : Result ℕ Fault) : Type 0 where
  pub makes : Makes open_stage h (front_calls (records bytes)) g
  pub answered : (front (after h) bytes).answer ≡ answer
  pub reads : Bytes bytes → FrontReads 0 bytes (after h) answer (after g)

-- after the history h the body's calls from a start on make the history k, up to the first that is refused; the reading of the body is answered so, as its bytes say, and leaves the scratch words as the last of these calls that wrote rows did
pub record BodyMade (h : History sealed_stage) (start : ℕ) (words bytes : List ℕ) (k : History sealed_stage) (answer : Result (Unit {0}) Fault) (left : List ℕ) : Type 0 where
  pub makes : Makes sealed_stage h (body_calls program_page (length words) (records (drop start bytes))) k
  pub answered : (body program_page (after h) start words bytes).answer ≡ answer
  pub reads : Bytes bytes → BodyReads program_page (length words) start (drop start bytes) (after h) answer (after k)
  pub leaves : (body program_page (after h) start words bytes).carried.scratch ≡ left
  pub rows : (last : Option (Run × List Formula))
      × LastRows sealed_stage (after h) (body_calls program_page (length words) (records (drop start bytes))) last
      × (left ≡ with_last last words)

-- after the history h and with these scratch words, a file makes another history, its reading ends so, and the scratch words are left so
pub data FileHistory (h : History open_stage) (words bytes : List ℕ) : History sealed_stage → Result ℕ Unread → List ℕ → Type 0 where
  -- of a file that is too long nothing is read, and the case is sealed as it was
  file_too_long : 16384 < length bytes → FileHistory h words bytes (then_seal h) (Err TooLong) words
  -- if its front is refused, the seal comes after the front's calls, and there is no body
  front_refused : length bytes ≤ 16384 → (g : History open_stage) (e : Fault) → FrontMade h bytes g (Err e) → FileHistory h words bytes (then_seal g) (Err (Refused e)) words
  -- else the body's calls come after the seal, from the offset after the seal record on: if it is refused, the reading ends there
  body_refused : length bytes ≤ 16384 → (g : History open_stage) (start : ℕ) → FrontMade h bytes g (Ok start)
      → (k : History sealed_stage) (e : Fault) (left : List ℕ) → BodyMade (then_seal g) start words bytes k (Err e) left → FileHistory h words bytes k (Err (Refused e)) left
  -- and if not, at the end of the file
  read_whole : length bytes ≤ 16384 → (g : History open_stage) (start : ℕ) → FrontMade h bytes g (Ok start)
      → (k : History sealed_stage) (left : List ℕ) → BodyMade (then_seal g) start words bytes k (Ok tt) left → FileHistory h words bytes k (Ok (length bytes)) left

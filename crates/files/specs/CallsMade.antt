-- The calls that a file's records ask for, and that reading makes them.
use Rattle.std.specs.Prelude.{◌≡◌, ℕ, ◌≤◌, List, [], ◌∷◌, length, drop, Some, None, Ok, Err, Option}
use Rattle.logic.specs.Formula.{Formula}
use Rattle.logic.specs.Run.{Run}
use Rattle.calculus.specs.Pages.{Page}
use Rattle.model.specs.Case as cases
use Rattle.model.specs.History.{Stage, open_stage, sealed_stage, Call, History, after, Leads}
use Rattle.model.specs.Making.{Makes}
use Rattle.model.specs.LastRows.{LastRows, with_last}
use Rattle.records.specs.Contents.{records_from}
use Rattle.records.specs.Records.{Records, none, bad, more, records}
use Rattle.records.specs.Asking.{Asked, front_asked, body_asked}
use Rattle.files.specs.Reading.{front, body}

-- the call that a record asks for, and the calls after it: a seal and a payload that is wrong end them
abbrev pub then_calls : {s : Stage} → Asked s → List (Call s) → List (Call s)
then_calls (Ok (Some x)) xs = x ∷ xs
then_calls (Ok None) xs = []
then_calls (Err e) xs = []

-- the calls that records ask for, by what each asks for
abbrev pub calls_asked : {s : Stage} → (ℕ → List ℕ → Asked s) → Records → List (Call s)
calls_asked asked none = []
calls_asked asked (bad e) = []
calls_asked asked (more kind payload rest) = then_calls (asked kind payload) (calls_asked asked rest)

abbrev pub front_calls : Records → List (Call open_stage)
front_calls = calls_asked front_asked

-- by the page of rules and the number of scratch words, which are the same for all
abbrev pub body_calls : Page → ℕ → Records → List (Call sealed_stage)
body_calls page n = calls_asked (body_asked page n)

-- reading the front is making its records' calls in their order, up to the first that is refused
abbrev pub FrontMakesCalls : Type 0
FrontMakesCalls = (c : cases.Case) (bytes : List ℕ) → Leads open_stage c (front_calls (records bytes)) (front c bytes).after

-- and so is reading the body under any page, from a start that does not lie past the end
abbrev pub BodyMakesCalls : Type 0
BodyMakesCalls = (page : Page) (c : cases.Case) (start : ℕ) (words bytes : List ℕ) → start ≤ length bytes
    → Leads sealed_stage c (body_calls page (length words) (records (drop start bytes))) (body page c start words bytes).after

-- so reading counts as these calls in every history: after any history, whatever the bytes are, the front's calls make a history, up to the first that is refused, and the case after the reading is the one after it
abbrev pub FrontMakesHistory : Type 0
FrontMakesHistory = (h : History open_stage) (bytes : List ℕ)
    → (g : History open_stage) × Makes open_stage h (front_calls (records bytes)) g × ((front (after h) bytes).after ≡ after g)

-- and so do the body's, under any page and from any start; past the end of the file there are none
abbrev pub BodyMakesHistory : Type 0
BodyMakesHistory = (page : Page) (h : History sealed_stage) (start : ℕ) (words bytes : List ℕ)
    → (g : History sealed_stage) × Makes sealed_stage h (body_calls page (length words) (records_from bytes start)) g × ((body page (after h) start words bytes).after ≡ after g)

-- reading the body leaves as many scratch words as there were
abbrev pub BodyKeepsScratchLength : Type 0
BodyKeepsScratchLength = (page : Page) (c : cases.Case) (start : ℕ) (words bytes : List ℕ) → length (body page c start words bytes).carried.scratch ≡ length words

-- and they hold the rows that its last refutation which was judged left there, or are as they were if none was
abbrev pub BodyLeavesLastRows : Type 0
BodyLeavesLastRows = (page : Page) (c : cases.Case) (start : ℕ) (words bytes : List ℕ) → start ≤ length bytes
    → (last : Option (Run × List Formula))
    × LastRows sealed_stage c (body_calls page (length words) (records (drop start bytes))) last
    × ((body page c start words bytes).carried.scratch ≡ with_last last words)

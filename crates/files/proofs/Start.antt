-- Where the reading of a front and of a body starts.
use Rattle.std.proofs.Common.{◌≡◌, ℕ, ◌≤◌, List, length, drop, refl, ap, arith}
use Rattle.calculus.specs.Pages.{Page}
use Rattle.model.specs.Case.{Case}
use Rattle.records.specs.Contents.{records_from}
use Rattle.records.specs.Records.{records}
use Rattle.records.proofs.NextItem.{records_within}
use Rattle.files.specs.Reading.{read, front_part, front, body_part, body_carries, body}

-- at the first record of a file
pub front_from : (c : Case) (bytes : List ℕ) → front c bytes ≡ read front_part c tt 0 (records_from bytes 0)
unfolding front
front_from c bytes = refl

pub front_start : (c : Case) (bytes : List ℕ) → front c bytes ≡ read front_part c tt 0 (records bytes)
unfolding front
front_start c bytes = ap (read front_part c tt 0) (records_within bytes 0 (omega arith))

-- at the record that stands at an offset, also past the end
pub body_from : (page : Page) (c : Case) (start : ℕ) (words bytes : List ℕ)
    → body page c start words bytes ≡ read (body_part page (length words)) c (body_carries words) start (records_from bytes start)
unfolding body
body_from page c start words bytes = refl

pub body_start : (page : Page) (c : Case) (start : ℕ) (words bytes : List ℕ) → start ≤ length bytes
    → body page c start words bytes ≡ read (body_part page (length words)) c (body_carries words) start (records (drop start bytes))
unfolding body
body_start page c start words bytes l = ap (read (body_part page (length words)) c (body_carries words) start) (records_within bytes start l)

-- The listing of every file fits the program's buffer.
use Rattle.std.proofs.Common.{ℕ, ◌≤◌, ltb, List, length, Ok, Err, Result, sym, subst, arith}
use Rattle.std.proofs.lemmas.Bool.{cond_both, ltb-false}
use Rattle.model.specs.Case.{Case}
use Rattle.model.specs.History.{sealed_stage, after}
use Rattle.model.specs.Limits.{Limits}
use Rattle.model.proofs.Histories.{limits_kept}
use Rattle.records.specs.declared.fault.Fault.{Fault}
use Rattle.files.specs.Reading.{front, body}
use Rattle.files.specs.FileReads.{FrontWithin, BodyWithin}
use Rattle.files.proofs.Within.{front_within, body_within}
use Rattle.listing.specs.declared.unread.Unread.TheVariants.{TooLong}
use Rattle.listing.specs.Room.{Fits64}
use Rattle.listing.proofs.Room.{always_room}
use Rattle.checker.specs.Checked.{program_page, Checked, ended, from_front, checked}
use Rattle.checker.specs.Promises.{ListingsFit}
use Rattle.checker.proofs.Listed.{listed_after_history}

-- a file's length and the offsets in it are small numbers
ended_fits : (n : ℕ) → n ≤ 16384 → (r : Result (Unit {0}) Fault) → BodyWithin n r → Fits64 (ended n r)
ended_fits n small (Ok done) within = omega arith
ended_fits n small (Err f) within = omega arith

from_front_fits : (words bytes : List ℕ) → length bytes ≤ 16384 → (r : Result ℕ Fault) (c : Case) → FrontWithin (length bytes) r → Fits64 (from_front words bytes r c).ending
from_front_fits words bytes small (Ok behind) c within = ended_fits (length bytes) small (body program_page c behind words bytes).answer (body_within program_page c behind words bytes within)
from_front_fits words bytes small (Err f) c within = omega arith

checked_fits : (c : Case) (words bytes : List ℕ) → Fits64 (checked c words bytes).ending
unfolding checked
checked_fits c words bytes =
    cond_both (ltb 16384 (length bytes)) (record { case = c; ending = Err TooLong; scratch = words }) _ (λ (x : Checked). Fits64 x.ending) (λ _. tt)
    (λ small. from_front_fits words bytes (ltb-false 16384 (length bytes) small) (front c bytes).answer (front c bytes).after (front_within c bytes))

pub listings_fit : ListingsFit 20480
listings_fit h words bytes =
    let later = listed_after_history h words bytes in
    let within = subst Limits (sym later.2) (limits_kept sealed_stage later.0) in
    always_room (checked (after h) words bytes).case (checked (after h) words bytes).ending
    within.formulas_few
    within.assumptions_few
    within.lines_few
    within.refutations_few
    (checked_fits (after h) words bytes)

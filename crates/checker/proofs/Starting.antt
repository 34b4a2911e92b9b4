-- As many bytes as a file may have, and one more, tell what is listed of an input.
use Rattle.std.proofs.Common.{length, take, ap, sym, ◌∙◌, inl, inr, arith}
use Rattle.std.proofs.lemmas.Bool.{cases_lt}
use Rattle.std.proofs.lemmas.List.{length-take, take_all}
use Rattle.listing.specs.Listing.{listing}
use Rattle.checker.specs.Checked.{Checked, file_listing}
use Rattle.checker.specs.Promises.{StartSuffices}
use Rattle.checker.proofs.Checking.{checked_long}

pub start_suffices : StartSuffices 16385
start_suffices c words bytes =
    elim (cases_lt (length bytes) 16385) [
      | inl short ↦ ap (file_listing c words) (take_all 16385 bytes (omega (arith, short)))
      | inr long ↦
          ap (λ (x : Checked). listing x.case x.ending)
          (sym (checked_long c words (take 16385 bytes) (omega (arith, long, length-take 16385 bytes))) ∙ checked_long c words bytes (omega (arith, long)))
    ]

-- What is checked of a file, by its length and by what its front answered.
use Rattle.std.proofs.Common.{◌≡◌, ℕ, ◌<◌, ◌≤◌, ltb, List, length, Err, Result, sym, ◌∙◌}
use Rattle.std.proofs.lemmas.Bool.{cond-true, cond-false, le-ltb, lt-ltb}
use Rattle.model.specs.Case.{Case}
use Rattle.records.specs.declared.fault.Fault.{Fault}
use Rattle.files.specs.Reading.{front}
use Rattle.listing.specs.declared.unread.Unread.TheVariants.{TooLong}
use Rattle.checker.specs.Checked.{from_front, checked}

module _ (c : Case) (words bytes : List ℕ) where
  pub checked_long : 16384 < length bytes → record { case = c; ending = Err TooLong; scratch = words } ≡ checked c words bytes
  unfolding checked
  checked_long long = sym (cond-true (ltb 16384 (length bytes)) _ _ (lt-ltb 16384 (length bytes) long))

  -- the front's answer and the case after it are given by equations
  pub checked_front : length bytes ≤ 16384 → (r : Result ℕ Fault) → r ≡ (front c bytes).answer → (d : Case) → d ≡ (front c bytes).after → from_front words bytes r d ≡ checked c words bytes
  unfolding checked
  checked_front short r is d after =
      (λ i. from_front words bytes (is i) (after i))
      ∙ sym (cond-false (ltb 16384 (length bytes)) _ (from_front words bytes (front c bytes).answer (front c bytes).after) (le-ltb 16384 (length bytes) short))

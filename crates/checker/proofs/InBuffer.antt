-- What a caller's buffer has once a file is listed into it.
use Rattle.std.proofs.Common.{◌≡◌, ℕ, ◌<◌, ◌≤◌, List, ◌++◌, length, take, drop, replicate, Ok, Err, Result, refl, ap, ◌∙◌, arith, inl, inr}
use Rattle.std.proofs.lemmas.Bool.{cond-true, cond-false, le-leb, lt-leb, cases_lt}
use Rattle.std.proofs.lemmas.Grind.{common_steps}
use Rattle.model.specs.Case.{Case, empty}
use Rattle.model.specs.History.{new}
use Rattle.listing.specs.declared.refusal.ListingRefusal.{ListingRefusal}
use Rattle.listing.specs.declared.refusal.ListingRefusal.TheVariants as listing_refusal
use Rattle.listing.specs.Written.{written_answer, written_after}
use Rattle.checker.specs.declared.unwritten.Unwritten.{Unwritten}
use Rattle.checker.specs.declared.unwritten.Unwritten.TheVariants.{BufferTooShort, NoMemory}
use Rattle.checker.specs.Checked.{file_listing}
use Rattle.checker.specs.Unwritten.{as_unwritten, ListsInto}
use Rattle.checker.specs.Promises.{ListsHistory}
use Rattle.checker.proofs.Fitting.{listings_fit}
use Rattle.checker.proofs.Listed.{lists_history}

-- without memory the buffer stays
pub lists_nothing : (n : ℕ) (bytes before : List ℕ) → ListsInto n bytes before (Err NoMemory) before
unfolding ListsInto
lists_nothing n bytes before = refl

-- what a new case answers about the buffer is what is answered
module _ (n : ℕ) (bytes words before after : List ℕ) (c : Case) (is : c ≡ empty) (filled : words ≡ replicate n 0) (written : after ≡ written_after (file_listing c words bytes) before) where
  same : file_listing c words bytes ≡ file_listing empty (replicate n 0) bytes
  same = λ i. file_listing (is i) (filled i) bytes

  pub lists_whole : (length_told : ℕ) → ◌≡◌ {A = Result ℕ ListingRefusal} (Ok length_told) (written_answer (file_listing c words bytes) before) → ListsInto n bytes before (Ok length_told) after
  unfolding ListsInto
  lists_whole k answer = ((λ i. as_unwritten (answer i)) ∙ ap (λ text. as_unwritten (written_answer text before)) same, written ∙ ap (λ text. written_after text before) same)

  pub lists_too_long : (e : ListingRefusal) → ◌≡◌ {A = Result ℕ ListingRefusal} (Err e) (written_answer (file_listing c words bytes) before) → ListsInto n bytes before (Err BufferTooShort) after
  unfolding ListsInto
  lists_too_long listing_refusal.BufferTooShort answer = ((λ i. as_unwritten (answer i)) ∙ ap (λ text. as_unwritten (written_answer text before)) same, written ∙ ap (λ text. written_after text before) same)

-- what is written is at the front of the buffer, and a text that is not written has no room
module _ (text before : List ℕ) where
  answered : length text ≤ length before → written_answer text before ≡ Ok (length text)
  answered room = cond-true _ _ _ (le-leb (length text) (length before) room)

  refused : length before < length text → written_answer text before ≡ Err listing_refusal.BufferTooShort
  refused short = cond-false _ _ _ (lt-leb (length text) (length before) short)

  written : length text ≤ length before → written_after text before ≡ text ++ drop (length text) before
  written room = cond-true _ _ _ (le-leb (length text) (length before) room)

  -- also where the buffer is the front of more bytes, of which only the first are kept
  kept : (all : ℕ) (rest : List ℕ) → length text ≤ all → length text ≤ length before → take (length text) (take all (written_after text before ++ rest)) ≡ text
  kept all rest within room = rw (written room) (grind (arith, common_steps))

  whole : (k : ℕ) → ◌≡◌ {A = Result ℕ Unwritten} (Ok k) (as_unwritten (written_answer text before)) → (k ≡ length text) × (length text ≤ length before)
  whole k answer =
      elim (cases_lt (length before) (length text)) [
        | inl short ↦
            let wrong : ◌≡◌ {A = Result ℕ Unwritten} (Ok k) (Err BufferTooShort) = answer ∙ ap as_unwritten (refused short) in
            cc
        | inr room ↦
            let is : ◌≡◌ {A = Result ℕ Unwritten} (Ok k) (Ok (length text)) = answer ∙ ap as_unwritten (answered room) in
            (cc, room)
      ]

  cut_off : ◌≡◌ {A = Result ℕ Unwritten} (Err BufferTooShort) (as_unwritten (written_answer text before)) → length before < length text
  cut_off answer =
      elim (cases_lt (length before) (length text)) [
        | inl short ↦ short
        | inr room ↦
            let wrong : ◌≡◌ {A = Result ℕ Unwritten} (Err BufferTooShort) (Ok (length text)) = answer ∙ ap as_unwritten (answered room) in
            cc
      ]

-- a listing is at the front of the buffer, and is that of the history that the file makes
module _ (n : ℕ) (bytes before after : List ℕ) where
  pub lists_text : (k : ℕ) → ListsInto n bytes before (Ok k) after → take k after ≡ file_listing empty (replicate n 0) bytes
  unfolding ListsInto
  lists_text k (answer, is) =
      let text : List ℕ = file_listing empty (replicate n 0) bytes in
      let (end, room) = whole text before k answer in
      (λ i. take (end i) (is i)) ∙ rw (written text before room) (grind (arith, common_steps))

  -- a buffer that was cut out of as many bytes, and is cut to the listing's length
  pub lists_cut : (k all : ℕ) (rest : List ℕ) → length before ≤ all → ListsInto n bytes before (Ok k) after → take k (take all (after ++ rest)) ≡ file_listing empty (replicate n 0) bytes
  unfolding ListsInto
  lists_cut k all rest within (answer, is) =
      let text : List ℕ = file_listing empty (replicate n 0) bytes in
      let (end, room) = whole text before k answer in
      (λ i. take (end i) (take all (is i ++ rest))) ∙ kept text before all rest (omega (arith, within, room)) room

  pub lists_made : (k : ℕ) → ListsInto n bytes before (Ok k) after → ListsHistory n bytes (take k after)
  lists_made k into = lists_history n bytes (take k after) (lists_text k into)

  -- a buffer of 20,480 bytes is never too short
  pub lists_always : length before ≡ 20480 → ListsInto n bytes before (Err BufferTooShort) after → ⊥
  unfolding ListsInto
  lists_always long (answer, is) =
      omega (arith, long, cut_off (file_listing empty (replicate n 0) bytes) before answer, listings_fit new (replicate n 0) bytes)

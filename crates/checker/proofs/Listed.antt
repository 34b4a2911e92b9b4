-- The case that is listed is that of the history that the file makes, which tells how the reading ended and what scratch words it left.
use Rattle.std.proofs.Common.{◌≡◌, ℕ, ◌<◌, ◌≤◌, ltb, List, length, replicate, Ok, Err, Result, sym, refl, ap, ◌∙◌, subst, arith, ◌⊎◌, inl, inr}
use Rattle.std.proofs.lemmas.Bool.{cond_both, ltb-true, ltb-false}
use Rattle.model.specs.Case.{Case, empty}
use Rattle.model.specs.History.{History, open_stage, sealed_stage, new, then_seal, after}
use Rattle.model.proofs.Making.{made, one_made}
use Rattle.records.specs.declared.fault.Fault.{Fault}
use Rattle.files.specs.Reading.{front, body}
use Rattle.files.specs.FileReads.{FrontReads, BodyReads, FrontWithin}
use Rattle.files.proofs.CallsMade.{front_makes_calls, body_makes_calls}
use Rattle.files.proofs.FileReads.{front_exact, body_exact}
use Rattle.files.proofs.Scratch.{body_leaves_last_rows}
use Rattle.files.proofs.Within.{front_within}
use Rattle.listing.specs.Listing.{listing}
use Rattle.listing.specs.declared.unread.Unread.{Unread}
use Rattle.listing.specs.declared.unread.Unread.TheVariants.{TooLong, Refused}
use Rattle.checker.specs.Checked.{program_page, Checked, ended, from_front, checked, file_listing}
use Rattle.checker.specs.FileHistory.{FrontMade, BodyMade, FileHistory, file_too_long, front_refused, body_refused, read_whole}
use Rattle.checker.specs.Promises.{ListedAfterHistory, OneFileHistory, ListsHistory}

module _ (h : History open_stage) (words bytes : List ℕ) where
  -- what is checked of a file is told by a history that it makes
  abbrev Told : Checked → Type 0
  Told x = (later : History sealed_stage) × FileHistory h words bytes later x.ending x.scratch × (x.case ≡ after later)

  -- the front's calls make a history, and the reading is answered as its bytes say
  front_made : (g : History open_stage) × FrontMade h bytes g (front (after h) bytes).answer × ((front (after h) bytes).after ≡ after g)
  front_made =
      let (g, makes, same) = made open_stage h (front_makes_calls (after h) bytes) in (
        g,
        record {
          makes = makes;
          answered = refl;
          reads = λ are. subst (FrontReads 0 bytes (after h) (front (after h) bytes).answer) same (front_exact (after h) bytes are);
        },
        same,
      )

  -- and so are the body's
  body_made : (g : History open_stage) (start : ℕ) → start ≤ length bytes
      → (k : History sealed_stage)
      × BodyMade (then_seal g) start words bytes k (body program_page (after g) start words bytes).answer (body program_page (after g) start words bytes).carried.scratch
      × ((body program_page (after g) start words bytes).after ≡ after k)
  body_made g start within =
      let (k, makes, same) = made sealed_stage (then_seal g) (body_makes_calls program_page (after g) start words bytes within) in (
        k,
        record {
          makes = makes;
          answered = refl;
          reads = λ are. subst (BodyReads program_page (length words) start _ (after g) (body program_page (after g) start words bytes).answer) same (body_exact program_page (after g) start words bytes are within);
          leaves = refl;
          rows = body_leaves_last_rows program_page (after g) start words bytes within;
        },
        same,
      )

  module _ (short : length bytes ≤ 16384) where
    body_ends : (g : History open_stage) (start : ℕ) → FrontMade h bytes g (Ok start) → (k : History sealed_stage) (left : List ℕ)
        → (r : Result (Unit {0}) Fault) → BodyMade (then_seal g) start words bytes k r left → FileHistory h words bytes k (ended (length bytes) r) left
    body_ends g start front k left (Ok tt) made = read_whole short g start front k left made
    body_ends g start front k left (Err e) made = body_refused short g start front k e left made

    front_ends : (g : History open_stage) (r : Result ℕ Fault) → FrontWithin (length bytes) r → FrontMade h bytes g r → Told (from_front words bytes r (after g))
    front_ends g (Ok start) within front =
        let (k, made, same) = body_made g start within in
        (k, body_ends g start front k _ _ made, same)
    front_ends g (Err e) within front = (then_seal g, front_refused short g e front, refl)

    read_told : Told (from_front words bytes (front (after h) bytes).answer (front (after h) bytes).after)
    read_told =
        let (g, is, same) = front_made in
        subst (λ (c : Case). Told (from_front words bytes (front (after h) bytes).answer c)) (sym same)
        (front_ends g _ (front_within (after h) bytes) is)

pub listed_after_history : ListedAfterHistory
unfolding checked
listed_after_history h words bytes =
    cond_both (ltb 16384 (length bytes)) (record { case = after h; ending = Err TooLong; scratch = words }) _ (Told h words bytes)
    (λ long. (then_seal h, file_too_long (ltb-true 16384 (length bytes) long), refl))
    (λ short. read_told h words bytes (ltb-false 16384 (length bytes) short))

-- ---- one history alone

module _ (h : History open_stage) (words bytes : List ℕ) where
  one_front : {g k : History open_stage} {r q : Result ℕ Fault} → FrontMade h bytes g r → FrontMade h bytes k q → (g ≡ k) × (r ≡ q)
  one_front {g} {k} one other = (one_made open_stage h _ g k one.makes other.makes, sym one.answered ∙ other.answered)

  one_body : {g : History sealed_stage} {start : ℕ} {k l : History sealed_stage} {r q : Result (Unit {0}) Fault} {left rest : List ℕ}
      → BodyMade g start words bytes k r left → BodyMade g start words bytes l q rest → (k ≡ l) × (r ≡ q) × (left ≡ rest)
  one_body {g} {start} {k} {l} one other = (one_made sealed_stage g _ k l one.makes other.makes, sym one.answered ∙ other.answered, sym one.leaves ∙ other.leaves)

  -- what a file's records make after a front that was answered so
  abbrev Behind : History open_stage → Result ℕ Fault → History sealed_stage → Result ℕ Unread → List ℕ → Type 0
  Behind g (Ok start) k e left = (r : Result (Unit {0}) Fault) × BodyMade (then_seal g) start words bytes k r left × (e ≡ ended (length bytes) r)
  Behind g (Err f) k e left = (k ≡ then_seal g) × (e ≡ Err (Refused f)) × (left ≡ words)

  -- a history of a file that is too long, and of one that is read
  abbrev Unmade : History sealed_stage → Result ℕ Unread → List ℕ → Type 0
  Unmade k e left = (16384 < length bytes) × (k ≡ then_seal h) × (e ≡ Err TooLong) × (left ≡ words)

  abbrev Made : History sealed_stage → Result ℕ Unread → List ℕ → Type 0
  Made k e left = (length bytes ≤ 16384) × (g : History open_stage) × (r : Result ℕ Fault) × FrontMade h bytes g r × Behind g r k e left

  by_front : {k : History sealed_stage} {e : Result ℕ Unread} {left : List ℕ} → FileHistory h words bytes k e left → Unmade k e left ⊎ Made k e left
  by_front (file_too_long long) = inl (long, refl, refl, refl)
  by_front (front_refused short g e front) = inr (short, g, Err e, front, (refl, refl, refl))
  by_front (body_refused short g start front k e left made) = inr (short, g, Ok start, front, (Err e, made, refl))
  by_front (read_whole short g start front k left made) = inr (short, g, Ok start, front, (Ok tt, made, refl))

  one_behind : (g : History open_stage) (r : Result ℕ Fault) {k l : History sealed_stage} {e f : Result ℕ Unread} {left rest : List ℕ}
      → Behind g r k e left → Behind g r l f rest → (k ≡ l) × (e ≡ f) × (left ≡ rest)
  one_behind g (Ok start) (r, made, is) (q, again, same) =
      let (history, answer, scratch) = one_body made again in
      (history, is ∙ ap (ended (length bytes)) answer ∙ sym same, scratch)
  one_behind g (Err d) (history, is, scratch) (again, same, other) = (history ∙ sym again, is ∙ sym same, scratch ∙ sym other)

  same_history : {k l : History sealed_stage} {e f : Result ℕ Unread} {left rest : List ℕ} → FileHistory h words bytes k e left → FileHistory h words bytes l f rest → (k ≡ l) × (e ≡ f) × (left ≡ rest)
  same_history {l = l} {f = f} {rest = rest} one other = elim (by_front one) [
    | inl (long, history, is, scratch) ↦ elim (by_front other) [
      | inl (again, before, same, left) ↦ (history ∙ sym before, is ∙ sym same, scratch ∙ sym left)
      | inr (short, g, r, front, behind) ↦ absurd (omega (arith, long, short))
    ]
    | inr (short, g, r, front, behind) ↦ elim (by_front other) [
      | inl (long, before, same, left) ↦ absurd (omega (arith, long, short))
      | inr (again, i, q, front_again, behind_again) ↦
          let (history, answer) = one_front front front_again in
          one_behind g r behind
          (subst (λ (a : Result ℕ Fault). Behind g a l f rest) (sym answer) (subst (λ (x : History open_stage). Behind x q l f rest) (sym history) behind_again))
    ]
  ]

pub one_file_history : OneFileHistory
one_file_history h words bytes k l e f left other one another = same_history h words bytes one another

-- a listing is that of the history that the file makes after a new case
pub lists_history : (n : ℕ) (bytes text : List ℕ) → text ≡ file_listing empty (replicate n 0) bytes → ListsHistory n bytes text
lists_history n bytes text is =
    let (later, makes, same) = listed_after_history new (replicate n 0) bytes in
    let x : Checked = checked empty (replicate n 0) bytes in
    (later, x.ending, x.scratch, makes, is ∙ ap (λ c. listing c x.ending) same)

-- Two cases and endings with one listing are told alike: the text is read from its front.
use Rattle.std.proofs.Common.{◌≡◌, ℕ, zero, suc, ◌+◌, ◌^◌, ◌<◌, ◌≤◌, List, [], ◌∷◌, ◌++◌, length, codes, decimal, get_or, inl, inr, subst, Some, None, Ok, Err, Option, Result, refl, sym, ap, ◌∙◌, append_assoc, arith}
use lib.Dec
use Rattle.std.proofs.lemmas.Bool.{cond-true, cond-false, cases_lt, le-leb, lt-leb}
use Rattle.std.proofs.lemmas.List.{append_cancel_left}
use Rattle.refusals.specs.declared.Refusal.TheVariants.{NotEntered}
use Rattle.model.specs.Case.{Case}
use Rattle.model.specs.Reads.{counts_of, standing_by, first_line, first_refutation_of, standing_in}
use Rattle.model.specs.declared.counts.Counts.{Counts}
use Rattle.model.specs.declared.standing.Standing.{Standing}
use Rattle.model.specs.declared.standing.Standing.TheVariants.{Derived, Refuted, Open}
use Rattle.records.specs.declared.fault.Fault.{Fault}
use Rattle.records.specs.Faults.{layer_of, cause_number}
use Rattle.listing.specs.declared.unread.Unread.{Unread}
use Rattle.listing.specs.declared.unread.Unread.TheVariants.{TooLong, Refused}
use Rattle.listing.specs.Listing.{line_of_counts, line_of_standing, standing_lines_to, standing_lines, line_of_ending}
use Rattle.listing.specs.Room.{Fits64}
use Rattle.listing.specs.SameListing.{CountsFit, EndsAlike, ToldAlike, ListingTells}
use Rattle.listing.proofs.Decimals.{same_number, StartsBelow, StartsAbove, number_not_above}
use Rattle.listing.proofs.Room.{layer_small, number_small, found_below}

-- a word, a number and the text after them
abbrev field : List ℕ → ℕ → List ℕ → List ℕ
field word n s = word ++ (decimal n ++ s)

-- after the same word equal texts have the same number
same_field : (word : List ℕ) (m n : ℕ) (s t : List ℕ) → m < 2 ^ 64 → n < 2 ^ 64 → StartsBelow s → StartsBelow t → field word m s ≡ field word n t → (m ≡ n) × (s ≡ t)
same_field word m n s t small few low less is = same_number m n s t small few low less (append_cancel_left word (decimal m ++ s) (decimal n ++ t) is)

-- the line of counts, and what stands after it
counts_text : (n : Counts) (s : List ℕ) → line_of_counts n ++ s
    ≡ field (codes "formulas ") n.formulas (field (codes " assumptions ") n.assumptions (field (codes " lines ") n.lines (field (codes " refutations ") n.refutations (10 ∷ s))))
unfolding line_of_counts
counts_text n s = simp append_assoc

same_made : (f g a b l m r s : ℕ) → f ≡ g → a ≡ b → l ≡ m → r ≡ s
    → ◌≡◌ {A = Counts} (record { formulas = f; assumptions = a; lines = l; refutations = r }) (record { formulas = g; assumptions = b; lines = m; refutations = s })
same_made f g a b l m r s formulas assumptions lines refutations = cc

same_parts : (m n : Counts) → m.formulas ≡ n.formulas → m.assumptions ≡ n.assumptions → m.lines ≡ n.lines → m.refutations ≡ n.refutations → m ≡ n
same_parts m n formulas assumptions lines refutations =
    same_made m.formulas n.formulas m.assumptions n.assumptions m.lines n.lines m.refutations n.refutations formulas assumptions lines refutations

same_counts : (m n : Counts) (s t : List ℕ) → CountsFit m → CountsFit n → line_of_counts m ++ s ≡ line_of_counts n ++ t → (m ≡ n) × (s ≡ t)
same_counts m n s t small few is =
    let text = sym (counts_text m s) ∙ is ∙ counts_text n t in
    let a = same_field (codes "formulas ") m.formulas n.formulas _ _ small.formulas few.formulas (omega arith) (omega arith) text in
    let b = same_field (codes " assumptions ") m.assumptions n.assumptions _ _ small.assumptions few.assumptions (omega arith) (omega arith) a.1 in
    let d = same_field (codes " lines ") m.lines n.lines _ _ small.lines few.lines (omega arith) (omega arith) b.1 in
    let e = same_field (codes " refutations ") m.refutations n.refutations (10 ∷ s) (10 ∷ t) small.refutations few.refutations (omega arith) (omega arith) d.1 in
    (same_parts m n a.0 b.0 d.0 e.0, append_cancel_left (10 ∷ []) s t e.1)

-- the line of a formula that is not open, and what stands after it
derived_text : (k n : ℕ) (s : List ℕ) → line_of_standing k (Ok (Derived n)) ++ s ≡ decimal k ++ field (codes " derived ") n (10 ∷ s)
unfolding line_of_standing
derived_text k n s = simp append_assoc

refuted_text : (k n : ℕ) (s : List ℕ) → line_of_standing k (Ok (Refuted n)) ++ s ≡ decimal k ++ field (codes " refuted ") n (10 ∷ s)
unfolding line_of_standing
refuted_text k n s = simp append_assoc

open_text : (k : ℕ) (s : List ℕ) → line_of_standing k (Ok Open) ++ s ≡ s
unfolding line_of_standing
open_text k s = refl

-- the number that a formula stands by is small
abbrev pub Small : Standing → Type 0
Small (Derived n) = n < 2 ^ 64
Small (Refuted n) = n < 2 ^ 64
Small Open = Unit {0}

-- a text does not begin with a number
abbrev Without : ℕ → List ℕ → Type 0
Without k s = (behind : List ℕ) → StartsBelow behind → decimal k ++ behind ≡ s → ⊥

same_first : (k m n : ℕ) (word s t : List ℕ) → m < 2 ^ 64 → n < 2 ^ 64 → decimal k ++ field word m (10 ∷ s) ≡ decimal k ++ field word n (10 ∷ t) → (m ≡ n) × (s ≡ t)
same_first k m n word s t small few is =
    let same = same_field word m n (10 ∷ s) (10 ∷ t) small few (omega arith) (omega arith) (append_cancel_left (decimal k) (field word m (10 ∷ s)) (field word n (10 ∷ t)) is) in
    (same.0, append_cancel_left (10 ∷ []) s t same.1)

words_differ : (k : ℕ) (s t : List ℕ) → decimal k ++ (codes " derived " ++ s) ≡ decimal k ++ (codes " refuted " ++ t) → ⊥
words_differ k s t is =
    let behind = append_cancel_left (decimal k) (codes " derived " ++ s) (codes " refuted " ++ t) is in
    omega (arith, ap (λ (text : List ℕ). get_or text 1 0) behind)

-- how a formula stands is read off two texts, if what stands after its line does not begin with its number
same_standing : (k : ℕ) (x y : Standing) (s t : List ℕ) → Small x → Small y → Without k s → Without k t
    → line_of_standing k (Ok x) ++ s ≡ line_of_standing k (Ok y) ++ t → (x ≡ y) × (s ≡ t)
same_standing k Open Open s t small few ws wt is = (refl, sym (open_text k s) ∙ is ∙ open_text k t)
same_standing k Open (Derived n) s t small few ws wt is = absurd (ws (field (codes " derived ") n (10 ∷ t)) (omega arith) (sym (derived_text k n t) ∙ sym is ∙ open_text k s))
same_standing k Open (Refuted n) s t small few ws wt is = absurd (ws (field (codes " refuted ") n (10 ∷ t)) (omega arith) (sym (refuted_text k n t) ∙ sym is ∙ open_text k s))
same_standing k (Derived m) Open s t small few ws wt is = absurd (wt (field (codes " derived ") m (10 ∷ s)) (omega arith) (sym (derived_text k m s) ∙ is ∙ open_text k t))
same_standing k (Refuted m) Open s t small few ws wt is = absurd (wt (field (codes " refuted ") m (10 ∷ s)) (omega arith) (sym (refuted_text k m s) ∙ is ∙ open_text k t))
same_standing k (Derived m) (Refuted n) s t small few ws wt is = absurd (words_differ k _ _ (sym (derived_text k m s) ∙ is ∙ refuted_text k n t))
same_standing k (Refuted m) (Derived n) s t small few ws wt is = absurd (words_differ k _ _ (sym (derived_text k n t) ∙ sym is ∙ refuted_text k m s))
same_standing k (Derived m) (Derived n) s t small few ws wt is =
    let same = same_first k m n (codes " derived ") s t small few (sym (derived_text k m s) ∙ is ∙ derived_text k n t) in
    (ap Derived same.0, same.1)
same_standing k (Refuted m) (Refuted n) s t small few ws wt is =
    let same = same_first k m n (codes " refuted ") s t small few (sym (refuted_text k m s) ∙ is ∙ refuted_text k n t) in
    (ap Refuted same.0, same.1)

-- another formula's line does not begin with the number either
line_without : (j k : ℕ) (x : Standing) (s : List ℕ) → j < k → k < 2 ^ 64 → Without j s → Without j (line_of_standing k (Ok x) ++ s)
line_without j k Open s before small ws = λ behind low is. ws behind low (is ∙ open_text k s)
line_without j k (Derived n) s before small ws = λ behind low is.
    let same = same_number j k behind (field (codes " derived ") n (10 ∷ s)) (omega arith) small low (omega arith) (is ∙ derived_text k n s) in
    omega (arith, same.0)
line_without j k (Refuted n) s before small ws = λ behind low is.
    let same = same_number j k behind (field (codes " refuted ") n (10 ∷ s)) (omega arith) small low (omega arith) (is ∙ refuted_text k n s) in
    omega (arith, same.0)

-- the lines of m formulas from the number k on, and a text after them
abbrev lines_on : (ℕ → Standing) → ℕ → ℕ → List ℕ → List ℕ
lines_on g k zero t = t
lines_on g k (suc m) t = line_of_standing k (Ok (g k)) ++ lines_on g (suc k) m t

-- they do not begin with an earlier number
lines_without : (g : ℕ → Standing) (j k m : ℕ) (t : List ℕ) → j < k → k + m < 2 ^ 64 → StartsAbove t → Without j (lines_on g k m t)
lines_without g j k zero t before small above = λ behind low is. number_not_above j behind t (omega arith) low above is
lines_without g j k (suc m) t before small above = line_without j k (g k) (lines_on g (suc k) m t) before (omega arith) (lines_without g j (suc k) m t (omega arith) (omega arith) above)

module _ (g h : ℕ → Standing) (gs : (k : ℕ) → Small (g k)) (hs : (k : ℕ) → Small (h k)) (s t : List ℕ) (sa : StartsAbove s) (ta : StartsAbove t) where
  -- the two are alike at the m numbers from k on
  abbrev Alike : ℕ → ℕ → Type 0
  Alike k m = (j : ℕ) → k ≤ j → j < k + m → g j ≡ h j

  one_more : (k m : ℕ) → g k ≡ h k → Alike (suc k) m → Alike k (suc m)
  one_more k m first later = λ j from below. elim (cases_lt k j) [
    | inl behind ↦ later j (omega arith) (omega arith)
    | inr last ↦ let same : k ≡ j = omega arith in subst (λ i. g i ≡ h i) same first
  ]

  same_lines : (k m : ℕ) → k + m < 2 ^ 64 → lines_on g k m s ≡ lines_on h k m t → Alike k m × (s ≡ t)
  same_lines k zero small is = ((λ j from below. absurd (omega arith)), is)
  same_lines k (suc m) small is =
      let first = same_standing k (g k) (h k) (lines_on g (suc k) m s) (lines_on h (suc k) m t) (gs k) (hs k)
      (lines_without g k (suc k) m s (omega arith) (omega arith) sa) (lines_without h k (suc k) m t (omega arith) (omega arith) ta) is in
      let behind = same_lines (suc k) m (omega arith) first.1 in
      (one_more k m first.0 behind.0, behind.1)

-- how a formula of the case stands
abbrev pub stands : Case → ℕ → Standing
stands c k = standing_by (first_line c k) (first_refutation_of c k)

pub entered : (c : Case) (k : ℕ) → k < length c.formulas → standing_in c k ≡ Ok (stands c k)
entered c k within = cond-false (Dec.leb (length c.formulas) k) _ _ (lt-leb _ _ within)

pub past : (c : Case) (k : ℕ) → length c.formulas ≤ k → standing_in c k ≡ Err NotEntered
past c k beyond = cond-true (Dec.leb (length c.formulas) k) _ _ (le-leb _ _ beyond)

small_by : (derived refuted : Option ℕ) → ((k : ℕ) → derived ≡ Some k → k < 2 ^ 64) → ((k : ℕ) → refuted ≡ Some k → k < 2 ^ 64) → Small (standing_by derived refuted)
small_by (Some n) refuted lines refutations = lines n refl
small_by None (Some n) lines refutations = refutations n refl
small_by None None lines refutations = tt

pub stands_small : (c : Case) → CountsFit (counts_of c) → (k : ℕ) → Small (stands c k)
stands_small c fits k =
    small_by (first_line c k) (first_refutation_of c k)
    (λ n is. omega (arith, found_below _ c.lines n is))
    (λ n is. omega (arith, found_below _ c.refutations n is))

-- the lines of the first formulas, and after them those of the others
more_lines : (c : Case) (t : List ℕ) (k m : ℕ) → k + m ≤ length c.formulas → standing_lines_to c k ++ lines_on (stands c) k m t ≡ standing_lines_to c (k + m) ++ t
unfolding standing_lines_to
more_lines c t k zero within = let same : k ≡ k + 0 = omega arith in ap (λ n. standing_lines_to c n ++ t) same
more_lines c t k (suc m) within =
    let line = ap (λ r. line_of_standing k r) (entered c k (omega arith)) in
    let same : suc k + m ≡ k + suc m = omega arith in
    sym (append_assoc (standing_lines_to c k) (line_of_standing k (Ok (stands c k))) (lines_on (stands c) (suc k) m t))
    ∙ ap (λ l. (standing_lines_to c k ++ l) ++ lines_on (stands c) (suc k) m t) (sym line)
    ∙ more_lines c t (suc k) m (omega arith)
    ∙ ap (λ n. standing_lines_to c n ++ t) same

all_lines : (c : Case) (t : List ℕ) → standing_lines_to c (length c.formulas) ++ t ≡ lines_on (stands c) 0 (length c.formulas) t
unfolding standing_lines_to
all_lines c t =
    let same : length c.formulas ≡ 0 + length c.formulas = omega arith in
    ap (λ n. standing_lines_to c n ++ t) same ∙ sym (more_lines c t 0 (length c.formulas) (omega arith))

ending_above : (e : Result ℕ Unread) → StartsAbove (line_of_ending e)
unfolding line_of_ending
ending_above (Ok n) = omega arith
ending_above (Err (Refused x)) = omega arith
ending_above (Err TooLong) = omega arith

refused_text : (x : Fault) → line_of_ending (Err (Refused x))
    ≡ field (codes "refused ") (layer_of x.cause) (field (codes " ") (cause_number x.cause) (field (codes " ") x.offset (10 ∷ [])))
unfolding line_of_ending
refused_text x = simp append_assoc

read_text : (n : ℕ) → line_of_ending (Ok n) ≡ field (codes "read ") n (10 ∷ [])
unfolding line_of_ending
read_text n = simp append_assoc

same_refusal : (x y : Fault) → x.offset < 2 ^ 64 → y.offset < 2 ^ 64 → line_of_ending (Err (Refused x)) ≡ line_of_ending (Err (Refused y)) → EndsAlike (Err (Refused x)) (Err (Refused y))
same_refusal x y small few is =
    let text = sym (refused_text x) ∙ is ∙ refused_text y in
    let a = same_field (codes "refused ") (layer_of x.cause) (layer_of y.cause) _ _ (layer_small x.cause) (layer_small y.cause) (omega arith) (omega arith) text in
    let b = same_field (codes " ") (cause_number x.cause) (cause_number y.cause) _ _ (number_small x.cause) (number_small y.cause) (omega arith) (omega arith) a.1 in
    let d = same_field (codes " ") x.offset y.offset (10 ∷ []) (10 ∷ []) small few (omega arith) (omega arith) b.1 in
    (a.0, b.0, d.0)

-- the byte at a place tells two endings apart
at : ℕ → List ℕ → ℕ
at k s = get_or s k 0

same_ending : (e f : Result ℕ Unread) → Fits64 e → Fits64 f → line_of_ending e ≡ line_of_ending f → EndsAlike e f
unfolding line_of_ending at
same_ending (Ok m) (Ok n) small few is =
    (same_field (codes "read ") m n (10 ∷ []) (10 ∷ []) small few (omega arith) (omega arith) (sym (read_text m) ∙ is ∙ read_text n)).0
same_ending (Err (Refused x)) (Err (Refused y)) small few is = same_refusal x y small few is
same_ending (Err TooLong) (Err TooLong) small few is = tt
same_ending (Ok m) (Err TooLong) small few is = absurd (omega (arith, ap (at 0) is))
same_ending (Ok m) (Err (Refused y)) small few is = absurd (omega (arith, ap (at 2) is))
same_ending (Err TooLong) (Ok n) small few is = absurd (omega (arith, ap (at 0) is))
same_ending (Err TooLong) (Err (Refused y)) small few is = absurd (omega (arith, ap (at 0) is))
same_ending (Err (Refused x)) (Ok n) small few is = absurd (omega (arith, ap (at 2) is))
same_ending (Err (Refused x)) (Err TooLong) small few is = absurd (omega (arith, ap (at 0) is))

module _ (c d : Case) (cs : CountsFit (counts_of c)) (ds : CountsFit (counts_of d)) where
  same_in : length c.formulas ≡ length d.formulas → ((j : ℕ) → 0 ≤ j → j < 0 + length c.formulas → stands c j ≡ stands d j) → (k : ℕ) → standing_in c k ≡ standing_in d k
  same_in formulas alike k = elim (cases_lt k (length c.formulas)) [
    | inl within ↦ entered c k within ∙ ap Ok (alike k (omega arith) (omega arith)) ∙ sym (entered d k (omega arith))
    | inr beyond ↦ past c k beyond ∙ sym (past d k (omega arith))
  ]

  -- the text after the counts
  same_behind : (e f : Result ℕ Unread) → Fits64 e → Fits64 f → counts_of c ≡ counts_of d
      → standing_lines_to c (length c.formulas) ++ line_of_ending e ≡ standing_lines_to d (length d.formulas) ++ line_of_ending f → ToldAlike c d e f
  same_behind e f es fs counts is =
      let formulas : length c.formulas ≡ length d.formulas = ap (λ (n : Counts). n.formulas) counts in
      let text = sym (all_lines c (line_of_ending e)) ∙ is ∙ all_lines d (line_of_ending f) ∙ ap (λ n. lines_on (stands d) 0 n (line_of_ending f)) (sym formulas) in
      let same = same_lines (stands c) (stands d) (stands_small c cs) (stands_small d ds) (line_of_ending e) (line_of_ending f) (ending_above e) (ending_above f) 0 (length c.formulas) (omega arith) text in
      record { counts = counts; standings = same_in formulas same.0; endings = same_ending e f es fs same.1 }

pub listing_tells : ListingTells
listing_tells c d e f cs ds es fs is =
    let text = sym (append_assoc (line_of_counts (counts_of c)) (standing_lines c) (line_of_ending e)) ∙ is ∙ append_assoc (line_of_counts (counts_of d)) (standing_lines d) (line_of_ending f) in
    let first = same_counts (counts_of c) (counts_of d) (standing_lines c ++ line_of_ending e) (standing_lines d ++ line_of_ending f)
    cs ds text in
    same_behind c d cs ds e f es fs first.0 first.1

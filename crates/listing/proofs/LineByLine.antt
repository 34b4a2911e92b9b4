-- The lines that a listing has for a formula: its text is taken apart line by line.
use Rattle.std.proofs.Common.{◌≡◌, ℕ, zero, suc, ◌^◌, ◌<◌, Bool, true, false, cond, eqb, List, [], ◌∷◌, ◌++◌, length, codes, decimal, inl, inr, ◌⊎◌, Ok, Err, Result, refl, sym, ap, ◌∙◌, subst, append_assoc, append-nil, length-append, arith}
use Rattle.std.specs.List.{All, Contains}
use Rattle.std.proofs.lemmas.Bool.{cases_lt, ne_eqb}
use Rattle.std.proofs.lemmas.List.Elements.{All-nil, All-cons, All-append}
use Rattle.std.proofs.lemmas.List.Splits.{slice_split_at}
use Rattle.refusals.specs.declared.Refusal.{Refusal}
use Rattle.refusals.specs.declared.Refusal.TheVariants.{NotEntered}
use Rattle.model.specs.Case.{Case}
use Rattle.model.specs.Reads.{counts_of, standing_in}
use Rattle.model.specs.declared.counts.Counts.{Counts}
use Rattle.model.specs.declared.standing.Standing.{Standing}
use Rattle.model.specs.declared.standing.Standing.TheVariants.{Derived, Refuted, Open}
use Rattle.records.specs.Faults.{layer_of, cause_number}
use Rattle.listing.specs.declared.unread.Unread.{Unread}
use Rattle.listing.specs.declared.unread.Unread.TheVariants.{TooLong, Refused}
use Rattle.listing.specs.Listing.{line, line_of_counts, line_of_standing, standing_lines_to, standing_lines, line_of_ending, listing}
use Rattle.listing.specs.LineByLine.{lines, IsFor, HasLineFor, Says, LinesForSettled}
use Rattle.listing.specs.Room.{Fits64}
use Rattle.listing.specs.SameListing.{CountsFit}
use Rattle.listing.proofs.Decimals.{Digits, decimal_digits, same_number, StartsAbove, number_not_above}
use Rattle.listing.proofs.Room.{layer_small, number_small}
use Rattle.listing.proofs.SameListing.{Small, stands_small, entered, past}

-- a text without byte 10
abbrev Whole : List ℕ → Type 0
Whole xs = All (λ b. eqb b 10 ≡ false) xs

abbrev without : List ℕ → Bool
without [] = true
without (x ∷ xs) = cond (eqb x 10) false (without xs)

both : (t b : Bool) → cond t false b ≡ true → (t ≡ false) × (b ≡ true)
both true b is = cc
both false b is = (refl, is)

-- a word is tested
word_whole : (xs : List ℕ) → without xs ≡ true → Whole xs
word_whole [] is = All-nil (λ b. eqb b 10 ≡ false)
word_whole (x ∷ xs) is = let parts = both (eqb x 10) (without xs) is in All-cons (λ b. eqb b 10 ≡ false) x xs parts.0 (word_whole xs parts.1)

digits_whole : (ds : List ℕ) → Digits ds → Whole ds
digits_whole [] digits = All-nil (λ b. eqb b 10 ≡ false)
digits_whole (d ∷ ds) digits = All-cons (λ b. eqb b 10 ≡ false) d ds (ne_eqb d 10 (λ e. omega (arith, digits.0.0))) (digits_whole ds digits.1)

number_whole : (n : ℕ) → n < 2 ^ 64 → Whole (decimal n)
number_whole n small = digits_whole (decimal n) (decimal_digits n small)

-- a word and a number after a text
field_whole : (xs word : List ℕ) (n : ℕ) → Whole xs → without word ≡ true → n < 2 ^ 64 → Whole (xs ++ word ++ decimal n)
field_whole xs word n whole is small =
    All-append (λ b. eqb b 10 ≡ false) (xs ++ word) (decimal n) (All-append (λ b. eqb b 10 ≡ false) xs word whole (word_whole word is)) (number_whole n small)

-- a line is the first line of the text that it begins
line_first : (x s : List ℕ) → Whole x → lines (line x ++ s) ≡ x ∷ lines s
line_first x s whole = ap lines (append_assoc x (10 ∷ []) s) ∙ slice_split_at (λ b. eqb b 10) x 10 s whole refl

-- what a list with a first item contains
here_or_behind : (x : List ℕ) (xs : List (List ℕ)) (l : List ℕ) → Contains (x ∷ xs) l → (x ≡ l) ⊎ Contains xs l
here_or_behind x xs l (zero, within, is) = inl is
here_or_behind x xs l (suc k, within, is) = inr (k, omega arith, is)

here : (x : List ℕ) (xs : List (List ℕ)) → Contains (x ∷ xs) x
here x xs = (0, omega arith, refl)

behind : (x : List ℕ) (xs : List (List ℕ)) (l : List ℕ) → Contains xs l → Contains (x ∷ xs) l
behind x xs l (k, within, is) = (suc k, omega arith, is)

-- a line of the text
abbrev In : List ℕ → List ℕ → Type 0
In text l = Contains (lines text) l

module _ (x s : List ℕ) (whole : Whole x) (l : List ℕ) where
  taken_off : In (line x ++ s) l → (x ≡ l) ⊎ In s l
  taken_off there = here_or_behind x (lines s) l (subst (λ (ls : List (List ℕ)). Contains ls l) (line_first x s whole) there)

  put_on : In s l → In (line x ++ s) l
  put_on there = subst (λ (ls : List (List ℕ)). Contains ls l) (sym (line_first x s whole)) (behind x (lines s) l there)

  put_first : x ≡ l → In (line x ++ s) l
  put_first is = subst (λ (ls : List (List ℕ)). Contains ls l) (sym (line_first x s whole)) (subst (λ (y : List ℕ). Contains (x ∷ lines s) y) is (here x (lines s)))

-- a line says how a formula stands, as it is read of a case
abbrev Tells : ℕ → Result Standing Refusal → List ℕ → Type 0
Tells k r l = (s : Standing) × (r ≡ Ok s) × Says k s l

-- the number that a formula stands by is small
abbrev FewIn : Result Standing Refusal → Type 0
FewIn (Ok s) = Small s
FewIn (Err e) = Unit {0}

settled_whole : (k n : ℕ) (word : List ℕ) → k < 2 ^ 64 → n < 2 ^ 64 → without word ≡ true → Whole (decimal k ++ word ++ decimal n)
settled_whole k n word few small is = field_whole (decimal k) word n (number_whole k few) is small

module _ (k : ℕ) (few : k < 2 ^ 64) (t l : List ℕ) where
  -- a line of a text that the line of a formula begins is that one or one after it
  line_told : (r : Result Standing Refusal) → FewIn r → In (line_of_standing k r ++ t) l → Tells k r l ⊎ In t l
  unfolding line_of_standing
  line_told (Ok (Derived n)) small there =
      elim (taken_off (decimal k ++ codes " derived " ++ decimal n) t (settled_whole k n (codes " derived ") few small refl) l there) [
        | inl is ↦ inl (Derived n, refl, sym is)
        | inr rest ↦ inr rest
      ]
  line_told (Ok (Refuted n)) small there =
      elim (taken_off (decimal k ++ codes " refuted " ++ decimal n) t (settled_whole k n (codes " refuted ") few small refl) l there) [
        | inl is ↦ inl (Refuted n, refl, sym is)
        | inr rest ↦ inr rest
      ]
  line_told (Ok Open) small there = inr there
  line_told (Err e) small there = inr there

  line_passed : (r : Result Standing Refusal) → FewIn r → In t l → In (line_of_standing k r ++ t) l
  unfolding line_of_standing
  line_passed (Ok (Derived n)) small there = put_on (decimal k ++ codes " derived " ++ decimal n) t (settled_whole k n (codes " derived ") few small refl) l there
  line_passed (Ok (Refuted n)) small there = put_on (decimal k ++ codes " refuted " ++ decimal n) t (settled_whole k n (codes " refuted ") few small refl) l there
  line_passed (Ok Open) small there = there
  line_passed (Err e) small there = there

  line_there : (s : Standing) → Small s → Says k s l → In (line_of_standing k (Ok s) ++ t) l
  unfolding line_of_standing
  line_there (Derived n) small says = put_first (decimal k ++ codes " derived " ++ decimal n) t (settled_whole k n (codes " derived ") few small refl) l (sym says)
  line_there (Refuted n) small says = put_first (decimal k ++ codes " refuted " ++ decimal n) t (settled_whole k n (codes " refuted ") few small refl) l (sym says)
  line_there Open small says = absurd says

module _ (c : Case) (fits : CountsFit (counts_of c)) where
  few_in : (k : ℕ) → FewIn (standing_in c k)
  few_in k = elim (cases_lt k (length c.formulas)) [
    | inl within ↦ subst FewIn (sym (entered c k within)) (stands_small c fits k)
    | inr beyond ↦ subst FewIn (sym (past c k beyond)) tt
  ]

  one_behind : (k : ℕ) (t : List ℕ) → standing_lines_to c (suc k) ++ t ≡ standing_lines_to c k ++ (line_of_standing k (standing_in c k) ++ t)
  unfolding standing_lines_to
  one_behind k t = append_assoc (standing_lines_to c k) (line_of_standing k (standing_in c k)) t

  -- of the lines of the formulas below a number, and those of a text after them
  lines_told : (k : ℕ) (t l : List ℕ) → k < 2 ^ 64 → In (standing_lines_to c k ++ t) l → ((j : ℕ) × (j < k) × Tells j (standing_in c j) l) ⊎ In t l
  unfolding standing_lines_to
  lines_told zero t l few there = inr there
  lines_told (suc k) t l few there =
      let on = line_of_standing k (standing_in c k) ++ t in
      elim (lines_told k on l (omega arith) (subst (λ (text : List ℕ). In text l) (one_behind k t) there)) [
        | inl (j, below, tells) ↦ inl (j, omega arith, tells)
        | inr rest ↦ elim (line_told k (omega arith) t l (standing_in c k) (few_in k) rest) [
          | inl tells ↦ inl (k, omega arith, tells)
          | inr last ↦ inr last
        ]
      ]

  lines_passed : (k : ℕ) (t l : List ℕ) → k < 2 ^ 64 → In t l → In (standing_lines_to c k ++ t) l
  unfolding standing_lines_to
  lines_passed zero t l few there = there
  lines_passed (suc k) t l few there =
      subst (λ (text : List ℕ). In text l) (sym (one_behind k t))
      (lines_passed k (line_of_standing k (standing_in c k) ++ t) l (omega arith) (line_passed k (omega arith) t l (standing_in c k) (few_in k) there))

  lines_there : (k : ℕ) (t l : List ℕ) → k < 2 ^ 64 → (j : ℕ) → j < k → (s : Standing) → standing_in c j ≡ Ok s → Says j s l → In (standing_lines_to c k ++ t) l
  unfolding standing_lines_to
  lines_there zero t l few j below s is says = absurd (omega arith)
  lines_there (suc k) t l few j below s is says =
      let on = line_of_standing k (standing_in c k) ++ t in
      subst (λ (text : List ℕ). In text l) (sym (one_behind k t)) (elim (cases_lt j k) [
        | inl earlier ↦ lines_there k on l (omega arith) j earlier s is says
        | inr last ↦
            let same : j ≡ k = omega arith in
            let at : standing_in c k ≡ Ok s = ap (standing_in c) (sym same) ∙ is in
            let small : Small s = subst FewIn at (few_in k) in
            lines_passed k on l (omega arith)
            (subst (λ (r : Result Standing Refusal). In (line_of_standing k r ++ t) l) (sym at)
            (line_there k (omega arith) t l s small (subst (λ (m : ℕ). Says m s l) same says)))
      ])

-- no line for a formula begins with a byte above the digits, and none is empty
above_for_none : (f : ℕ) (l : List ℕ) → f < 2 ^ 64 → StartsAbove l → IsFor f l → ⊥
above_for_none f l small above (rest, is) = number_not_above f (codes " " ++ rest) l small (omega arith) above (sym is)

empty_for_none : (f : ℕ) (l : List ℕ) → [] ≡ l → IsFor f l → ⊥
empty_for_none f l empty (rest, is) = omega (arith, ap length (empty ∙ is), length-append (decimal f) (codes " " ++ rest))

-- the first line has the counts
abbrev counts_words : Counts → List ℕ
counts_words n = codes "formulas " ++ decimal n.formulas ++ codes " assumptions " ++ decimal n.assumptions ++ codes " lines " ++ decimal n.lines ++ codes " refutations " ++ decimal n.refutations

counts_whole : (n : Counts) → CountsFit n → Whole (counts_words n)
counts_whole n fits =
    let a : List ℕ = codes "formulas " ++ decimal n.formulas in
    let b : List ℕ = a ++ codes " assumptions " ++ decimal n.assumptions in
    let d : List ℕ = b ++ codes " lines " ++ decimal n.lines in
    field_whole d (codes " refutations ") n.refutations
    (field_whole b (codes " lines ") n.lines
    (field_whole a (codes " assumptions ") n.assumptions
    (field_whole [] (codes "formulas ") n.formulas (All-nil (λ b. eqb b 10 ≡ false)) refl fits.formulas)
    refl fits.assumptions)
    refl fits.lines)
    refl fits.refutations

counts_line : (n : Counts) → line_of_counts n ≡ line (counts_words n)
unfolding line_of_counts
counts_line n = refl

-- the last has the ending
abbrev ending_words : Result ℕ Unread → List ℕ
ending_words (Ok n) = codes "read " ++ decimal n
ending_words (Err (Refused f)) = codes "refused " ++ decimal (layer_of f.cause) ++ codes " " ++ decimal (cause_number f.cause) ++ codes " " ++ decimal f.offset
ending_words (Err TooLong) = codes "too long"

ending_whole : (e : Result ℕ Unread) → Fits64 e → Whole (ending_words e)
ending_whole (Ok n) fits = field_whole [] (codes "read ") n (All-nil (λ b. eqb b 10 ≡ false)) refl fits
ending_whole (Err (Refused f)) fits =
    let a : List ℕ = codes "refused " ++ decimal (layer_of f.cause) in
    let b : List ℕ = a ++ codes " " ++ decimal (cause_number f.cause) in
    field_whole b (codes " ") f.offset
    (field_whole a (codes " ") (cause_number f.cause)
    (field_whole [] (codes "refused ") (layer_of f.cause) (All-nil (λ b. eqb b 10 ≡ false)) refl (layer_small f.cause))
    refl (number_small f.cause))
    refl fits
ending_whole (Err TooLong) fits = word_whole (codes "too long") refl

ending_above : (e : Result ℕ Unread) → StartsAbove (ending_words e)
ending_above (Ok n) = omega arith
ending_above (Err (Refused f)) = omega arith
ending_above (Err TooLong) = omega arith

ending_line : (e : Result ℕ Unread) → line_of_ending e ≡ line (ending_words e) ++ []
unfolding line_of_ending
ending_line (Ok n) = sym (append-nil _)
ending_line (Err (Refused f)) = sym (append-nil _)
ending_line (Err TooLong) = sym (append-nil _)

module _ (c : Case) (e : Result ℕ Unread) (f : ℕ) (fits : CountsFit (counts_of c)) (ends : Fits64 e) (small : f < 2 ^ 64) where
  -- the text as its lines follow each other
  abbrev rest_text : List ℕ
  rest_text = standing_lines c ++ (line (ending_words e) ++ [])

  text : listing c e ≡ line (counts_words (counts_of c)) ++ rest_text
  text =
      append_assoc (line_of_counts (counts_of c)) (standing_lines c) (line_of_ending e)
      ∙ ap (λ (first : List ℕ). first ++ (standing_lines c ++ line_of_ending e)) (counts_line (counts_of c))
      ∙ ap (λ (last : List ℕ). line (counts_words (counts_of c)) ++ (standing_lines c ++ last)) (ending_line e)

  module _ (l : List ℕ) where
    last_for_none : In (line (ending_words e) ++ []) l → IsFor f l → ⊥
    last_for_none there is_for = elim (taken_off (ending_words e) [] (ending_whole e ends) l there) [
      | inl is ↦ above_for_none f l small (subst StartsAbove is (ending_above e)) is_for
      | inr rest ↦ elim (here_or_behind [] [] l rest) [
        | inl empty ↦ empty_for_none f l empty is_for
        | inr (k, within, is) ↦ omega arith
      ]
    ]

    -- a line is for the formula whose standing it says, and for no other
    says_for : (j : ℕ) (s : Standing) → Says j s l → j < 2 ^ 64 → IsFor f l → j ≡ f
    says_for j (Derived n) says few (rest, is) =
        (same_number j f (codes " derived " ++ decimal n) (codes " " ++ rest) few small (omega arith) (omega arith) (sym (says ∙ append_assoc (decimal j) (codes " derived ") (decimal n)) ∙ is)).0
    says_for j (Refuted n) says few (rest, is) =
        (same_number j f (codes " refuted " ++ decimal n) (codes " " ++ rest) few small (omega arith) (omega arith) (sym (says ∙ append_assoc (decimal j) (codes " refuted ") (decimal n)) ∙ is)).0
    says_for j Open says few is_for = absurd says

    for_said : (s : Standing) → Says f s l → IsFor f l
    for_said (Derived n) says = (codes "derived " ++ decimal n, says ∙ append_assoc (decimal f) (codes " derived ") (decimal n))
    for_said (Refuted n) says = (codes "refuted " ++ decimal n, says ∙ append_assoc (decimal f) (codes " refuted ") (decimal n))
    for_said Open says = absurd says

    told : In (listing c e) l → IsFor f l → Tells f (standing_in c f) l
    told there is_for =
        elim (taken_off (counts_words (counts_of c)) rest_text (counts_whole (counts_of c) fits) l (subst (λ (t : List ℕ). In t l) text there)) [
          | inl is ↦ absurd (above_for_none f l small (subst StartsAbove is (omega arith)) is_for)
          | inr rest ↦ elim (lines_told c fits (length c.formulas) (line (ending_words e) ++ []) l fits.formulas rest) [
            | inl (j, below, (s, is, says)) ↦
                let same : j ≡ f = says_for j s says (omega (arith, fits.formulas)) is_for in
                subst (λ (m : ℕ). Tells m (standing_in c m) l) same (s, is, says)
            | inr last ↦ absurd (last_for_none last is_for)
          ]
        ]

    there : (s : Standing) → standing_in c f ≡ Ok s → Says f s l → In (listing c e) l
    there s is says = elim (cases_lt f (length c.formulas)) [
      | inl within ↦
          subst (λ (t : List ℕ). In t l) (sym text)
          (put_on (counts_words (counts_of c)) rest_text (counts_whole (counts_of c) fits) l
          (lines_there c fits (length c.formulas) (line (ending_words e) ++ []) l fits.formulas f within s is says))
      | inr beyond ↦ let wrong : ◌≡◌ {A = Result Standing Refusal} (Err NotEntered) (Ok s) = sym (past c f beyond) ∙ is in absurd cc
    ]

  by_says : (l : List ℕ) → Tells f (standing_in c f) l → ((n : ℕ) × (standing_in c f ≡ Ok (Derived n))) ⊎ ((n : ℕ) × (standing_in c f ≡ Ok (Refuted n)))
  by_says l (Derived n, is, says) = inl (n, is)
  by_says l (Refuted n, is, says) = inr (n, is)
  by_says l (Open, is, says) = absurd says

  settled : HasLineFor (listing c e) f → ((n : ℕ) × (standing_in c f ≡ Ok (Derived n))) ⊎ ((n : ℕ) × (standing_in c f ≡ Ok (Refuted n)))
  settled (l, among, is_for) = by_says l (told l among is_for)

  has_line : (s : Standing) (l : List ℕ) → standing_in c f ≡ Ok s → Says f s l → HasLineFor (listing c e) f
  has_line s l is says = (l, there l s is says, for_said l s says)

  has_said : ((n : ℕ) × (standing_in c f ≡ Ok (Derived n))) ⊎ ((n : ℕ) × (standing_in c f ≡ Ok (Refuted n))) → HasLineFor (listing c e) f
  has_said (inl (n, is)) = has_line (Derived n) (decimal f ++ codes " derived " ++ decimal n) is refl
  has_said (inr (n, is)) = has_line (Refuted n) (decimal f ++ codes " refuted " ++ decimal n) is refl

pub lines_for_settled : LinesForSettled
lines_for_settled = record {
  has = λ c e f fits ends small. (settled c e f fits ends small, has_said c e f fits ends small);
  says = λ c e f l fits ends small. (
    (λ (among, is_for). told c e f fits ends small l among is_for),
    (λ (s, is, says). (there c e f fits ends small l s is says, for_said c e f fits ends small l s says)),
  );
}

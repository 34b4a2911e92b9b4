-- Schemas matched with formulas by their numbers.
use Rattle.std.specs.Prelude.{ℕ, Bool, true, ◌&&◌, List, length, replicate, set, Some, None, Option, is_some, nat_eq, nat_lt, slice_index_or, if◌then◌else◌}
use Rattle.std.specs.List.{slice_get}
use Rattle.std.specs.Option.{option_map, option_map_or, option_and_then}
use Rattle.logic.specs.Formula.{Formula, falsum, atom, implies, next, always}
use Rattle.formulas.specs.declared.entry.Entry.{Entry}
use Rattle.formulas.specs.declared.entry.Entry.TheVariants.{False, Implies, Next, Always}
use Rattle.calculus.specs.Schemas.{RuleSchema}
use Rattle.rules.specs.declared.schema.Schema.{Schema, False as SchemaFalse, Letter, Implies', Next', Always'}

-- the formula of a schema: its letters are atoms
abbrev pub formula_of : Schema → Formula
formula_of SchemaFalse = falsum
formula_of (Letter a) = atom a
formula_of (Implies' p a q b) = implies (formula_of a) (formula_of b)
formula_of (Next' p a) = next (formula_of a)
formula_of (Always' p a) = always (formula_of a)

-- the rule schema that schemas of a conclusion and of premises make
abbrev pub made_of : Schema → Option Schema → Option Schema → RuleSchema
made_of conclusion first second = record { conclusion = formula_of conclusion; first = option_map formula_of first; second = option_map formula_of second }

-- the letters of a formula are below n
abbrev pub letters_below : ℕ → Formula → Bool
letters_below n falsum = true
letters_below n (atom a) = nat_lt a n
letters_below n (implies A B) = letters_below n A && letters_below n B
letters_below n (next A) = letters_below n A
letters_below n (always A) = letters_below n A

-- the letters of a rule's schema are below n
abbrev pub has_room : ℕ → RuleSchema → Bool
has_room n h =
    letters_below n h.conclusion
    && (option_map_or (letters_below n) h.first true && option_map_or (letters_below n) h.second true)

-- what stands for a letter is not known, or is n
abbrev pub may_be : Option ℕ → ℕ → Bool
may_be None n = true
may_be (Some m) n = nat_eq m n

-- what stands for the letters, with n for the letter a; nothing if another stands for it, or there is no such letter
abbrev pub with_letter : List (Option ℕ) → ℕ → ℕ → Option (List (Option ℕ))
with_letter ls a n =
    if nat_lt a (length ls) && may_be (slice_index_or ls a None) n then Some (set ls a (Some n)) else None

-- what comes next if an entry is false, an implication, a next or an always
abbrev pub if_false : {X : Type 0} → Option Entry → Option X → Option X
if_false (Some False) x = x
if_false e x = None

abbrev pub if_implies : {X : Type 0} → Option Entry → (ℕ → ℕ → Option X) → Option X
if_implies (Some (Implies a b)) f = f a b
if_implies e f = None

abbrev pub if_next : {X : Type 0} → Option Entry → (ℕ → Option X) → Option X
if_next (Some (Next a)) f = f a
if_next e f = None

abbrev pub if_always : {X : Type 0} → Option Entry → (ℕ → Option X) → Option X
if_always (Some (Always a)) f = f a
if_always e f = None

-- what stands for the letters once the formula with the number n is an instance of a formula, if it is
abbrev pub matched_in : List Entry → Formula → ℕ → List (Option ℕ) → Option (List (Option ℕ))
matched_in es falsum n ls = if_false (slice_get es n) (Some ls)
matched_in es (atom a) n ls = if is_some (slice_get es n) then with_letter ls a n else None
matched_in es (implies A B) n ls = if_implies (slice_get es n) (λ a b. option_and_then (matched_in es B b) (matched_in es A a ls))
matched_in es (next A) n ls = if_next (slice_get es n) (λ a. matched_in es A a ls)
matched_in es (always A) n ls = if_always (slice_get es n) (λ a. matched_in es A a ls)

-- the same of a premise, which is empty where the rule has none
abbrev pub premise_matched_in : List Entry → Option Formula → Option ℕ → List (Option ℕ) → Option (List (Option ℕ))
premise_matched_in es None None ls = Some ls
premise_matched_in es (Some A) (Some n) ls = matched_in es A n ls
premise_matched_in es A n ls = None

-- the same of a conclusion and premises, where nothing stands yet for any of a number of letters
abbrev pub letters_in : ℕ → List Entry → RuleSchema → ℕ → Option ℕ → Option ℕ → Option (List (Option ℕ))
letters_in most es h n p q =
    let of_conclusion : Option (List (Option ℕ)) = matched_in es h.conclusion n (replicate most None) in
    let of_first : Option (List (Option ℕ)) = option_and_then (premise_matched_in es h.first p) of_conclusion in
    option_and_then (premise_matched_in es h.second q) of_first

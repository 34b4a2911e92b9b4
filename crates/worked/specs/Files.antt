-- Small files, and what is listed of each.
use Rattle.std.specs.Prelude.{◌≡◌, ℕ, zero, suc, ◌+◌, ◌-◌, ◌/◌, ◌%◌, List, [], ◌∷◌, ◌++◌, length, All, codes, replicate}
use Rattle.model.specs.Case.{empty}
use Rattle.listing.specs.Listing.{line}
use Rattle.checker.specs.Checked.{file_listing}

-- the bytes of a file, and the text of its listing
pub record FileRow : Type 0 where
  pub bytes : List ℕ
  pub text : List ℕ

abbrev listed : List ℕ → List ℕ → FileRow
listed bytes text = record { bytes = bytes; text = text }

-- the definitions that the program is proved to meet give this text
abbrev pub IsListed : FileRow → Type 0
IsListed row = file_listing empty (replicate 4096 0) row.bytes ≡ row.text

-- the records of a formula, by its kind and two fields below 256, and of an assumption; and the seal
abbrev form_record : ℕ → ℕ → ℕ → List ℕ
form_record kind left right = 5 ∷ 0 ∷ 1 ∷ 0 ∷ kind ∷ left ∷ 0 ∷ right ∷ 0 ∷ []

abbrev assume_record : ℕ → List ℕ
assume_record f = 2 ∷ 0 ∷ 2 ∷ 0 ∷ f ∷ 0 ∷ []

abbrev seal_record : List ℕ
seal_record = 0 ∷ 0 ∷ 3 ∷ 0 ∷ []

-- the record of a line by rule 0, and of one by rule 1: neither has premises
abbrev assumed_line : ℕ → List ℕ
assumed_line f = 8 ∷ 0 ∷ 4 ∷ 0 ∷ 0 ∷ 0 ∷ f ∷ 0 ∷ 255 ∷ 255 ∷ 255 ∷ 255 ∷ []

abbrev taut_line : ℕ → List ℕ
taut_line f = 8 ∷ 0 ∷ 4 ∷ 0 ∷ 1 ∷ 0 ∷ f ∷ 0 ∷ 255 ∷ 255 ∷ 255 ∷ 255 ∷ []

-- the records of a refutation, by a formula, a position and the bytes of a table or of pulses
abbrev table_record : ℕ → ℕ → List ℕ → List ℕ
table_record f i run = (4 + length run) ∷ 0 ∷ 5 ∷ 0 ∷ f ∷ 0 ∷ i ∷ 0 ∷ run

abbrev pulse_record : ℕ → ℕ → List ℕ → List ℕ
pulse_record f i run = (4 + length run) ∷ 0 ∷ 6 ∷ 0 ∷ f ∷ 0 ∷ i ∷ 0 ∷ run

-- n records, one after another
abbrev many : ℕ → (ℕ → List ℕ) → List ℕ
many zero record_of = []
many (suc n) record_of = many n record_of ++ record_of n

-- the bytes of a table with loop 3, where the atoms 9, 17 and 25 are true at the positions 0, 1 and 2
abbrev three_words : List ℕ
three_words = (0 ∷ 0 ∷ 3 ∷ 0 ∷ []) ++ (0 ∷ 2 ∷ 0 ∷ 0 ∷ []) ++ (0 ∷ 0 ∷ 2 ∷ 0 ∷ []) ++ (0 ∷ 0 ∷ 0 ∷ 2 ∷ [])

-- the bytes of pulses with loop 24: atom 9 from position 3 on, with period 8 and width 2, and atom 17 from 5 on, with period 12 and width 1
abbrev two_entries : List ℕ
two_entries = (24 ∷ 0 ∷ []) ++ (9 ∷ 0 ∷ 3 ∷ 0 ∷ 8 ∷ 0 ∷ 2 ∷ 0 ∷ []) ++ (17 ∷ 0 ∷ 5 ∷ 0 ∷ 12 ∷ 0 ∷ 1 ∷ 0 ∷ [])

-- a formula with a number, refuted at a position of these: v9, v17 and v25 are entered for the table, v9 and v17 for the pulses
abbrev along_table : ℕ → ℕ → List ℕ
along_table f i = form_record 1 9 0 ++ form_record 1 17 0 ++ form_record 1 25 0 ++ seal_record ++ table_record f i three_words

abbrev along_pulses : ℕ → ℕ → List ℕ
along_pulses f i = form_record 1 9 0 ++ form_record 1 17 0 ++ seal_record ++ pulse_record f i two_entries

-- the bytes of pulses with loop 255 and one entry, of atom 0 at each 255th position from a first one on
abbrev rare : ℕ → List ℕ
rare first = (255 ∷ 0 ∷ []) ++ (0 ∷ 0 ∷ first ∷ 0 ∷ 255 ∷ 0 ∷ 1 ∷ 0 ∷ [])

abbrev pub files : List FileRow
files =
    -- no input at all
    listed []
    (line (codes "formulas 0 assumptions 0 lines 0 refutations 0")
    ++ line (codes "refused 1 25 0"))
    -- the seal alone
    ∷ listed (0 ∷ 0 ∷ 3 ∷ 0 ∷ [])
    (line (codes "formulas 0 assumptions 0 lines 0 refutations 0")
    ++ line (codes "read 4"))
    -- a head that is cut
    ∷ listed
    ((0 ∷ 0 ∷ 3 ∷ 0 ∷ [])
    ++ (5 ∷ 0 ∷ 1 ∷ []))
    (line (codes "formulas 0 assumptions 0 lines 0 refutations 0")
    ++ line (codes "refused 1 21 4"))
    -- a payload that is cut
    ∷ listed (5 ∷ 0 ∷ 1 ∷ 0 ∷ 1 ∷ 0 ∷ 0 ∷ 0 ∷ [])
    (line (codes "formulas 0 assumptions 0 lines 0 refutations 0")
    ++ line (codes "refused 1 22 0"))
    -- no seal
    ∷ listed (5 ∷ 0 ∷ 1 ∷ 0 ∷ 1 ∷ 0 ∷ 0 ∷ 0 ∷ 0 ∷ [])
    (line (codes "formulas 1 assumptions 0 lines 0 refutations 0")
    ++ line (codes "refused 1 25 9"))
    -- an assumption behind the seal
    ∷ listed
    ((0 ∷ 0 ∷ 3 ∷ 0 ∷ [])
    ++ (2 ∷ 0 ∷ 2 ∷ 0 ∷ 0 ∷ 0 ∷ []))
    (line (codes "formulas 0 assumptions 0 lines 0 refutations 0")
    ++ line (codes "refused 2 23 4"))
    -- a formula of four bytes
    ∷ listed (4 ∷ 0 ∷ 1 ∷ 0 ∷ 1 ∷ 0 ∷ 0 ∷ 0 ∷ [])
    (line (codes "formulas 0 assumptions 0 lines 0 refutations 0")
    ++ line (codes "refused 2 24 0"))
    -- a table without a loop
    ∷ listed
    ((5 ∷ 0 ∷ 1 ∷ 0 ∷ 1 ∷ 0 ∷ 0 ∷ 0 ∷ 0 ∷ [])
    ++ (0 ∷ 0 ∷ 3 ∷ 0 ∷ [])
    ++ (8 ∷ 0 ∷ 5 ∷ 0 ∷ 0 ∷ 0 ∷ 0 ∷ 0 ∷ 0 ∷ 0 ∷ 0 ∷ 0 ∷ []))
    (line (codes "formulas 1 assumptions 0 lines 0 refutations 0")
    ++ line (codes "refused 2 26 13"))
    -- an assumption that is not entered; the formula before it stays
    ∷ listed
    ((5 ∷ 0 ∷ 1 ∷ 0 ∷ 1 ∷ 31 ∷ 0 ∷ 0 ∷ 0 ∷ [])
    ++ (2 ∷ 0 ∷ 2 ∷ 0 ∷ 1 ∷ 0 ∷ [])
    ++ (0 ∷ 0 ∷ 3 ∷ 0 ∷ []))
    (line (codes "formulas 1 assumptions 0 lines 0 refutations 0")
    ++ line (codes "refused 3 4 9"))
    -- v31 alone, a formula that is there already behind the seal, and ○v31 behind it
    ∷ listed
    ((5 ∷ 0 ∷ 1 ∷ 0 ∷ 1 ∷ 31 ∷ 0 ∷ 0 ∷ 0 ∷ [])
    ++ (0 ∷ 0 ∷ 3 ∷ 0 ∷ [])
    ++ (5 ∷ 0 ∷ 1 ∷ 0 ∷ 1 ∷ 31 ∷ 0 ∷ 0 ∷ 0 ∷ [])
    ++ (5 ∷ 0 ∷ 1 ∷ 0 ∷ 3 ∷ 0 ∷ 0 ∷ 0 ∷ 0 ∷ []))
    (line (codes "formulas 2 assumptions 0 lines 0 refutations 0")
    ++ line (codes "read 31"))
    -- atom 32
    ∷ listed
    ((5 ∷ 0 ∷ 1 ∷ 0 ∷ 1 ∷ 32 ∷ 0 ∷ 0 ∷ 0 ∷ [])
    ++ (0 ∷ 0 ∷ 3 ∷ 0 ∷ []))
    (line (codes "formulas 0 assumptions 0 lines 0 refutations 0")
    ++ line (codes "refused 3 2 0"))
    -- false is refuted on any run, also by a pulse that is never on
    ∷ listed
    ((5 ∷ 0 ∷ 1 ∷ 0 ∷ 0 ∷ 0 ∷ 0 ∷ 0 ∷ 0 ∷ [])
    ++ (0 ∷ 0 ∷ 3 ∷ 0 ∷ [])
    ++ (14 ∷ 0 ∷ 6 ∷ 0 ∷ 0 ∷ 0 ∷ 0 ∷ 0 ∷ 1 ∷ 0 ∷ 0 ∷ 0 ∷ 0 ∷ 0 ∷ 1 ∷ 0 ∷ 0 ∷ 0 ∷ []))
    (line (codes "formulas 1 assumptions 0 lines 0 refutations 1")
    ++ line (codes "0 refuted 0")
    ++ line (codes "read 31"))
    -- a true formula is not
    ∷ listed
    ((5 ∷ 0 ∷ 1 ∷ 0 ∷ 1 ∷ 0 ∷ 0 ∷ 0 ∷ 0 ∷ [])
    ++ (0 ∷ 0 ∷ 3 ∷ 0 ∷ [])
    ++ (12 ∷ 0 ∷ 5 ∷ 0 ∷ 0 ∷ 0 ∷ 0 ∷ 0 ∷ 0 ∷ 0 ∷ 1 ∷ 0 ∷ 1 ∷ 0 ∷ 0 ∷ 0 ∷ []))
    (line (codes "formulas 1 assumptions 0 lines 0 refutations 0")
    ++ line (codes "refused 3 14 13"))
    -- v0 assumed, v0 by rule 0, □v0 by rule 16 from it
    ∷ listed
    ((5 ∷ 0 ∷ 1 ∷ 0 ∷ 1 ∷ 0 ∷ 0 ∷ 0 ∷ 0 ∷ [])
    ++ (5 ∷ 0 ∷ 1 ∷ 0 ∷ 4 ∷ 0 ∷ 0 ∷ 0 ∷ 0 ∷ [])
    ++ (2 ∷ 0 ∷ 2 ∷ 0 ∷ 0 ∷ 0 ∷ [])
    ++ (0 ∷ 0 ∷ 3 ∷ 0 ∷ [])
    ++ (8 ∷ 0 ∷ 4 ∷ 0 ∷ 0 ∷ 0 ∷ 0 ∷ 0 ∷ 255 ∷ 255 ∷ 255 ∷ 255 ∷ [])
    ++ (8 ∷ 0 ∷ 4 ∷ 0 ∷ 16 ∷ 0 ∷ 1 ∷ 0 ∷ 0 ∷ 0 ∷ 255 ∷ 255 ∷ []))
    (line (codes "formulas 2 assumptions 1 lines 2 refutations 0")
    ++ line (codes "0 derived 0")
    ++ line (codes "1 derived 1")
    ++ line (codes "read 52"))
    -- v0 by rule 0, and it is no assumption
    ∷ listed
    ((5 ∷ 0 ∷ 1 ∷ 0 ∷ 1 ∷ 0 ∷ 0 ∷ 0 ∷ 0 ∷ [])
    ++ (0 ∷ 0 ∷ 3 ∷ 0 ∷ [])
    ++ (8 ∷ 0 ∷ 4 ∷ 0 ∷ 0 ∷ 0 ∷ 0 ∷ 0 ∷ 255 ∷ 255 ∷ 255 ∷ 255 ∷ []))
    (line (codes "formulas 1 assumptions 0 lines 0 refutations 0")
    ++ line (codes "refused 3 8 13"))
    -- a place without a line
    ∷ listed
    ((5 ∷ 0 ∷ 1 ∷ 0 ∷ 1 ∷ 0 ∷ 0 ∷ 0 ∷ 0 ∷ [])
    ++ (2 ∷ 0 ∷ 2 ∷ 0 ∷ 0 ∷ 0 ∷ [])
    ++ (0 ∷ 0 ∷ 3 ∷ 0 ∷ [])
    ++ (8 ∷ 0 ∷ 4 ∷ 0 ∷ 6 ∷ 0 ∷ 0 ∷ 0 ∷ 0 ∷ 0 ∷ 255 ∷ 255 ∷ []))
    (line (codes "formulas 1 assumptions 1 lines 0 refutations 0")
    ++ line (codes "refused 3 6 19"))
    -- the example file: six formulas, one of them assumed, three lines and a refutation
    ∷ listed
    ((5 ∷ 0 ∷ 1 ∷ 0 ∷ 1 ∷ 0 ∷ 0 ∷ 0 ∷ 0 ∷ [])
    ++ (5 ∷ 0 ∷ 1 ∷ 0 ∷ 3 ∷ 0 ∷ 0 ∷ 0 ∷ 0 ∷ [])
    ++ (5 ∷ 0 ∷ 1 ∷ 0 ∷ 2 ∷ 0 ∷ 0 ∷ 1 ∷ 0 ∷ [])
    ++ (5 ∷ 0 ∷ 1 ∷ 0 ∷ 2 ∷ 0 ∷ 0 ∷ 0 ∷ 0 ∷ [])
    ++ (5 ∷ 0 ∷ 1 ∷ 0 ∷ 4 ∷ 0 ∷ 0 ∷ 0 ∷ 0 ∷ [])
    ++ (5 ∷ 0 ∷ 1 ∷ 0 ∷ 2 ∷ 0 ∷ 0 ∷ 4 ∷ 0 ∷ [])
    ++ (2 ∷ 0 ∷ 2 ∷ 0 ∷ 2 ∷ 0 ∷ [])
    ++ (0 ∷ 0 ∷ 3 ∷ 0 ∷ [])
    ++ (8 ∷ 0 ∷ 4 ∷ 0 ∷ 1 ∷ 0 ∷ 3 ∷ 0 ∷ 255 ∷ 255 ∷ 255 ∷ 255 ∷ [])
    ++ (8 ∷ 0 ∷ 4 ∷ 0 ∷ 0 ∷ 0 ∷ 2 ∷ 0 ∷ 255 ∷ 255 ∷ 255 ∷ 255 ∷ [])
    ++ (8 ∷ 0 ∷ 4 ∷ 0 ∷ 7 ∷ 0 ∷ 5 ∷ 0 ∷ 0 ∷ 0 ∷ 1 ∷ 0 ∷ [])
    ++ (12 ∷ 0 ∷ 5 ∷ 0 ∷ 4 ∷ 0 ∷ 0 ∷ 0 ∷ 0 ∷ 0 ∷ 1 ∷ 0 ∷ 0 ∷ 0 ∷ 0 ∷ 0 ∷ []))
    (line (codes "formulas 6 assumptions 1 lines 3 refutations 1")
    ++ line (codes "2 derived 1")
    ++ line (codes "3 derived 0")
    ++ line (codes "4 refuted 0")
    ++ line (codes "5 derived 2")
    ++ line (codes "read 116"))
    -- a formula of kind 5
    ∷ listed
    (form_record 5 0 0
    ++ seal_record)
    (line (codes "formulas 0 assumptions 0 lines 0 refutations 0")
    ++ line (codes "refused 3 1 0"))
    -- an assumption that is false on the run
    ∷ listed
    (form_record 1 0 0
    ++ form_record 0 0 0
    ++ assume_record 0
    ++ seal_record
    ++ table_record 1 0 (0 ∷ 0 ∷ 1 ∷ 0 ∷ 0 ∷ 0 ∷ 0 ∷ 0 ∷ []))
    (line (codes "formulas 2 assumptions 1 lines 0 refutations 0")
    ++ line (codes "refused 3 13 28"))
    -- v9, v17 and v25 along a table with three words: none is refuted where it is true
    ∷ listed (along_table 0 0)
    (line (codes "formulas 3 assumptions 0 lines 0 refutations 0")
    ++ line (codes "refused 3 14 31"))
    ∷ listed (along_table 1 1)
    (line (codes "formulas 3 assumptions 0 lines 0 refutations 0")
    ++ line (codes "refused 3 14 31"))
    ∷ listed (along_table 2 2)
    (line (codes "formulas 3 assumptions 0 lines 0 refutations 0")
    ++ line (codes "refused 3 14 31"))
    -- and each is where another one is
    ∷ listed (along_table 0 1)
    (line (codes "formulas 3 assumptions 0 lines 0 refutations 1")
    ++ line (codes "0 refuted 0")
    ++ line (codes "read 55"))
    ∷ listed (along_table 1 2)
    (line (codes "formulas 3 assumptions 0 lines 0 refutations 1")
    ++ line (codes "1 refuted 0")
    ++ line (codes "read 55"))
    ∷ listed (along_table 2 0)
    (line (codes "formulas 3 assumptions 0 lines 0 refutations 1")
    ++ line (codes "2 refuted 0")
    ++ line (codes "read 55"))
    -- v9 and v17 along two pulses: v9 is refuted before it is on, and not while it is on, also 8 positions later
    ∷ listed (along_pulses 0 2)
    (line (codes "formulas 2 assumptions 0 lines 0 refutations 1")
    ++ line (codes "0 refuted 0")
    ++ line (codes "read 48"))
    ∷ listed (along_pulses 0 4)
    (line (codes "formulas 2 assumptions 0 lines 0 refutations 0")
    ++ line (codes "refused 3 14 22"))
    ∷ listed (along_pulses 0 12)
    (line (codes "formulas 2 assumptions 0 lines 0 refutations 0")
    ++ line (codes "refused 3 14 22"))
    -- so is v17, which is on 12 positions later
    ∷ listed (along_pulses 1 16)
    (line (codes "formulas 2 assumptions 0 lines 0 refutations 1")
    ++ line (codes "1 refuted 0")
    ++ line (codes "read 48"))
    ∷ listed (along_pulses 1 17)
    (line (codes "formulas 2 assumptions 0 lines 0 refutations 0")
    ++ line (codes "refused 3 14 22"))
    -- as many bytes as a file may have; no record is of kind 0
    ∷ listed (replicate 16384 0)
    (line (codes "formulas 0 assumptions 0 lines 0 refutations 0")
    ++ line (codes "refused 2 23 0"))
    -- one byte more
    ∷ listed (replicate 16385 0)
    (line (codes "formulas 0 assumptions 0 lines 0 refutations 0")
    ++ line (codes "too long"))
    ∷ []

-- sixteen assumptions
unfoldable pub sixteen_assumptions : FileRow
sixteen_assumptions =
    listed
    (many 17 (λ a. form_record 1 a 0)
    ++ many 16 assume_record
    ++ seal_record)
    (line (codes "formulas 17 assumptions 16 lines 0 refutations 0")
    ++ line (codes "read 253"))

-- a seventeenth
unfoldable pub seventeen_assumptions : FileRow
seventeen_assumptions =
    listed
    (many 17 (λ a. form_record 1 a 0)
    ++ many 17 assume_record
    ++ seal_record)
    (line (codes "formulas 17 assumptions 16 lines 0 refutations 0")
    ++ line (codes "refused 3 5 249"))

-- twelve prime parts, of which no tautology is made: v0 → (v1 → .. (v10 → v11))
unfoldable pub twelve_prime_parts : FileRow
twelve_prime_parts =
    listed
    (many 12 (λ a. form_record 1 a 0)
    ++ many 11 (λ k. form_record 2 (10 - k) (11 + k))
    ++ seal_record
    ++ taut_line 22)
    (line (codes "formulas 23 assumptions 0 lines 0 refutations 0")
    ++ line (codes "refused 3 8 211"))

-- thirteen are beyond the limit
unfoldable pub thirteen_prime_parts : FileRow
thirteen_prime_parts =
    listed
    (many 13 (λ a. form_record 1 a 0)
    ++ many 12 (λ k. form_record 2 (11 - k) (12 + k))
    ++ seal_record
    ++ taut_line 24)
    (line (codes "formulas 25 assumptions 0 lines 0 refutations 0")
    ++ line (codes "refused 3 9 229"))

-- a run of 256 positions, at the last of them
unfoldable pub last_position : FileRow
last_position =
    listed
    (form_record 1 0 0
    ++ seal_record
    ++ pulse_record 0 255 (rare 1))
    (line (codes "formulas 1 assumptions 0 lines 0 refutations 1")
    ++ line (codes "0 refuted 0")
    ++ line (codes "read 31"))

-- behind it
unfoldable pub behind_the_last : FileRow
behind_the_last =
    listed
    (form_record 1 0 0
    ++ seal_record
    ++ pulse_record 0 0 (rare 1)
    ++ pulse_record 0 255 (rare 0))
    (line (codes "formulas 1 assumptions 0 lines 0 refutations 1")
    ++ line (codes "0 refuted 0")
    ++ line (codes "refused 3 11 31"))

-- a run of 257 positions
unfoldable pub one_position_too_many : FileRow
one_position_too_many =
    listed
    (form_record 1 0 0
    ++ seal_record
    ++ pulse_record 0 0 (rare 2))
    (line (codes "formulas 1 assumptions 0 lines 0 refutations 0")
    ++ line (codes "refused 3 10 13"))

-- one line more than a case holds: v0, assumed, by rule 0
unfoldable pub one_line_too_many : FileRow
one_line_too_many =
    listed
    (form_record 1 0 0
    ++ assume_record 0
    ++ seal_record
    ++ many 513 (λ _. assumed_line 0))
    (line (codes "formulas 1 assumptions 1 lines 512 refutations 0")
    ++ line (codes "0 derived 0")
    ++ line (codes "refused 3 7 6163"))

-- one formula more than a case takes: 32 atoms, and 993 implications
unfoldable pub one_formula_too_many : FileRow
one_formula_too_many =
    listed
    (many 32 (λ a. form_record 1 a 0)
    ++ many 993 (λ k. form_record 2 (k / 32) (k % 32))
    ++ seal_record)
    (line (codes "formulas 1024 assumptions 0 lines 0 refutations 0")
    ++ line (codes "refused 3 3 9216"))

-- 259 formulas, the last one v7 → v2: assumed, and held by rule 0
unfoldable pub high_formula : FileRow
high_formula =
    listed
    (many 32 (λ a. form_record 1 a 0)
    ++ many 227 (λ k. form_record 2 (k / 32) (k % 32))
    ++ (2 ∷ 0 ∷ 2 ∷ 0 ∷ 2 ∷ 1 ∷ [])
    ++ seal_record
    ++ (8 ∷ 0 ∷ 4 ∷ 0 ∷ 0 ∷ 0 ∷ 2 ∷ 1 ∷ 255 ∷ 255 ∷ 255 ∷ 255 ∷ []))
    (line (codes "formulas 259 assumptions 1 lines 1 refutations 0")
    ++ line (codes "258 derived 0")
    ++ line (codes "read 2353"))

-- 258 lines: v0, assumed, is held by rule 0 in all but the last, which is ○v0 by rule 6 from line 256
unfoldable pub high_line : FileRow
high_line =
    listed
    (form_record 1 0 0
    ++ form_record 3 0 0
    ++ assume_record 0
    ++ seal_record
    ++ many 257 (λ _. assumed_line 0)
    ++ (8 ∷ 0 ∷ 4 ∷ 0 ∷ 6 ∷ 0 ∷ 1 ∷ 0 ∷ 0 ∷ 1 ∷ 255 ∷ 255 ∷ []))
    (line (codes "formulas 2 assumptions 1 lines 258 refutations 0")
    ++ line (codes "0 derived 0")
    ++ line (codes "1 derived 257")
    ++ line (codes "read 3124"))

-- files within a limit and beyond it, and two with numbers above 255
abbrev pub limit_files : List FileRow
limit_files = sixteen_assumptions ∷ seventeen_assumptions ∷ twelve_prime_parts ∷ thirteen_prime_parts ∷ last_position ∷ behind_the_last ∷ one_position_too_many ∷ one_line_too_many ∷ one_formula_too_many ∷ high_formula ∷ high_line ∷ []

-- every row is listed so
abbrev pub FilesListed : Type 0
FilesListed = All IsListed files × All IsListed limit_files

-- Numbers in decimal: how long they are, and that one is read off a text, since its digits end at the first byte that is no digit.
use Rattle.std.proofs.Common.{◌≡◌, ℕ, ◌^◌, ◌<◌, ◌≤◌, List, [], ◌∷◌, ◌++◌, length, decimal, refl, arith, lit<}
use Rattle.std.specs.Int.{IsInRange}
use Rattle.std.proofs.lemmas.Fmt.{digits_decimal, decimal_injective, length-decimal-le}
use Rattle.std.proofs.lemmas.Str.Parse.{IsDigitsTest, numerals_by_value}

-- the digits of a number of 64 bits have 20 places
pub decimal_short : (n : ℕ) → n < 2 ^ 64 → length (decimal n) ≤ 20
decimal_short n small = length-decimal-le 20 n (lit< tt) (omega arith) small

-- those of a number below ten thousand have 4
pub digits_four : (n : ℕ) → n < 10 ^ 4 → length (decimal n) ≤ 4
digits_four n small = length-decimal-le 4 n (lit< tt) small (omega arith)

-- each byte is one of the ten digits
abbrev pub Digits : List ℕ → Type 0
Digits [] = Unit {0}
Digits (c ∷ cs) = IsInRange 48 57 c × Digits cs

tells : IsDigitsTest Digits
tells = record { empty = tt; parts = λ c cs ds. ds; more = λ c cs d ds. (d, ds) }

pub decimal_digits : (n : ℕ) → n < 2 ^ 64 → Digits (decimal n)
decimal_digits n small = digits_decimal (numerals_by_value Digits tells) n small

-- a text that begins with a byte below the digits, and one that begins with a byte above them
abbrev pub StartsBelow : List ℕ → Type 0
StartsBelow [] = ⊥
StartsBelow (x ∷ xs) = x < 48

abbrev pub StartsAbove : List ℕ → Type 0
StartsAbove [] = ⊥
StartsAbove (x ∷ xs) = 57 < x

-- equal texts begin with the same digits, if a byte below the digits follows in both
same_digits : (ds es s t : List ℕ) → Digits ds → Digits es → StartsBelow s → StartsBelow t → ds ++ s ≡ es ++ t → (ds ≡ es) × (s ≡ t)
same_digits [] [] s t dds des low less is = (refl, is)
same_digits [] (e ∷ es) [] t dds des low less is = absurd low
same_digits [] (e ∷ es) (x ∷ s) t dds des low less is = let same : x ≡ e = cc in absurd (omega (arith, des.0.0))
same_digits (d ∷ ds) [] s [] dds des low less is = absurd less
same_digits (d ∷ ds) [] s (y ∷ t) dds des low less is = let same : d ≡ y = cc in absurd (omega (arith, dds.0.0))
same_digits (d ∷ ds) (e ∷ es) s t dds des low less is =
    let first : d ≡ e = cc in
    let behind : ds ++ s ≡ es ++ t = cc in
    let same = same_digits ds es s t dds.1 des.1 low less behind in
    (cc, same.1)

pub same_number : (m n : ℕ) (s t : List ℕ) → m < 2 ^ 64 → n < 2 ^ 64 → StartsBelow s → StartsBelow t → decimal m ++ s ≡ decimal n ++ t → (m ≡ n) × (s ≡ t)
same_number m n s t small few low less is =
    let same = same_digits (decimal m) (decimal n) s t (decimal_digits m small) (decimal_digits n few) low less is in
    (decimal_injective m n small few same.0, same.1)

digits_not_above : (ds s t : List ℕ) → Digits ds → StartsBelow s → StartsAbove t → ds ++ s ≡ t → ⊥
digits_not_above ds s [] dds low above is = above
digits_not_above [] [] (y ∷ t) dds low above is = low
digits_not_above [] (x ∷ s) (y ∷ t) dds low above is = let same : x ≡ y = cc in omega arith
digits_not_above (d ∷ ds) s (y ∷ t) dds low above is = let same : d ≡ y = cc in omega (arith, dds.0.1)

-- a text that begins above the digits does not begin with a number
pub number_not_above : (n : ℕ) (s t : List ℕ) → n < 2 ^ 64 → StartsBelow s → StartsAbove t → decimal n ++ s ≡ t → ⊥
number_not_above n s t small low above is = digits_not_above (decimal n) s t (decimal_digits n small) low above is

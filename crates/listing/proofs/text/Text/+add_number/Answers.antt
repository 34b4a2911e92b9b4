-- `Text::add_number` meets its contract: a number's digits are those of its tenth, and the last one.
use Rattle.std.proofs.Common.{◌≡◌, ℕ, ◌+◌, ◌/◌, ◌%◌, ◌^◌, ◌<◌, ◌≤◌, List, [], ◌∷◌, ◌++◌, length, decimal, sym, ap, ◌∙◌, append_assoc, arith, length-append}
use Rattle.std.proofs.lemmas.Fmt.{decimal_digit, decimal_step}
use Rattle.listing.proofs.text.Text.+add_number.Goals as goal
use Rattle.listing.proofs.text.Text.+add_number.Goals.{then-is_longer, else-is_longer}

-- a number has one digit more than its tenth
longer : (n : ℕ) → 10 ≤ n → n < 2 ^ 64 → length (decimal n) ≡ length (decimal (n / 10)) + 1
longer n two fits = ap length (decimal_step n two (omega arith)) ∙ length-append (decimal (n / 10)) _

pub add_number-requires : goal.add_number-requires
add_number-requires t c = (omega arith, omega (arith, longer c.args.number c.if-is_longer.true (omega arith)))

pub add-requires : goal.add-requires
add-requires t c =
    elim c.if-is_longer.branch [
      | then-is_longer w ↦
          omega (arith, longer c.args.number w.if-is_longer.true (omega arith), ap length w.self-is, ap length w.add_number.ensures, length-append c.args.self.now (decimal (c.args.number / 10)))
      | else-is_longer w ↦ omega (arith, ap length w.self-is, ap length (decimal_digit c.args.number (omega arith)))
    ]

pub returns : goal.returns
returns t c =
    let s = c.args.self.now in
    let n : ℕ = c.args.number in
    let last : List ℕ = (48 + n % 10) ∷ [] in
    elim c.if-is_longer.branch [
      | then-is_longer w ↦
          c.add.ensures ∙ ap (λ ds. ds ++ last) (w.self-is ∙ w.add_number.ensures) ∙ append_assoc s (decimal (n / 10)) last
          ∙ ap (λ ds. s ++ ds) (sym (decimal_step n w.if-is_longer.true (omega arith)))
      | else-is_longer w ↦
          let one : n % 10 ≡ n = omega arith in
          c.add.ensures ∙ ap (λ ds. ds ++ last) w.self-is ∙ ap (λ d. s ++ (48 + d) ∷ []) one ∙ ap (λ ds. s ++ ds) (sym (decimal_digit n (omega arith)))
    ]

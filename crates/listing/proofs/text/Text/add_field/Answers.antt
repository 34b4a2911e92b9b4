-- `Text::add_field` has room for its number's digits.
use Rattle.std.proofs.Common.{length, ap, arith, length-append}
use Rattle.listing.proofs.Decimals.{decimal_short}
use Rattle.listing.proofs.text.Text.add_field.Goals as goal

pub add_number-requires : goal.add_number-requires
add_number-requires c = omega (arith, decimal_short c.args.number (omega arith), simp length-append at (ap length c.add.ensures))

pub returns-clause-within : goal.returns-clause-within
returns-clause-within c =
    omega (arith, decimal_short c.args.number (omega arith), simp length-append at (ap length c.add.ensures), simp length-append at (ap length c.add_number.ensures))

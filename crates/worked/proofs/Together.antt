-- Facts that are put together.
use Rattle.std.proofs.Common.{List, [], ◌∷◌}
use Rattle.std.specs.List.{AllByRecursion, All}
use Rattle.std.proofs.lemmas.List.Elements.{All-cons, All-nil}

-- one fact, and others behind it
infixr 5 ◌also◌
pub ◌also◌ : {X Y : Type 0} → X → Y → X × Y
a also b = (a, b)

-- what holds of the rows of a table one by one holds of all
pub all : {Row : Type 0} (Holds : Row → Type 0) (rows : List Row) → AllByRecursion Holds rows → All Holds rows
all Holds [] done = All-nil Holds
all Holds (row ∷ rows) (holds, rest) = All-cons Holds row rows holds (all Holds rows rest)

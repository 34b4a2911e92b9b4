-- The number that a caller is told for a refusal of form.
use Rattle.std.specs.Prelude.{ℕ}
use Rattle.formulas.specs.declared.refusal.FormRefusal.{FormRefusal}
use Rattle.formulas.specs.declared.refusal.FormRefusal.TheVariants.{UnknownKind, BadField, FormulasFull}

abbrev pub form_number : FormRefusal → ℕ
form_number UnknownKind = 1
form_number BadField = 2
form_number FormulasFull = 3

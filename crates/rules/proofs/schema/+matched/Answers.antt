-- A number that is not in the list matches nothing.
use Rattle.std.proofs.Common.{◌≡◌, List, None, sym, refl, ◌∙◌}
use Rattle.std.specs.List.{slice_get}
use Rattle.logic.specs.Formula.{Formula, falsum, atom, implies, next, always}
use Rattle.formulas.specs.declared.entry.Entry.{Entry}
use Rattle.formulas.specs.Listed.{entries_of}
use Rattle.rules.specs.Matching.{formula_of, matched_in}
use Rattle.rules.proofs.schema.+matched.Goals as goal

none_matched : (es : List Entry) (A : Formula) (n : _) (ls : _) → slice_get es n ≡ None → matched_in es A n ls ≡ None
none_matched es falsum n ls none = rw none refl
none_matched es (atom a) n ls none = rw none refl
none_matched es (implies A B) n ls none = rw none refl
none_matched es (next A) n ls none = rw none refl
none_matched es (always A) n ls none = rw none refl

pub returns-in_err-get : goal.returns-in_err-get
returns-in_err-get t c =
    c.from_residual.ensures ∙ sym (none_matched (entries_of c.args.formulas.now) (formula_of c.args.schema.now) c.args.number c.args.letters (sym c.get.ensures ∙ c.in_err-get.was))

-- `read_file` meets its contract, by the file's length and by what its front answered.
use Rattle.std.proofs.Common.{ap, ◌∙◌, arith}
use Rattle.cases.specs.Model.{opened, sealed}
use Rattle.checker.proofs.Checking.{checked_long, checked_front}
use Rattle.checker.proofs.read_file.Goals as goal

pub returns-then-file-gt-FILE_MOST : goal.returns-then-file-gt-FILE_MOST
returns-then-file-gt-FILE_MOST c =
    let e = checked_long (opened c.args.case) c.args.scratch.now c.args.file.now (omega arith) in
    record { case = c.seal.ensures ∙ ap (λ x. x.case) e; ending = ap (λ x. x.ending) e; words = ap (λ x. x.scratch) e }

pub returns : goal.returns
returns c =
    let after = c.seal-sealed.ensures ∙ c.read_front-front.ensures.after in
    let e = checked_front (opened c.args.case) c.args.scratch.now c.args.file.now (omega arith) _ c.read_front-front.ensures.answer (sealed c.seal-sealed.result) after in
    record {
      case = c.read_behind-ending.ensures.after ∙ ap (λ x. x.case) e;
      ending = c.read_behind-ending.ensures.ending ∙ ap (λ x. x.ending) e;
      words = c.read_behind-ending.ensures.words ∙ ap (λ x. x.scratch) e;
    }

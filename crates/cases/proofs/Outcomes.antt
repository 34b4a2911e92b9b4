-- The answer and the case of an outcome that is known.
use Rattle.std.proofs.Common.{◌≡◌, ℕ, sym, ap}
use Rattle.model.specs.Calls.{Outcome}

pub answer_of : {o p : Outcome ℕ} → o ≡ p → p.answer ≡ o.answer
answer_of e = sym (ap (λ x. x.answer) e)

pub after_of : {o p : Outcome ℕ} → o ≡ p → p.after ≡ o.after
after_of e = sym (ap (λ x. x.after) e)

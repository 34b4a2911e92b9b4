-- What holds of a reading, by the calls that it makes.
use Rattle.std.proofs.Common.{◌≡◌, ℕ, ◌+◌, ◌↔◌, List, [], ◌∷◌, length, IfOk, IfSome, Some, None, Ok, Err, Option, Result, refl}
use Rattle.std.specs.Result.{result_err}
use Rattle.refusals.specs.declared.Refusal.{Refusal}
use Rattle.model.specs.Case.{Case}
use Rattle.model.specs.History.{Stage, Call, form, assume, truth, line, refute, after_call, Refused}
use Rattle.records.specs.Records.{Records, none, bad, more}
use Rattle.records.specs.Asking.{Asked}
use Rattle.files.specs.Reading.{refusal_of, Part, Reading, called, step, read}
use Rattle.files.specs.CallsMade.{then_calls, calls_asked}

-- a call has a refusal exactly if it is refused with it
module _ {A : Type 0} (e : Refusal) where
  in_answer : (a : Result A Refusal) → (result_err a ≡ Some e) ↔ (a ≡ Err e)
  in_answer (Ok x) = (λ is. cc, λ is. cc)
  in_answer (Err f) = (λ is. cc, λ is. cc)

pub refusal_is : {s : Stage} (c : Case) (x : Call s) (e : Refusal) → (refusal_of c x ≡ Some e) ↔ Refused c x e
refusal_is c (form kind left right) e = in_answer e _
refusal_is c (assume f) e = in_answer e _
refusal_is c (truth r f i n) e = in_answer e _
refusal_is c (line page l) e = in_answer e _
refusal_is c (refute r f i n) e = in_answer e _

pub no_refusal : {s : Stage} (c : Case) (x : Call s) → refusal_of c x ≡ None → (e : Refusal) → Refused c x e → ⊥
no_refusal c x is e refused = let some = (refusal_is c x e).1 refused in cc

-- of the call that is asked for, if one is
abbrev pub IfCall : {s : Stage} → (Call s → Type 0) → Asked s → Type 0
IfCall P a = IfOk a (λ o. IfSome o P)

-- what holds of no calls, and of calls after a refused and after an answered one, holds of the calls that a reading makes; each is known to be good
module _ {s : Stage} {B A : Type 0} (p : Part s B A) (Good : Call s → Type 0) (good : (kind : ℕ) (payload : List ℕ) → IfCall Good (p.asked kind payload))
    (P : Case → B → List (Call s) → Case → B → Type 0)
    (nothing : (c : Case) (b : B) → P c b [] c b)
    (refused : (c : Case) (b : B) (x : Call s) (xs : List (Call s)) (e : Refusal) → Good x → Refused c x e → P c b (x ∷ xs) (after_call c x) (p.carry c x b))
    (answered : (c : Case) (b : B) (x : Call s) (xs : List (Call s)) (d : Case) (k : B)
    → Good x → ((e : Refusal) → Refused c x e → ⊥) → P (after_call c x) (p.carry c x b) xs d k → P c b (x ∷ xs) d k) where
  abbrev Made : Case → B → List (Call s) → Reading B A → Type 0
  Made c b xs r = P c b xs r.after r.carried

  module _ (c : Case) (b : B) (at : ℕ) (xs : List (Call s)) (go : Case → B → Reading B A) (on : (d : Case) (k : B) → Made d k xs (go d k)) where
    call_made : (x : Call s) → Good x → (o : Option Refusal) → refusal_of c x ≡ o → Made c b (x ∷ xs) (called at o (after_call c x) (p.carry c x b) go)
    call_made x is_good (Some e) is = refused c b x xs e is_good ((refusal_is c x e).0 is)
    call_made x is_good None is = answered c b x xs _ _ is_good (no_refusal c x is) (on (after_call c x) (p.carry c x b))

    step_made : (behind : ℕ) (a : Asked s) → IfCall Good a → Made c b (then_calls a xs) (step p c b at behind a go)
    step_made behind (Ok (Some x)) is_good = call_made x is_good (refusal_of c x) refl
    step_made behind (Ok None) is_good = nothing c b
    step_made behind (Err e) is_good = nothing c b

  pub calls_made : (c : Case) (b : B) (at : ℕ) (rs : Records) → Made c b (calls_asked p.asked rs) (read p c b at rs)
  calls_made c b at none = nothing c b
  calls_made c b at (bad e) = nothing c b
  calls_made c b at (more kind payload rest) =
      let behind = at + 4 + length payload in
      step_made c b at (calls_asked p.asked rest) _ (λ d k. calls_made d k behind rest) behind (p.asked kind payload) (good kind payload)

-- How a file's records come one after another.
use Rattle.std.proofs.Common.{◌≡◌, ℕ, zero, suc, ◌+◌, ◌≤◌, List, [], ◌∷◌, length, drop, Some, None, Ok, Err, Option, Result, refl, ap, arith, length-drop}
use Rattle.records.specs.declared.fault.RecordFault.{RecordFault}
use Rattle.records.specs.Records.{Content, Records, more, first_content, led_by, cut, records}

-- records led by one record are the same if those after it are
led_same : (r : Result (Option Content) RecordFault) (f g : ℕ → Records) → ((k : ℕ) → f (4 + k) ≡ g (4 + k)) → led_by r f ≡ led_by r g
led_same (Ok None) f g same = refl
led_same (Err e) f g same = refl
led_same (Ok (Some r)) f g same = ap (more r.kind r.payload) (same (length r.payload))

-- a number of records that is never reached makes no difference
enough : (m n : ℕ) (bytes : List ℕ) → length bytes ≤ m → length bytes ≤ n → cut m bytes ≡ cut n bytes
enough zero zero bytes l h = refl
enough zero (suc n) [] l h = refl
enough zero (suc n) (x ∷ xs) l h = absurd (omega arith)
enough (suc m) zero [] l h = refl
enough (suc m) zero (x ∷ xs) l h = absurd (omega arith)
enough (suc m) (suc n) bytes l h =
    led_same (first_content bytes) _ _ (λ k. enough m n (drop (4 + k) bytes) (simp length-drop (omega arith)) (simp length-drop (omega arith)))

-- the first record, and the records after it
pub records_led : (bytes : List ℕ) → records bytes ≡ led_by (first_content bytes) (λ behind. records (drop behind bytes))
unfolding records
records_led [] = refl
records_led (x ∷ xs) =
    led_same (first_content (x ∷ xs)) _ _ (λ k.
    enough (length xs) (length (drop (4 + k) (x ∷ xs))) (drop (4 + k) (x ∷ xs)) (simp length-drop (omega arith)) (omega arith))

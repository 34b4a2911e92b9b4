-- What a caller in C is told, and what its buffer has then.
use Rattle.std.specs.Prelude.{◌≡◌, ℕ, List, IfOk, take, Ok, Err, Result}
use Rattle.checker.specs.declared.unwritten.Unwritten.{Unwritten}
use Rattle.checker.specs.Unwritten.{unwritten_number, ListsInto}
use Rattle.checker.specs.Promises.{ListsHistory}
use Rattle.kelombary_c.specs.declared.Answer.{Answer}

-- 0 and the listing's length, or the number of what keeps it from being written, and 0
abbrev pub Tells : Result ℕ Unwritten → Answer → Type 0
Tells (Ok n) told = (told.number ≡ 0) × (told.length ≡ n)
Tells (Err why) told = (told.number ≡ unwritten_number why) × (told.length ≡ 0)

-- of a file, with n scratch words, what is told is of an answer that lists it into the buffer, and a listing there is that of the history that the file makes
abbrev pub Answered : ℕ → List ℕ → List ℕ → Answer → List ℕ → Type 0
Answered n bytes before told after =
    (answer : Result ℕ Unwritten) × Tells answer told × ListsInto n bytes before answer after × IfOk answer (λ k. ListsHistory n bytes (take k after))

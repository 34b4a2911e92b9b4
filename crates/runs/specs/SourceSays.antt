-- What a source tells of its run.
use Rattle.std.specs.Prelude.{ℕ, ◌+◌, Bool, ◌&&◌, nat_lt}
use Rattle.logic.specs.Run.{Run}

-- an atom's truth at a position, for the atoms 0 to 31 up to the loop's end, and false for any other
unfoldable pub source_says : Run → ℕ → ℕ → Bool
source_says r a i = (nat_lt a 32 && nat_lt i (r.stem + r.loop)) && r.says a i

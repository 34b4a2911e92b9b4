-- Which stems and loops have room in a row.
use Rattle.std.specs.Prelude.{ℕ, ◌+◌, cond, ◌&&◌, Some, None, Option, nat_le, nat_lt}
use Rattle.rows.specs.declared.lasso.Lasso.{Lasso}

-- a lasso's stem and loop
abbrev pub shape : Lasso → ℕ × ℕ
shape l = (l.stem, l.loop_length)

-- the stem and the loop of a lasso, if there is one
abbrev pub lasso_of : ℕ → ℕ → Option (ℕ × ℕ)
lasso_of stem loop = cond (nat_lt 0 loop && nat_le (stem + loop) 256) (Some (stem, loop)) None

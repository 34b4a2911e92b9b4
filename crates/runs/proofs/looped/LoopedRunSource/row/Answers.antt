-- What the source says is what is true up to the loop's end, of the atoms that there are.
use Rattle.std.proofs.Common.{ℕ, Bool, ◌+◌, ◌&&◌, ltb, sym, ap, ◌∙◌, arith}
use Rattle.std.proofs.lemmas.Bool.{lt-ltb, le-ltb}
use Rattle.rows.proofs.Rows.{empty_row, row_of_same}
use Rattle.runs.proofs.SourceSays.{source_says_tested}
use Rattle.runs.proofs.looped.LoopedRunSource.row.Goals as goal

pub returns-then-from-ge-ATOMS : goal.returns-then-from-ge-ATOMS
returns-then-from-ge-ATOMS g c =
    let s = c.args.self.now in
    let f : ℕ → ℕ → Bool = g.P.Positions.truths s.positions in
    empty_row _
    (λ i h. source_says_tested s.stem s.loop_length f c.args.atom i s.turns
    ∙ ap (λ b. (b && ltb i (s.stem + s.loop_length)) && f c.args.atom i) (le-ltb c.args.atom 32 (omega arith)))

pub returns : goal.returns
returns g c =
    let s = c.args.self.now in
    let f : ℕ → ℕ → Bool = g.P.Positions.truths s.positions in
    c.row.ensures
    ∙ row_of_same _ _
    (λ i h. ap (λ n. ltb i n && f c.args.atom i) (λ j. c.from-2.ensures j + c.from-3.ensures j)
    ∙ sym (source_says_tested s.stem s.loop_length f c.args.atom i s.turns
    ∙ ap (λ b. (b && ltb i (s.stem + s.loop_length)) && f c.args.atom i) (lt-ltb c.args.atom 32 (omega arith))))

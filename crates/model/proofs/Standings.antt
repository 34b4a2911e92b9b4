-- After every history, standing tells how a formula stands.
use Rattle.std.proofs.Common.{◌≡◌, ℕ, length, Some, None, Ok, Err, Option, refl, ap, ◌∙◌, ◌≢◌, arith}
use lib.Dec
use Rattle.std.specs.List.{slice_get}
use Rattle.std.proofs.lemmas.Bool.{cond_both, leb-true, leb-false}
use Rattle.refusals.specs.declared.Refusal.TheVariants.{NotEntered}
use Rattle.logic.specs.Formula.{Formula}
use Rattle.lists.proofs.Members.{nth_within, nth_there}
use Rattle.model.specs.declared.line.Line.{Line}
use Rattle.model.specs.declared.refutation.Refutation.{Refutation}
use Rattle.model.specs.History.{Stage, History, after, Formed, HeldLine}
use Rattle.model.specs.Promises.{Stands, not_entered, derived_first, refuted_first, still_open, StandingTells}
use Rattle.model.specs.Reads.{standing_by, first_line, first_refutation_of}
use Rattle.model.proofs.Histories.{formulas_from, formed_there}
use Rattle.model.proofs.FirstOf.{first_is, first_least, none_found}
use Rattle.model.proofs.HeldLines.{lines_from, line_there}
use Rattle.model.proofs.HeldRefutations.{refutations_exactly, held_there}

abbrev line_formula : Line → ℕ
line_formula l = l.formula

abbrev refutation_formula : Refutation → ℕ
refutation_formula x = x.formula

module _ (s : Stage) (h : History s) (f : ℕ) (A : Formula) (formed : Formed s h f A) where
  by_line : (n : ℕ) → first_line (after h) f ≡ Some n → Stands s h f (Ok (standing_by (Some n) (first_refutation_of (after h) f)))
  by_line n found =
      let x = first_is line_formula (after h).lines f n found in
      derived_first A formed n x.0 (lines_from s h n x.0 x.1) x.2
      (λ m k lt held. first_least line_formula (after h).lines f n found m k lt (line_there s h m k held))

  module _ (no_line : (m : ℕ) (k : Line) → HeldLine s h m k → k.formula ≢ f) where
    by_refutation : (o : Option ℕ) → first_refutation_of (after h) f ≡ o → Stands s h f (Ok (standing_by None o))
    by_refutation (Some n) found =
        let x = first_is refutation_formula (after h).refutations f n found in
        let there : slice_get (after h).refutations n ≡ Some (record { formula = f; position = x.0.position }) =
        x.1 ∙ ap (λ (g : ℕ). Some (record { formula = g; position = x.0.position })) x.2 in
        let p = (refutations_exactly s h).from n _ there in
        refuted_first A formed no_line n x.0.position p.0 p.1
        (λ m j q lt held. first_least refutation_formula (after h).refutations f n found m _ lt (held_there s h m f j q held) refl)
    by_refutation None found =
        still_open A formed no_line (λ m j q held. none_found refutation_formula (after h).refutations f found m _ (held_there s h m f j q held) refl)

  stands : (o : Option ℕ) → first_line (after h) f ≡ o → Stands s h f (Ok (standing_by o (first_refutation_of (after h) f)))
  stands (Some n) found = by_line n found
  stands None found =
      by_refutation (λ m k held. none_found line_formula (after h).lines f found m k (line_there s h m k held)) (first_refutation_of (after h) f) refl

pub standing_tells : StandingTells
standing_tells s h f =
    cond_both (Dec.leb (length (after h).formulas) f) (Err NotEntered) _ (Stands s h f)
    (λ past. not_entered (λ A formed. omega (arith, nth_within (after h).formulas f (formed_there s h f A formed), leb-true (length (after h).formulas) f past)))
    (λ known.
    let A = nth_there (after h).formulas f (leb-false (length (after h).formulas) f known) in
    stands s h f A.0 (formulas_from s h f A.0 A.1) (first_line (after h) f) refl)

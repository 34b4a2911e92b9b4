-- What is promised of all cases and of all histories.
use Rattle.row_writer.proofs.RowsAlong.{rest_stays}
use Rattle.model.specs.Promises.{Promises}
use Rattle.model.proofs.Exact.{form_exact, assume_exact}
use Rattle.model.proofs.LineRelation.{line_exact}
use Rattle.model.proofs.LineExactly.{line_held_exactly}
use Rattle.model.proofs.Judged.{truth_exact, refute_exact, rows_tell}
use Rattle.model.proofs.RefutationExactly.{refutation_held_exactly}
use Rattle.model.proofs.Enough.{scratch_suffices}
use Rattle.model.proofs.Histories.{refusals_change_nothing, formulas_formed, assumptions_assumed, entries_tell, limits_kept}
use Rattle.model.proofs.HeldLines.{lines_held}
use Rattle.model.proofs.HeldLinesTrue.{held_lines_true, never_both}
use Rattle.model.proofs.Derivations.{derivations_held, entered_held, published_page_publishes}
use Rattle.model.proofs.Enterable.{derivations_can_be_entered}
use Rattle.model.proofs.HeldRefutations.{refutations_held, refutations_have_runs}
use Rattle.model.proofs.Counting.{counts_tell}
use Rattle.model.proofs.Standings.{standing_tells}

pub promises : Promises
promises = record {
  form_exact = form_exact;
  assume_exact = assume_exact;
  line_exact = line_exact;
  line_held_exactly = line_held_exactly;
  truth_exact = truth_exact;
  refute_exact = refute_exact;
  refutation_held_exactly = refutation_held_exactly;
  rows_tell = rows_tell;
  rest_stays = rest_stays;
  refusals_change_nothing = refusals_change_nothing;
  formulas_formed = formulas_formed;
  assumptions_assumed = assumptions_assumed;
  lines_held = lines_held;
  held_lines_true = held_lines_true;
  never_both = never_both;
  derivations_held = derivations_held;
  entered_held = entered_held;
  published_page_publishes = published_page_publishes;
  derivations_can_be_entered = derivations_can_be_entered;
  refutations_held = refutations_held;
  refutations_have_runs = refutations_have_runs;
  counts_tell = counts_tell;
  standing_tells = standing_tells;
  scratch_suffices = scratch_suffices;
  entries_tell = entries_tell;
  limits_kept = limits_kept;
}

-- `onsets::peaks::suppress_close_peaks` meets its contract: a refusal returns at once, and without one all holds that the inner call asks
-- (`suppression_told`). Assumes nothing.
use mathlib.Core.Path.{refl, sym}
use Rattle.numbers.proofs.Outcomes.{lists_on, lists_done}
use Rattle.onsets.proofs.Picks.{suppression_told}
use Rattle.onsets.proofs.peaks.suppress_close_peaks.Goals as goal

pub returns-in_err-refusal : goal.returns-in_err-refusal
returns-in_err-refusal c = lists_on _ _ _ _ _ c.from_residual.ensures.1 c.in_err-refusal.ensures

pub suppress-count-requires : goal.suppress-count-requires
suppress-count-requires c =
    let told = suppression_told _ _ _ (sym c.in_ok-refusal.ensures) in
    record { curve_len_bound = told.slots-fit; peaks_value = (told.ascends, told.inside); peaks_in_bounds = told.has_room }

pub returns : goal.returns
returns c =
    lists_done _ _ _ _ _ (sym c.in_ok-refusal.ensures) refl c.suppress-count.ensures.count_is c.suppress-count.ensures.frames_are

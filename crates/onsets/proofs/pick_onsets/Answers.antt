-- `onsets::pick_onsets` meets its contract: a refusal returns at once, and without one all holds that the inner call asks (`onsets-told`). Assumes
-- nothing.
use mathlib.Core.Path.{refl, sym}
use native.Mathlib.Omega.{arith}
use Rattle.onsets.specs.Onsets.{onsets_of}
use Rattle.numbers.proofs.Outcomes.{lists_on, lists_done}
use Rattle.onsets.proofs.Onsets.{onsets-told}
use Rattle.onsets.proofs.pick_onsets.Goals as goal

pub returns-in_err-onsets_refusal : goal.returns-in_err-onsets_refusal
returns-in_err-onsets_refusal c = lists_on _ _ _ _ _ c.from_residual.ensures.1 c.in_err-onsets_refusal.ensures

pub pick_peaks-count-requires : goal.pick_peaks-count-requires
pick_peaks-count-requires c =
    let told = onsets-told _ _ _ _ (sym c.in_ok-onsets_refusal.ensures) in
    (told.slots-fit, omega (arith, told.same_length), told.has_room)

pub returns : goal.returns
unfolding onsets_of
returns c =
    let picked = rw c.gap_of.ensures at c.pick_peaks-count.ensures in
    lists_done _ _ _ _ _ (sym c.in_ok-onsets_refusal.ensures) refl picked.count_is picked.frames_are

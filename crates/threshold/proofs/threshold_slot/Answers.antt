-- `threshold::threshold_slot` meets its contract: the part of the curve that is lent is the window around t (`window-is`), which is no longer than the
-- room to sort in. Assumes nothing.
use mathlib.Core.Path.{ap, ◌∙◌}
use Prim.Native.Nat.{◌-◌, ◌≤◌}
use native.Mathlib.Omega.{arith}
use lib.ListN.{length, take, drop, length-take, length-drop}
use Rattle.numbers.proofs.Outcomes.{open_wider}
use Rattle.threshold.specs.Threshold.{threshold_of, threshold_at, sorting_room}
use Rattle.threshold.proofs.Thresholds.{window-is}
use Rattle.threshold.proofs.threshold_slot.Goals as goal

pub returns : goal.returns
unfolding threshold_at
returns c =
    let flux = c.args.flux.now in
    let a = c.saturating_sub-start.result in
    let b = c.min-end.result in
    let l : length (take (b - a) (drop a flux)) ≤ sorting_room flux =
    simp (length-take, length-drop) (omega (arith, c.saturating_sub-start.ensures, c.min-end.ensures)) in record { value = c.over_window.ensures.value ∙ ap threshold_of (window-is flux c.args.t a b c.saturating_sub-start.ensures c.min-end.ensures); fact = open_wider _ _ _ _ l c.over_window.ensures.fact }

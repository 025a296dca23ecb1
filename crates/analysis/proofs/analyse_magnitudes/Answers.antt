-- `analysis::analyse_magnitudes` meets its contract: a refusal is handed on at once; where there is none that says all that the flux asks, and the part of
-- its slice that is then lent is a flux that the inner call takes (`lent_ready`). Assumes nothing.
use mathlib.Core.Path.{sym}
use native.Mathlib.Omega.{arith}
use Rattle.rooms.proofs.Numbers.{flux_asks}
use Rattle.analysis.proofs.Promises.{magnitudes_refused, lent_ready, magnitudes_passed}
use Rattle.analysis.proofs.analyse_magnitudes.Goals as goal

pub returns-in_err-magnitudes_refusal : goal.returns-in_err-magnitudes_refusal
returns-in_err-magnitudes_refusal c = magnitudes_refused _ _ _ _ _ _ _ _ _ c.from_residual.ensures.1 c.in_err-magnitudes_refusal.ensures

pub invariant_of-m : goal.invariant_of-m
invariant_of-m c =
    let t = flux_asks _ _ _ _ _ _ _ _ (sym c.in_ok-magnitudes_refusal.ensures) in
    record { whole = t.whole; fine = t.fine }

pub fill_flux-requires : goal.fill_flux-requires
fill_flux-requires c = (omega arith, omega arith, (flux_asks _ _ _ _ _ _ _ _ (sym c.in_ok-magnitudes_refusal.ensures)).has_room)

pub slice_bounds-analyse-end : goal.slice_bounds-analyse-end
slice_bounds-analyse-end c =
    let t = flux_asks _ _ _ _ _ _ _ _ (sym c.in_ok-magnitudes_refusal.ensures) in
    omega (arith, t.has_room)

pub analyse-requires : goal.analyse-requires
analyse-requires c = lent_ready _ _ _ _ _ _ _ (sym c.in_ok-magnitudes_refusal.ensures) _ c.fill_flux.ensures

pub shape_of-flux : goal.shape_of-flux
shape_of-flux c = c.fill_flux.auto.out

pub shape_of-threshold : goal.shape_of-threshold
shape_of-threshold c = c.analyse.auto.threshold

pub shape_of-onsets : goal.shape_of-onsets
shape_of-onsets c = c.analyse.auto.onsets

pub shape_of-clarity : goal.shape_of-clarity
shape_of-clarity c = c.analyse.auto.clarity

pub shape_of-weight : goal.shape_of-weight
shape_of-weight c = c.analyse.auto.weight

pub shape_of-window_clarity : goal.shape_of-window_clarity
shape_of-window_clarity c = c.analyse.auto.window_clarity

pub shape_of-window_weight : goal.shape_of-window_weight
shape_of-window_weight c = c.analyse.auto.window_weight

pub shape_of-score : goal.shape_of-score
shape_of-score c = c.analyse.auto.score

pub shape_of-back : goal.shape_of-back
shape_of-back c = c.analyse.auto.back

pub shape_of-beats : goal.shape_of-beats
shape_of-beats c = c.analyse.auto.beats

pub shape_of-downbeats : goal.shape_of-downbeats
shape_of-downbeats c = c.analyse.auto.downbeats

pub shape_of-work : goal.shape_of-work
shape_of-work c = c.analyse.auto.work

pub returns : goal.returns
returns c =
    magnitudes_passed _ _ _ _ _ _ _ (sym c.in_ok-magnitudes_refusal.ensures) _ c.fill_flux.ensures _ _ _ c.analyse.ensures

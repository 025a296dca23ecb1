-- `tempo::estimate` meets its contract: a refusal changes nothing, and number 0 gives what the search of the envelope asks for.
-- Assumes nothing.
use mathlib.Core.Path.{sym}
use Rattle.tempo.proofs.Refusals.{accepted, ranged, search_asks}
use Rattle.tempo.proofs.Tells.{estimated_refused, estimated_told}
use Rattle.tempo.proofs.estimate.Goals as goal

pub returns-in_err-search_refusal : goal.returns-in_err-search_refusal
returns-in_err-search_refusal c = estimated_refused _ _ _ _ _ _ _ _ _ c.from_residual.ensures.1 c.in_err-search_refusal.ensures

pub lags_in-range-requires : goal.lags_in-range-requires
lags_in-range-requires c = (accepted _ _ _ _ _ _ (sym c.in_ok-search_refusal.ensures)).bounds

pub tempo_in-requires : goal.tempo_in-requires
tempo_in-requires c =
    let a = accepted _ _ _ _ _ _ (sym c.in_ok-search_refusal.ensures) in
    let p = search_asks _ _ _ _ _ _ _ a (ranged _ _ _ c.lags_in-range.ensures a.bounds) in
    record { le_min_lag = p.0; max_lag_in_bounds = p.1 }

pub returns : goal.returns
returns c =
    let none = sym c.in_ok-search_refusal.ensures in
    let a = accepted _ _ _ _ _ _ none in
    estimated_told _ _ _ _ _ _ _ _ _ _ _ none (ranged _ _ _ c.lags_in-range.ensures a.bounds) c.tempo_in.ensures

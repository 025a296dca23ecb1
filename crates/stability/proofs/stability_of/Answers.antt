-- `stability::stability_of` meets its contract: a refusal changes nothing, and number 0 gives what the search of the windows asks for.
-- Assumes nothing.
use mathlib.Core.Path.{sym}
use Rattle.tempo.proofs.Refusals.{ranged}
use Rattle.stability.proofs.Refusals.{both_accepted, share_asks}
use Rattle.stability.proofs.Shares.{steadied_refused, steadied_shared}
use Rattle.stability.proofs.stability_of.Goals as goal

pub returns-in_err-refusal : goal.returns-in_err-refusal
returns-in_err-refusal c = steadied_refused _ _ _ _ _ _ _ _ _ c.from_residual.ensures.1 c.in_err-refusal.ensures

pub lags_in-range-requires : goal.lags_in-range-requires
lags_in-range-requires c = (both_accepted _ _ _ _ _ _ _ (sym c.in_ok-refusal.ensures)).bounds

pub share-requires : goal.share-requires
share-requires c =
    let a = both_accepted _ _ _ _ _ _ _ (sym c.in_ok-refusal.ensures) in
    let p = share_asks _ _ _ _ _ _ _ a (ranged _ _ _ c.lags_in-range.ensures a.bounds) in
    record { min_lag_le_max_lag = p.0; max_lag_in_bounds = p.1 }

pub returns : goal.returns
returns c =
    let none = sym c.in_ok-refusal.ensures in
    let a = both_accepted _ _ _ _ _ _ _ none in
    steadied_shared _ _ _ _ _ _ _ _ _ _ _ _ none (ranged _ _ _ c.lags_in-range.ensures a.bounds) c.share.ensures

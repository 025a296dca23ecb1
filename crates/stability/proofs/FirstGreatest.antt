-- "The first greatest weight wins" in each window of an accepted call of `stability_of`, unless it is flat; and where its winner's weight isn't
-- above 0, so that the window has no tempo and doesn't agree, "no weight is above 0". A window is a part of the envelope, so its values are fine,
-- and it is longer than the longest lag: what holds of every envelope that is searched (FirstGreatest of tempo) holds of it. Assumes nothing.
use mathlib.Core.Path.{◌≡◌, refl, ◌∙◌}
use mathlib.Core.Bool.{false}
use mathlib.Core.List.{List}
use Prim.Native.Nat.{ℕ, ◌/◌, ◌≤◌, ◌<◌}
use native.Mathlib.Nat.{div-le_self}
use native.Mathlib.Omega.{arith}
use borrow.Author.Tests.{eq-eqb}
use lib.ListN.{length, get_or}
use lib.Ieee.{Float, nan, lt}
use Rattle.numbers.specs.Rounded.{nought}
use Rattle.numbers.specs.Limits.{value_fine}
use Rattle.numbers.proofs.Tests.{pick_true, pick-false}
use Rattle.numbers.proofs.Overs.{every-row}
use Rattle.options.specs.declared.TempoOpts.{TempoOpts}
use Rattle.lags.specs.Lags.{min_lag, max_lag}
use Rattle.lag_candidates.specs.Candidates.{winner_of}
use Rattle.lag_candidates.proofs.Winners.{FirstGreatest}
use Rattle.lag_search.specs.Search.{weight_curve, flat, winner_above, winner_lag, winning_lag}
use Rattle.tempo.proofs.FirstGreatest.{Searchable, searchable_in, first-greatest, no_weight_above}
use Rattle.stability.specs.Windows.{windows_of, window_at, window_agrees}
use Rattle.stability.specs.Answers.{stability_refusal}
use Rattle.stability.proofs.Refusals.{both_accepted}
use Rattle.stability.proofs.Shares.{windows-fit}
use Rattle.stability.proofs.Parts.{window-length, window_long}

module _ (env : List Float) (rate : ℕ) (o : TempoOpts) (whole clarities weights works : ℕ)
    (answered : stability_refusal env rate o whole clarities weights works ≡ 0) (i : ℕ) (is_one : i < windows_of (length env) (max_lag rate o))
    (loud : flat (window_at env (windows_of (length env) (max_lag rate o)) i) ≡ false) where
  abbrev w : ℕ
  w = windows_of (length env) (max_lag rate o)

  searchable : Searchable (window_at env w i) rate (min_lag rate o) (max_lag rate o)
  unfolding window_at windows_of
  searchable =
      let a = both_accepted env rate o whole clarities weights works answered in
      let some : 1 ≤ w = omega arith in
      let fit = windows-fit (length env) (max_lag rate o) w refl in
      searchable_in (window_at env w i) rate o a.bounds (every-row value_fine env (length env / w) i a.values)
      (omega (arith, window-length env w i (max_lag rate o) some fit is_one, div-le_self (length env) w, a.rows))
      (window_long env w i (max_lag rate o) some fit is_one)
      loud

  abbrev window_weights : List Float
  window_weights = weight_curve (window_at env w i) rate (min_lag rate o) (max_lag rate o)

  -- "The first greatest weight wins"
  pub window_wins_first_greatest : FirstGreatest window_weights (length window_weights) (winner_of window_weights)
  window_wins_first_greatest = first-greatest searchable

  -- where it is not above 0, "no weight is above 0"
  pub window_none_wins : winner_above window_weights ≡ false → (j : ℕ) → j < length window_weights → lt nought (get_or window_weights j nan) ≡ false
  window_none_wins = no_weight_above searchable

  -- and a window "with no tempo doesn't agree"
  pub window_without_tempo : winner_above window_weights ≡ false → window_agrees (window_at env w i) rate (min_lag rate o) (max_lag rate o) whole ≡ false
  unfolding window_agrees winning_lag winner_lag
  window_without_tempo e = pick_true _ _ _ (eq-eqb _ 0 (pick-false (flat (window_at env w i)) _ _ loud ∙ pick-false (winner_above window_weights) _ _ e))

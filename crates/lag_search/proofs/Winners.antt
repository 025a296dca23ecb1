-- Whether the winner's weight is above 0, and its lag. Assumes nothing.
use mathlib.Core.Path.{◌≡◌, sym, ap, ◌∙◌}
use mathlib.Core.Logic.{⊎_elim}
use mathlib.Core.Bool.{Bool, true, false, not}
use mathlib.Core.List.{List}
use Prim.Native.Nat.{ℕ, ◌+◌, ◌<◌}
use native.Mathlib.Omega.{arith}
use lib.ListN.{length, get_or}
use lib.Dec.{T}
use lib.Ieee.{Float, nan, is_nan, lt}
use Rattle.numbers.specs.Rounded.{nought}
use Rattle.numbers.proofs.Tests.{which, true_not_false, pick_true, pick-false}
use Rattle.sizes.proofs.Order.{lt_then_le}
use Rattle.lag_candidates.specs.Candidates.{winner_of}
use Rattle.lag_candidates.proofs.Winners.{winner_is_first_greatest}
use Rattle.lag_search.specs.Search.{winner_above, winner_lag}

module _ (ws : List Float) (numbers : (j : ℕ) → j < length ws → T (not (is_nan (get_or ws j nan)))) where
  abbrev at : ℕ → Float
  at j = get_or ws j nan

  -- "no weight is above 0" exactly where the winner's is not
  pub none_above : winner_above ws ≡ false → (j : ℕ) → j < length ws → lt nought (at j) ≡ false
  unfolding winner_above
  none_above e j h =
      ⊎_elim
      (λ (a : lt nought (at j) ≡ true).
      true_not_false (lt nought (at (winner_of ws)))
      (lt_then_le nought (at j) (at (winner_of ws)) a ((winner_is_first_greatest ws numbers (omega arith)).most j h))
      e)
      (λ (a : lt nought (at j) ≡ false). a)
      (which (lt nought (at j)))

-- ---- its lag

module _ (min_lag : ℕ) (ws : List Float) (k : ℕ) (e : k ≡ winner_of ws) where
  above-is : (b : Bool) → lt nought (get_or ws k nan) ≡ b → winner_above ws ≡ b
  unfolding winner_above
  above-is b h = ap (λ (j : ℕ). lt nought (get_or ws j nan)) (sym e) ∙ h

  pub winner_lag_lem : lt nought (get_or ws k nan) ≡ true → min_lag + k ≡ winner_lag min_lag ws
  unfolding winner_lag
  winner_lag_lem h = ap (λ (j : ℕ). min_lag + j) e ∙ sym (pick_true (winner_above ws) _ _ (above-is true h))

  pub no_winner_lag : lt nought (get_or ws k nan) ≡ false → 0 ≡ winner_lag min_lag ws
  unfolding winner_lag
  no_winner_lag h = sym (pick-false (winner_above ws) _ _ (above-is false h))

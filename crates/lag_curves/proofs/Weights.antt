-- A weight curve made of a clarity curve is the weight curve of the envelope, by whichever of the two rules. Assumes nothing.
use mathlib.Core.Path.{◌≡◌, ap}
use mathlib.Core.List.{List}
use Prim.Native.Nat.{ℕ, ◌+◌, ◌≤◌, ◌<◌, zero-le}
use lib.ListN.{length, get_or}
use lib.Ieee.{Float, nan}
use Rattle.numbers.specs.Rounded.{◌⊗◌}
use Rattle.numbers.specs.Lists.{filled}
use Rattle.numbers.proofs.Tabs.{filled_ext, get_or_filled_in}
use Rattle.lag_curves.specs.Curves.{prior_at, weight_at, clarity_from, prior_from, weight_from, weighted, weighted_by}

module _ (env : List Float) (mean ac0 : Float) (rate min_lag room : ℕ) (cs c ws : List Float) (fits : room ≤ length c)
    (made : cs ≡ filled (clarity_from env mean ac0 min_lag) c 0 room) where
  clarity-at : (i : ℕ) → 0 ≤ i → i < room → get_or cs i nan ≡ clarity_from env mean ac0 min_lag i
  clarity-at i p q = rw made (get_or_filled_in (clarity_from env mean ac0 min_lag) c 0 room zero-le fits i nan p q)

  pub weighted-is : filled (weighted cs rate min_lag) ws 0 room ≡ filled (weight_from env mean ac0 rate min_lag) ws 0 room
  unfolding weight_at
  weighted-is = filled_ext _ _ ws 0 room (λ i p q. ap (λ (x : Float). x ⊗ prior_at rate (min_lag + i)) (clarity-at i p q))

  pub weighted_by_is : (ps b : List Float) → room ≤ length b → ps ≡ filled (prior_from rate min_lag) b 0 room
      → filled (weighted_by cs ps) ws 0 room ≡ filled (weight_from env mean ac0 rate min_lag) ws 0 room
  unfolding weight_at
  weighted_by_is ps b h e =
      filled_ext _ _ ws 0 room
      (λ i p q. rw (clarity-at i p q) (ap (λ (x : Float). clarity_from env mean ac0 min_lag i ⊗ x)
      (rw e (get_or_filled_in (prior_from rate min_lag) b 0 room zero-le h i nan p q))))

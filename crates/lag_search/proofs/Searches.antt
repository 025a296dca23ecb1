-- What a search answers and writes, from what its parts do. Assumes nothing.
use mathlib.Core.Path.{◌≡◌, sym, ap, ◌∙◌}
use mathlib.Core.Bool.{Bool, true, false}
use mathlib.Core.List.{List}
use Prim.Native.Nat.{ℕ, ◌-◌}
use native.Mathlib.Nat.{sub-zero}
use lib.ListN.{take, drop}
use lib.Seq.{take_at}
use lib.Ieee.{Float, le}
use Rattle.numbers.specs.Lists.{curve, filled}
use Rattle.numbers.proofs.Tests.{pick_true, pick-false}
use Rattle.numbers.proofs.Tabs.{length-tab, filled-whole}
use Rattle.numbers.specs.Rounded.{epsilon}
use Rattle.lists.specs.Means.{mean_of}
use Rattle.lags.specs.Lags.{lag_room}
use Rattle.lag_sums.specs.Sums.{energy_of}
use Rattle.lag_curves.specs.Curves.{clarity_from, weight_from}
use Rattle.lag_search.specs.Search.{flat, clarity_rule, weight_rule, winner_lag, winning_lag, Searched}

-- the first slots of a list that was filled are the curve
pub curve_part : (f : ℕ → Float) (was now' : List Float) (room : ℕ) → now' ≡ filled f was 0 room → take (room - 0) (drop 0 now') ≡ curve f room
curve_part f was now' room e =
    ap (λ (k : ℕ). take k now') (sub-zero room)
    ∙ ap (take room) (e ∙ filled-whole f was room)
    ∙ take_at (curve f room) (drop room was) room (length-tab f 0 room)

module _ (env : List Float) (rate min_lag max_lag : ℕ) (mean ac0 : Float) (m : mean ≡ mean_of env) (a : ac0 ≡ energy_of env mean) where
  ac0_is : ac0 ≡ energy_of env (mean_of env)
  ac0_is = a ∙ ap (energy_of env) m

  flat-is : (b : Bool) → le ac0 epsilon ≡ b → flat env ≡ b
  unfolding flat
  flat-is b e = ap (λ (x : Float). le x epsilon) (sym ac0_is) ∙ e

  pub searched_flat : (clarity weight : List Float) → le ac0 epsilon ≡ true → Searched env rate min_lag max_lag clarity weight 0 clarity weight
  unfolding winning_lag
  searched_flat clarity weight e =
      let f = flat-is true e in
      record {
        winner = sym (pick_true (flat env) _ _ f);
        clarities = sym (pick_true (flat env) _ _ f);
        weights = sym (pick_true (flat env) _ _ f);
      }

  module _ (clarity weight clarity' weight' : List Float) (lag : ℕ) (e : le ac0 epsilon ≡ false)
      (c : clarity' ≡ filled (clarity_from env mean ac0 min_lag) clarity 0 (lag_room min_lag max_lag))
      (w : weight' ≡ filled (weight_from env mean ac0 rate min_lag) weight 0 (lag_room min_lag max_lag)) where
    clarity-is : clarity' ≡ filled (clarity_rule env min_lag) clarity 0 (lag_room min_lag max_lag)
    clarity-is = c ∙ ap (λ (x : Float). filled (clarity_from env x ac0 min_lag) clarity 0 (lag_room min_lag max_lag)) m
        ∙ ap (λ (x : Float). filled (clarity_from env (mean_of env) x min_lag) clarity 0 (lag_room min_lag max_lag)) ac0_is

    weight_is : weight' ≡ filled (weight_rule env rate min_lag) weight 0 (lag_room min_lag max_lag)
    weight_is = w ∙ ap (λ (x : Float). filled (weight_from env x ac0 rate min_lag) weight 0 (lag_room min_lag max_lag)) m
        ∙ ap (λ (x : Float). filled (weight_from env (mean_of env) x rate min_lag) weight 0 (lag_room min_lag max_lag)) ac0_is

    pub searched_written : (room : ℕ) → room ≡ lag_room min_lag max_lag → lag ≡ winner_lag min_lag (take (room - 0) (drop 0 weight'))
        → Searched env rate min_lag max_lag clarity weight lag clarity' weight'
    unfolding winning_lag
    searched_written room r l =
        let f = flat-is false e in
        record {
          winner =
              l ∙ ap (λ (k : ℕ). winner_lag min_lag (take (k - 0) (drop 0 weight'))) r
              ∙ ap (winner_lag min_lag) (curve_part (weight_rule env rate min_lag) weight weight' (lag_room min_lag max_lag) weight_is)
              ∙ sym (pick-false (flat env) _ _ f);
          clarities = clarity-is ∙ sym (pick-false (flat env) _ _ f);
          weights = weight_is ∙ sym (pick-false (flat env) _ _ f);
        }

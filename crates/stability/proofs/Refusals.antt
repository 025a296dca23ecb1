-- The number of `stability_of` beside that of `estimate`: the whole lag is looked at too. Assumes nothing.
use mathlib.Core.Path.{◌≡◌, sym, ap, ◌∙◌}
use mathlib.Core.Bool.{Bool, true, ◌&&◌}
use mathlib.Core.List.{List}
use Prim.Native.Nat.{ℕ, ◌≤◌, ◌<◌}
use native.Mathlib.Omega.{arith}
use borrow.Author.Tests.{leb-true, le-leb, lt-leb}
use lib.Dec.{leb}
use lib.ListN.{length}
use lib.Ieee.{Float}
use Rattle.numbers.specs.Limits.{most_rows, most_period, value_fine}
use Rattle.numbers.specs.Refusals.{lowest}
use Rattle.numbers.specs.Lists.{every}
use Rattle.numbers.proofs.Tests.{lowest_1, and_left, and_failed, lowest-zero}
use Rattle.options.specs.declared.TempoOpts.{TempoOpts}
use Rattle.lags.specs.declared.LagRange.{LagRange}
use Rattle.lags.specs.Lags.{lag_room}
use Rattle.tempo.specs.Answers.{search_bounds, search_room, search_refusal}
use Rattle.tempo.proofs.Refusals.{Ranged, Accepted, accepted}
use Rattle.stability.specs.Answers.{stability_refusal}

module _ (env : List Float) (rate : ℕ) (o : TempoOpts) (whole clarity weight work : ℕ) where
  abbrev bounds : Bool
  bounds = search_bounds env rate o

  abbrev roomy : Bool
  roomy = search_room rate o clarity weight work

  abbrev fine : Bool
  fine = every value_fine env

  pub lag_too_long : most_period < whole → 1 ≡ stability_refusal env rate o whole clarity weight work
  unfolding stability_refusal
  lag_too_long h =
      let e = lt-leb whole most_period h in
      sym (lowest_1 (leb whole most_period && bounds) true roomy fine (sym (and_failed (leb whole most_period) bounds e) ∙ e))

  pub lag_fine : whole ≤ most_period → search_refusal env rate o clarity weight work ≡ stability_refusal env rate o whole clarity weight work
  unfolding stability_refusal search_refusal
  lag_fine h = ap (λ (b : Bool). lowest (b && bounds) true roomy fine) (sym (le-leb whole most_period h))

  -- number 0
  pub both_accepted : stability_refusal env rate o whole clarity weight work ≡ 0 → Accepted env rate o clarity weight work
  unfolding stability_refusal
  both_accepted e =
      let p = lowest-zero (leb whole most_period && bounds) true roomy fine e in
      accepted env rate o clarity weight work (lag_fine (leb-true _ _ (and_left (leb whole most_period) bounds p.bounds)) ∙ e)

-- what `share` asks for
pub share_asks : (env : List Float) (rate : ℕ) (o : TempoOpts) (clarity weight work : ℕ) (r : LagRange) → Accepted env rate o clarity weight work
    → Ranged rate o r
    → ((r.min_lag ≤ r.max_lag) × (r.max_lag ≤ most_period) × (length env ≤ most_rows))
    × ((lag_room r.min_lag r.max_lag ≤ clarity) × (lag_room r.min_lag r.max_lag ≤ weight) × (lag_room r.min_lag r.max_lag ≤ work))
share_asks env rate o clarity weight work r a g = (
  (omega (arith, g.ordered), g.most, a.rows),
  (omega (arith, a.clarities, g.least, g.greatest), omega (arith, a.weights, g.least, g.greatest), omega (arith, a.works, g.least, g.greatest)),
)

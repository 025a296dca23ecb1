-- `lag_candidates::first_apart` meets its contract. The invariant: `best` is the first that passes of the ranked maxima below slot i. Assumes nothing.
use mathlib.Core.Path.{◌≡◌}
use mathlib.Core.List.{[], ◌∷◌}
use Prim.Native.Nat.{◌≤◌}
use lib.ListN.{length}
use Rattle.lag_candidates.specs.Candidates.{ranked_to, stands_apart, first_passing}
use Rattle.lag_candidates.proofs.first_apart.Given as goal

abbrev pub invariant-loop-i : goal.invariant-loop-i
invariant-loop-i l = (l.i ≤ length l.weight) × (l.best ≡ first_passing (stands_apart l.min_lag (l.a ∷ l.b ∷ [])) (ranked_to l.weight l.i) (length l.weight))

-- `lag_candidates::winner_of` meets its contract: an empty list gives 0, as the definition does, and any other the first greatest of its slots.
-- Assumes nothing.
use mathlib.Core.Path.{◌≡◌, sym, ap}
use mathlib.Core.List.{List}
use Prim.Native.Nat.{ℕ}
use lib.ListN.{length}
use lib.Ieee.{Float}
use Rattle.lists.specs.Greatest.{value_at, first_greatest}
use Rattle.lag_candidates.specs.Candidates.{winner_of}
use Rattle.lag_candidates.proofs.winner_of.Goals as goal

none : (ws : List Float) → length ws ≡ 0 → 0 ≡ winner_of ws
unfolding winner_of first_greatest
none ws e = sym (ap (λ (n : ℕ). first_greatest (value_at ws) n) e)

pub returns-then-weight-eq0 : goal.returns-then-weight-eq0
returns-then-weight-eq0 c = none _ c.if-weight-eq0.true

pub returns : goal.returns
unfolding winner_of
returns c = c.first_greatest.ensures.1

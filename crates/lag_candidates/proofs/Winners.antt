-- The winner of a list of weights: where it lies, and that it is the first greatest. Assumes nothing.
use mathlib.Core.Path.{◌≡◌}
use mathlib.Core.Bool.{not}
use mathlib.Core.List.{List}
use Prim.Native.Nat.{ℕ, ◌<◌}
use native.Mathlib.Omega.{arith}
use lib.Dec.{T}
use lib.ListN.{length}
use lib.Ieee.{Float, is_nan}
use Rattle.lists.specs.Greatest.{value_at}
use Rattle.lists.proofs.Greatest.{First, first_below, first_is}
use Rattle.lag_candidates.specs.Candidates.{winner_of}

-- the winner is a slot
pub winner-below : (ws : List Float) → 0 < length ws → winner_of ws < length ws
unfolding winner_of
winner-below ws h = first_below (value_at ws) (length ws) h

pub winner_slot : (ws : List Float) (k : ℕ) → k ≡ winner_of ws → 0 < length ws → k < length ws
winner_slot ws k e h = omega (arith, winner-below ws h)

-- slot best is the first greatest of the first i: none is above it, and those before it are below it
abbrev pub FirstGreatest : List Float → (i best : ℕ) → Type 0
FirstGreatest ws i best = First (value_at ws) i best

-- where no weight is a NaN, the winner is
pub winner_is_first_greatest : (ws : List Float) → ((j : ℕ) → j < length ws → T (not (is_nan (value_at ws j)))) → 0 < length ws
    → FirstGreatest ws (length ws) (winner_of ws)
unfolding winner_of
winner_is_first_greatest ws numbers h = first_is (value_at ws) (length ws) h numbers

-- `lag_sums::abreast::sixteen_run` meets its contract. The invariant: each whole run is the run of the times that are left, from the sums so
-- far on. The measure is those times; `run_two` makes a turn's two steps. Assumes nothing.
use mathlib.Core.Path.{◌≡◌}
use Prim.Native.Nat.{◌+◌, ◌≤◌, ◌-◌, ◌%◌}
use lib.ListN.{length, drop}
use Rattle.lag_sums.specs.Lanes.{eight_run}
use Rattle.lag_sums.proofs.abreast.sixteen_run.Given as goal

abbrev pub invariant-loop-t : goal.invariant-loop-t
invariant-loop-t l =
    (l.t ≤ length l.times)
    × (l.t % 2 ≡ 0)
    × (eight_run l.initial.s l.times l.later l.at ≡ eight_run l.s (drop l.t l.times) l.later (l.at + l.t))
    × (eight_run l.initial.r l.times l.later (l.at + 8) ≡ eight_run l.r (drop l.t l.times) l.later (l.at + 8 + l.t))

abbrev pub decreases-loop-t : goal.decreases-loop-t
decreases-loop-t l = length l.times - l.t

-- `flux::fill_four` meets its contract. The invariant: k slots of each quarter are written by the rule (`quartered`); the quarters are one run, and the
-- rest, fewer than four, joins on (`filled_join`). Assumes nothing.
use mathlib.Core.Path.{◌≡◌}
use Prim.Native.Nat.{◌≤◌, ◌+◌, ◌*◌}
use lib.Ieee.{nan}
use lib.ListN.{length}
use Rattle.flux.specs.Flux.{flux_at}
use Rattle.flux.proofs.Quarters.{quartered}
use Rattle.flux.proofs.fill_four.Given as goal

abbrev pub invariant-loop-k : goal.invariant-loop-k
invariant-loop-k l =
    (l.k ≤ l.quarter) × (l.from + 4 * l.quarter ≤ l.past) × (length l.out ≡ length l.initial.out) × (l.out ≡ quartered (flux_at l.m.values.now l.m.slab) nan l.initial.out l.from l.quarter l.k)

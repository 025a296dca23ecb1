-- `flux::flux_four` meets its contract. The invariant: each sum so far, run on over the bins that are left, is its slot; a part stays as long as it is.
-- The measure is the bins that are left. Assumes nothing.
use mathlib.Core.Path.{◌≡◌}
use Prim.Native.Nat.{◌≤◌, ◌+◌, ◌-◌, ◌*◌}
use lib.ListN.{length}
use Rattle.numbers.specs.Rounded.{sum_from}
use Rattle.flux_rows.specs.Rises.{part_bins, rise_rest}
use Rattle.flux.specs.Flux.{flux_at}
use Rattle.flux.proofs.flux_four.Given as goal

abbrev pub invariant-loop-i : goal.invariant-loop-i
invariant-loop-i l =
    (l.i ≤ l.m.slab.bins)
    × (length l.a ≡ part_bins)
    × (length l.b ≡ part_bins)
    × (length l.c ≡ part_bins)
    × (length l.d ≡ part_bins)
    × (sum_from l.f.a (rise_rest l.m.values.now l.m.slab l.t l.i) ≡ flux_at l.m.values.now l.m.slab l.t)
    × (sum_from l.f.b (rise_rest l.m.values.now l.m.slab (l.t + l.apart) l.i) ≡ flux_at l.m.values.now l.m.slab (l.t + l.apart))
    × (sum_from l.f.c (rise_rest l.m.values.now l.m.slab (l.t + 2 * l.apart) l.i) ≡ flux_at l.m.values.now l.m.slab (l.t + 2 * l.apart))
    × (sum_from l.f.d (rise_rest l.m.values.now l.m.slab (l.t + 3 * l.apart) l.i) ≡ flux_at l.m.values.now l.m.slab (l.t + 3 * l.apart))

abbrev pub decreases-loop-i : goal.decreases-loop-i
decreases-loop-i l = l.m.slab.bins - l.i

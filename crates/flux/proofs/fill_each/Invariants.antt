-- `flux::fill_each` meets its contract. The invariant: the slots up to t are written by the rule, and the list is as long as it was. Assumes nothing.
use mathlib.Core.Path.{◌≡◌}
use Prim.Native.Nat.{◌≤◌}
use lib.ListN.{length}
use Rattle.numbers.specs.Lists.{filled}
use Rattle.flux.specs.Flux.{flux_at}
use Rattle.flux.proofs.fill_each.Given as goal

abbrev pub invariant-loop-t : goal.invariant-loop-t
invariant-loop-t l =
    (l.from ≤ l.t) × (l.t ≤ l.past) × (length l.out ≡ length l.initial.out) × (l.out ≡ filled (flux_at l.m.values.now l.m.slab) l.initial.out l.from l.t)

-- `median::choice::select` meets its contract. The invariant: the entry of rank h of the list is that of another rank among the first m entries now.
-- The measure: each turn leaves fewer entries, or guesses closer. Assumes nothing.
use Prim.Native.Nat.{◌+◌, ◌*◌, ◌≤◌, ◌<◌}
use mathlib.Core.Path.{◌≡◌}
use lib.ListN.{length, get_or, take}
use lib.Ieee.{nan}
use Rattle.median.specs.Median.{sort}
use Rattle.median.proofs.Ranks.{AllFit}
use Rattle.median.proofs.choice.select.Given as goal

abbrev pub invariant-loop-m : goal.invariant-loop-m
invariant-loop-m l =
    (l.m ≤ length l.a) × (length l.a ≡ length l.initial.a) × (l.rank < l.m) × (l.apart ≤ 3) × (get_or (sort (take l.m l.a)) l.rank nan ≡ get_or (sort l.initial.a) l.h nan) × AllFit l.a

abbrev pub decreases-loop-m : goal.decreases-loop-m
decreases-loop-m l = 4 * l.m + l.apart

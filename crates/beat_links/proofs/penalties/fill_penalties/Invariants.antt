-- `beat_links::penalties::fill_penalties` meets its contract. The invariant: the first k slots are written by the rule. Assumes nothing.
use mathlib.Core.Path.{◌≡◌}
use Prim.Native.Nat.{◌*◌, ◌≤◌}
use lib.ListN.{length}
use Rattle.numbers.specs.Lists.{filled}
use Rattle.beat_links.specs.Inner.{slot_penalty}
use Rattle.beat_links.proofs.penalties.fill_penalties.Given as goal

abbrev pub invariant-loop-k : goal.invariant-loop-k
invariant-loop-k l = (l.k ≤ 2 * l.period) × (length l.table ≡ length l.initial.table) × (l.table ≡ filled (slot_penalty l.period) l.initial.table 0 l.k)

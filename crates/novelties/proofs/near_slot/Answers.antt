-- `novelties::near_slot` meets its contract, by the two orders of the pair. Assumes nothing.
use mathlib.Core.Path.{sym}
use native.Mathlib.Nat.{le_of_lt}
use Rattle.novelties.proofs.Lanes.{near_rising, near_falling}
use Rattle.novelties.proofs.near_slot.Goals as goal

pub returns-then-u-v : goal.returns-then-u-v
returns-then-u-v c = sym (near_rising _ _ c.if-u-v.true)

pub returns-else-u-v : goal.returns-else-u-v
returns-else-u-v c = sym (near_falling _ _ (le_of_lt c.if-u-v.false))

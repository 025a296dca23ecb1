-- `novelties::slot_of` meets its contract, by the two orders of the pair. Assumes nothing.
use mathlib.Core.Path.{sym}
use native.Mathlib.Nat.{le_of_lt}
use Rattle.novelties.proofs.Terms.{slot_rising, slot_falling}
use Rattle.novelties.proofs.slot_of.Goals as goal

pub returns-then-a-b : goal.returns-then-a-b
returns-then-a-b c = sym (slot_rising _ _ c.if-a-b.true)

pub returns-else-a-b : goal.returns-else-a-b
returns-else-a-b c = sym (slot_falling _ _ (le_of_lt c.if-a-b.false))

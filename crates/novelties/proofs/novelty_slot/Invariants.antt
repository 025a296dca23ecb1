-- `novelties::novelty_slot` meets its contract. The invariant: the steps that are left, taken from the sum so far, give the whole. The places before
-- `low` and from `past` on are of rows outside, whose steps change nothing. Assumes nothing.
use mathlib.Core.Path.{◌≡◌}
use Prim.Native.Nat.{◌-◌, ◌≤◌}
use Rattle.novelties.specs.Novelty.{add_row, novelty_at, turns}
use Rattle.novelties.proofs.novelty_slot.Given as goal

abbrev pub invariant-loop-u : goal.invariant-loop-u
invariant-loop-u l =
    (l.low ≤ l.u) × (l.u ≤ l.past) × (turns (add_row l.similarity l.rows l.i) l.u (16 - l.u) l.total ≡ novelty_at l.similarity l.rows l.i)

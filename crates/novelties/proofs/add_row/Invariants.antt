-- `novelties::add_row` meets its contract. The invariant: the steps that are left, taken from the sum so far, give the whole. The places before `low`
-- and from `past` on are of rows outside, whose steps change nothing. Assumes nothing.
use mathlib.Core.Path.{◌≡◌}
use Prim.Native.Nat.{◌-◌, ◌≤◌}
use Rattle.novelties.specs.Novelty.{add_term, add_row, turns}
use Rattle.novelties.proofs.add_row.Given as goal

abbrev pub invariant-loop-v : goal.invariant-loop-v
invariant-loop-v l =
    (l.low ≤ l.v) × (l.v ≤ l.past) × (turns (add_term l.similarity l.rows l.i l.u) l.v (16 - l.v) l.total ≡ add_row l.similarity l.rows l.i l.u l.sum)

-- `novelties::gather` meets its contract. The invariant: the similarities of fewer than d apart are laid out. Assumes nothing.
use Prim.Native.Nat.{◌-◌, ◌*◌, ◌≤◌}
use Rattle.novelties.specs.Lanes.{Gathered}
use Rattle.novelties.proofs.gather.Given as goal

abbrev pub invariant-loop-d : goal.invariant-loop-d
invariant-loop-d l = (l.d ≤ 16) × Gathered l.similarity (l.row * 17) l.d l.near

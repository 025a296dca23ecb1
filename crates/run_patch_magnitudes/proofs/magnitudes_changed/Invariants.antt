-- `run_patch_magnitudes::magnitudes_changed` is safe: so far no more have changed than were compared. Assumes nothing.
use Prim.Native.Nat.{◌≤◌}
use Rattle.run_patch_magnitudes.proofs.magnitudes_changed.Given as goal

abbrev pub invariant-loop-i : goal.invariant-loop-i
invariant-loop-i l = l.count ≤ l.i

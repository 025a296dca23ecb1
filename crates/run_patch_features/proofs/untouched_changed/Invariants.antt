-- `run_patch_features::untouched_changed` is safe: so far no more have changed than were compared. Assumes nothing.
use Prim.Native.Nat.{◌≤◌}
use Rattle.run_patch_features.proofs.untouched_changed.Given as goal

abbrev pub invariant-loop-i : goal.invariant-loop-i
invariant-loop-i l = l.count ≤ l.i

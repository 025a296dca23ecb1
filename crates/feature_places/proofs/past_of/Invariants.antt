-- `feature_places::past_of` meets its contract. The invariant: each row passed belongs to feature row i or one before it. Assumes nothing.
use Prim.Native.Nat.{ℕ, ◌-◌, ◌≤◌, ◌<◌}
use Rattle.feature_places.specs.Places.{feature_row_of}
use Rattle.feature_places.proofs.past_of.Given as goal

abbrev pub invariant-loop-u : goal.invariant-loop-u
invariant-loop-u l = (l.t ≤ l.u) × (l.u ≤ l.rows) × ((v : ℕ) → l.t ≤ v → v < l.u → feature_row_of l.grid v ≤ l.i)

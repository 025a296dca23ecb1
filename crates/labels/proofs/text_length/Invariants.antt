-- `labels::text_length` meets its contract. The invariant: the total is the length of the track of the frames so far, 41 bytes a frame at most. Assumes
-- nothing.
use mathlib.Core.Path.{◌≡◌}
use Prim.Native.Nat.{◌*◌, ◌≤◌}
use lib.ListN.{length}
use Rattle.labels.proofs.Written.{labels_to}
use Rattle.labels.proofs.text_length.Given as goal

abbrev pub invariant-loop-t : goal.invariant-loop-t
invariant-loop-t l = (l.total ≤ 41 * l.t-index) × (l.total ≡ length (labels_to l.rate l.frames l.t-index))

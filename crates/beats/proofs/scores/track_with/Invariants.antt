-- `beats::scores::track_with` meets its contract. The invariant: the first t slots hold the scores of the first t frames, and their links among the
-- scores of all frames; what lies past is as it was. A frame's extension reads only scores before it, which are the same in all three: the lent list,
-- the scores so far and the scores of all. Assumes nothing.
use mathlib.Core.Path.{◌≡◌}
use Prim.Native.Nat.{◌≤◌}
use lib.ListN.{length}
use Rattle.numbers.specs.Lists.{filled, listed}
use Rattle.beats.specs.Envelopes.{scaled_by}
use Rattle.beats.specs.Scores.{scores, link_of}
use Rattle.beats.proofs.scores.track_with.Given as goal

abbrev pub invariant-loop-t : goal.invariant-loop-t
invariant-loop-t l =
    (l.t ≤ length l.envelope) × (length l.score ≡ length l.initial.score) × (length l.back ≡ length l.initial.back)
    × (l.score ≡ listed (scores l.period (scaled_by l.scale l.envelope) l.t) l.initial.score)
    × (l.back ≡ filled (link_of l.period (scores l.period (scaled_by l.scale l.envelope) (length l.envelope))) l.initial.back 0 l.t)

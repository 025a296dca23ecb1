-- `bars::list_phase` meets its contract. The invariant: the phase's beats among the first i stand first in the lent list, `count` of them, and what lies
-- past is as it was. There are no more of them than beats, so the room suffices. Assumes nothing.
use mathlib.Core.Path.{◌≡◌}
use mathlib.Core.List.{List}
use Prim.Native.Nat.{ℕ, ◌≤◌}
use lib.ListN.{length, take}
use Rattle.numbers.specs.Lists.{listed}
use Rattle.bars.specs.Downbeats.{in_phase}
use Rattle.bars.proofs.list_phase.Given as goal

-- what stands in the list after i beats
abbrev pub Listed : (beats : List ℕ) (meter phase : ℕ) (frames₀ frames : List ℕ) (count i : ℕ) → Type 0
Listed beats meter phase frames₀ frames count i =
    (count ≡ length (in_phase meter phase 0 (take i beats))) × (frames ≡ listed (in_phase meter phase 0 (take i beats)) frames₀)

abbrev pub invariant-loop-i : goal.invariant-loop-i
invariant-loop-i l = (l.i ≤ length l.beats) × Listed l.beats l.meter l.phase l.initial.frames l.frames l.count l.i

-- `feature_bins::class_slot` meets its contract: a frequency within both bounds has the class of its pitch, another has none. Assumes nothing.
use mathlib.Core.Path.{ap, ◌∙◌}
use lib.Ieee.{Float}
use Rattle.numbers.specs.Rounded.{◌⊕◌, ◌⊗◌}
use native.Mathlib.Omega.{arith}
use Rattle.feature_bins.specs.Bins.{pitch_of_a, octave, class_slot, pitch_of, pitched, class_of}
use Rattle.feature_bins.proofs.class_slot.Goals as goal

pub returns-then-hz-2 : goal.returns-then-hz-2
unfolding class_slot pitch_of pitched
returns-then-hz-2 c = let e = c.class_of.ensures in (
  rw (c.if-hz.true, c.if-hz-2.true) (e.0 ∙ ap (λ (y : Float). class_of (pitch_of_a ⊕ octave ⊗ y)) c.log2.ensures),
  omega (arith, e.1),
)

pub returns-else-hz-2 : goal.returns-else-hz-2
unfolding class_slot pitched
returns-else-hz-2 c = (rw (c.if-hz.true, c.if-hz-2.false), omega arith)

pub returns-else-hz : goal.returns-else-hz
unfolding class_slot pitched
returns-else-hz c = (rw c.if-hz.false, omega arith)

-- `patch_magnitudes::refusal::bounds_fine` meets its contract, by the tests that led to each return. Assumes nothing.
use mathlib.Core.Path.{sym, ◌∙◌}
use Rattle.numbers.proofs.Tests.{and-held, and_failed}
use Rattle.patch_magnitudes.specs.Tracks.{patch_bounds}
use Rattle.patch_magnitudes.proofs.refusal.bounds_fine.Goals as goal

pub returns-then-slab_fine : goal.returns-then-slab_fine
unfolding patch_bounds
returns-then-slab_fine c = and-held _ _ (sym c.slab_fine.ensures ∙ c.if-slab_fine.true)

pub returns-else-slab_fine : goal.returns-else-slab_fine
unfolding patch_bounds
returns-else-slab_fine c = c.slab_fine.ensures ∙ and_failed _ _ (sym c.slab_fine.ensures ∙ c.if-slab_fine.false)

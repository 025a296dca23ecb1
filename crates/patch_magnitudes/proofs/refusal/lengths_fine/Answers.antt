-- `patch_magnitudes::refusal::lengths_fine` meets its contract, by the tests that led to each return. Assumes nothing.
use mathlib.Core.Path.{sym, ◌∙◌}
use Rattle.numbers.proofs.Slabs.{slab_fits}
use Rattle.numbers.proofs.Tests.{and-held, and_failed}
use Rattle.patch_magnitudes.specs.Tracks.{patch_lengths}
use Rattle.patch_magnitudes.proofs.Asked.{bounds-told}
use Rattle.patch_magnitudes.proofs.refusal.lengths_fine.Goals as goal

pub slab_whole-requires : goal.slab_whole-requires
slab_whole-requires c = (bounds-told _ _ c.requires).shape

pub new_rows-requires : goal.new_rows-requires
new_rows-requires c =
    let b = bounds-told _ _ c.requires in
    ((slab_fits _ b.shape).some-bins, b.starts)

pub returns-then-slab_whole : goal.returns-then-slab_whole
unfolding patch_lengths
returns-then-slab_whole c = c.new_rows.ensures ∙ and-held _ _ (sym c.slab_whole.ensures ∙ c.if-slab_whole.true)

pub returns-else-slab_whole : goal.returns-else-slab_whole
unfolding patch_lengths
returns-else-slab_whole c = c.slab_whole.ensures ∙ and_failed _ _ (sym c.slab_whole.ensures ∙ c.if-slab_whole.false)

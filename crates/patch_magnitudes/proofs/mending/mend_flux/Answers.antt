-- `patch_magnitudes::mending::mend_flux` meets its contract: the new rows fit (`fits`), and the flux is written from the rows with them copied in.
-- Assumes nothing.
use mathlib.Core.Path.{◌∙◌}
use Prim.Native.Nat.{◌+◌, ◌*◌, ◌≤◌}
use native.Mathlib.Omega.{arith}
use lib.Ieee.{nan}
use lib.ListN.{length}
use Rattle.numbers.proofs.Overs.{length_over, every-over, patch_fits}
use Rattle.patches.specs.Patches.{edited}
use Rattle.patch_magnitudes.proofs.mending.mend_flux.Goals.{Start}
use Rattle.patch_magnitudes.proofs.mending.mend_flux.Goals as goal

fits : (c : Start) → c.args.start * c.args.slab.bins + length c.args.new.now ≤ length c.args.magnitudes.now
fits c =
    patch_fits c.args.magnitudes.now c.args.new.now c.args.slab.rows c.args.slab.bins c.args.start c.args.count nan
    c.requires.magnitudes_len.0 c.requires.magnitudes_len.1 c.requires.magnitudes_len.2

pub overflow_mul-start : goal.overflow_mul-start
overflow_mul-start c = omega (arith, fits (goal.at.overflow_mul-start c).Start)

pub put_over-requires : goal.put_over-requires
put_over-requires c = fits (goal.at.put_over-requires c).Start

pub invariant_of-mended : goal.invariant_of-mended
invariant_of-mended c =
    rw c.put_over.ensures
    record {
      whole = length_over _ _ _ (fits (goal.at.invariant_of-mended c).Start) ∙ c.requires.magnitudes_len.0;
      fine = every-over _ _ _ _ c.requires.magnitudes_value.0 c.requires.magnitudes_value.1;
    }

pub fill_flux-requires : goal.fill_flux-requires
fill_flux-requires c = (omega arith, omega arith, omega arith)

pub returns : goal.returns
unfolding edited
returns c = record { value = c.min-flux_past.ensures; magnitudes_after = c.put_over.ensures; flux_after = c.fill_flux.ensures }

-- `flux_rows::lift_at` meets its contract: both rows are there, of one length and fine. Assumes nothing.
use mathlib.Core.Path.{refl, sym, ◌∙◌}
use Prim.Native.Nat.{◌-◌}
use native.Mathlib.Omega.{arith}
use Rattle.numbers.proofs.Overs.{length-row, every-row}
use Rattle.numbers.specs.Limits.{magnitude_fine}
use Rattle.flux_rows.proofs.lift_at.Goals as goal

pub lift-requires : goal.lift-requires
lift-requires c =
    let s = c.args.m.values.now in
    let n = c.args.m.slab.rows in
    let b = c.args.m.slab.bins in
    let t = c.args.t in
    let long = length-row s n b (t - 1) c.args.m.whole (omega arith) in
    rw (c.row_at-prev.ensures, c.row_at-cur.ensures) record { cur_len = length-row s n b t c.args.m.whole (omega arith) ∙ sym long; prev_value = (every-row magnitude_fine s b (t - 1) c.args.m.fine, every-row magnitude_fine s b t c.args.m.fine); part_in_bounds = omega (arith, long, c.requires.2) }

pub returns : goal.returns
returns c = c.lift.ensures ∙ rw (
  c.row_at-prev.ensures,
  c.row_at-cur.ensures,
) refl

use native.Mathlib.Omega.{arith}
use Prim.Native.Nat.{◌+◌, ◌*◌, ◌%◌}
use mathlib.Core.Path.{◌≡◌, refl, sym, ap, ◌∙◌}
use lib.ListN.{length-set}
use lib.Ieee.{nan}
use Rattle.numbers.specs.Lists.{filled}
use Rattle.numbers.proofs.Tabs.{filled_none, filled_more}
use Rattle.feature_parts.specs.Parts.{lane_sum, value_from, lane_value}
use Rattle.feature_parts.proofs.put_row.Goals as goal

pub greatest_class-top-requires : goal.greatest_class-top-requires
greatest_class-top-requires c = (c.requires.0, c.requires.2)

pub band_total-total-requires : goal.band_total-total-requires
band_total-total-requires c = (c.requires.1, c.requires.2)

pub overflow_mul-from : goal.overflow_mul-from
overflow_mul-from c = omega (arith, c.requires.3)

pub loop-j-init : goal.loop-j-init
loop-j-init c =
    let e : c.args.i * 16 + 0 ≡ c.args.i * 16 = omega arith in
    (omega arith, refl, rw e (sym (filled_none _ _ _)))

pub value_at-requires : goal.value_at-requires
value_at-requires c =
    (c.requires.0, c.requires.1, c.requires.2, c.greatest_class-top.ensures, c.band_total-total.ensures)

pub overflow_add-features : goal.overflow_add-features
overflow_add-features c = omega (arith, c.requires.3)

pub bounds-features-from : goal.bounds-features-from
bounds-features-from c =
    omega (arith, c.requires.3, c.loop-j.invariant.1)

pub loop-j-preserved : goal.loop-j-preserved
unfolding lane_value
loop-j-preserved c =
    let j = c.loop-j.j in
    let i = c.args.i in
    let a = c.args in
    let m : (i * 16 + j) % 16 ≡ j = omega arith in
    let n : i * 16 + (j + 1) ≡ i * 16 + j + 1 = omega arith in
    let e = c.value_at.ensures ∙ ap (value_from (lane_sum a.classes.now a.lane) (lane_sum a.bands.now a.lane) a.rms) (sym m) in (
      omega arith,
      simp length-set c.loop-j.invariant.1,
      rw (c.loop-j.invariant.2, e, n)
          (filled_more (lane_value a.classes.now a.bands.now a.lane a.rms) a.features.now (i * 16) (i * 16 + j) (omega arith) nan
          (omega (arith, c.requires.3))),
    )

pub shape_of-features : goal.shape_of-features
shape_of-features c = c.loop-j.invariant.1

pub returns : goal.returns
returns c =
    let a = c.args in
    let e : a.i * 16 + c.loop-j.j ≡ (a.i + 1) * 16 = omega arith in
    c.loop-j.invariant.2 ∙ ap (filled (lane_value a.classes.now a.bands.now a.lane a.rms) a.features.now (a.i * 16)) e

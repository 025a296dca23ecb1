use native.Mathlib.Omega.{arith}
use Prim.Native.Nat.{ℕ, ◌*◌, ◌/◌, ◌%◌}
use Rattle.feature_bins.specs.Bins.{Stretch}
use mathlib.Core.Path.{◌≡◌, sym, ap, ◌∙◌}
use Rattle.feature_lanes.proofs.Addends.{lanes_start, lanes_step, lane_end}
use Rattle.feature_lanes.proofs.add_row.Goals as goal

pub loop-k-init : goal.loop-k-init
loop-k-init c =
    (omega arith, c.requires.2, c.requires.3, lanes_start _ _ _ _ _ _ _)

pub four_at-requires : goal.four_at-requires
four_at-requires c =
    let u = c.requires.1.class_under c.loop-k.k c.loop-k-test.true in
    omega (arith, c.place.ensures, c.loop-k.invariant.1)

pub four_at-requires-in-loop-k : goal.four_at-requires-in-loop-k
four_at-requires-in-loop-k c =
    let u = c.requires.1.band_under c.loop-k.k c.loop-k-test.true in
    omega (arith, c.place-in-loop-k.ensures, c.loop-k.invariant.2)

pub add_stretch-pair-requires : goal.add_stretch-pair-requires
add_stretch-pair-requires c =
    let t = c.requires.1.stretches.stretch c.loop-k.k (omega arith) (omega arith) in
    let rows = c.requires.0 in
    let e = c.place-past.ensures in (
      omega (arith, t.some),
      (
        omega (arith, t.inside, rows.0.whole),
        omega (arith, t.inside, rows.1.whole),
        omega (arith, t.inside, rows.2.whole),
        omega (arith, t.inside, rows.3.whole),
      ),
      (rows.0.fine, rows.1.fine, rows.2.fine, rows.3.fine),
    )

pub put_four-requires : goal.put_four-requires
put_four-requires c =
    let u = c.requires.1.class_under c.loop-k.k c.loop-k-test.true in
    omega (arith, c.place.ensures, c.loop-k.invariant.1)

pub put_four-requires-in-loop-k : goal.put_four-requires-in-loop-k
put_four-requires-in-loop-k c =
    let u = c.requires.1.band_under c.loop-k.k c.loop-k-test.true in
    omega (arith, c.place-in-loop-k.ensures, c.loop-k.invariant.2)

pub loop-k-smaller : goal.loop-k-smaller
loop-k-smaller c =
    let t = c.requires.1.stretches.stretch c.loop-k.k (omega arith) (omega arith) in
    omega (arith, t.some, t.inside, c.place-past.ensures)

pub loop-k-preserved : goal.loop-k-preserved
loop-k-preserved c =
    let t : Stretch c.args.codes.now c.loop-k.k c.place-past.result =
    rw c.place-past.ensures (c.requires.1.stretches.stretch c.loop-k.k (omega arith) (omega arith)) in
    let rows = c.requires.0 in
    let s = c.add_stretch-pair.ensures in (
      t.inside,
      c.put_four.ensures.whole ∙ c.loop-k.invariant.1,
      c.put_four-in-loop-k.ensures.whole ∙ c.loop-k.invariant.2,
      lanes_step _ _ _ _ _ _ _ _ _ _ _ _ _ _ _ _ _ _ _ t (
        omega (arith, t.inside, rows.0.whole),
        omega (arith, t.inside, rows.1.whole),
        omega (arith, t.inside, rows.2.whole),
        omega (arith, t.inside, rows.3.whole),
      )
          (ap (λ (x : ℕ). x / 4 * 4) c.place.ensures) (ap (λ (x : ℕ). x % 4 * 4) c.place-in-loop-k.ensures)
          c.four_at.ensures c.four_at-in-loop-k.ensures
          (record { first = s.0.0; second = s.0.1; third = s.0.2; fourth = s.0.3 })
          (record { first = s.1.0; second = s.1.1; third = s.1.2; fourth = s.1.3 })
          c.put_four.ensures c.put_four-in-loop-k.ensures c.loop-k.invariant.3,
    )

pub shape_of-classes : goal.shape_of-classes
shape_of-classes c = c.loop-k.invariant.1 ∙ sym c.requires.2

pub shape_of-bands : goal.shape_of-bands
shape_of-bands c = c.loop-k.invariant.2 ∙ sym c.requires.3

pub returns : goal.returns
returns c =
    let rows = c.requires.0 in
    let g = c.loop-k.invariant.3 in
    let k = c.loop-k.k in
    let e : k ≡ 2049 = omega arith in
    record {
      classes_whole = c.loop-k.invariant.1;
      bands_whole = c.loop-k.invariant.2;
      first = lane_end k (omega (arith, rows.0.whole)) g.first;
      second = lane_end k (omega (arith, rows.1.whole)) g.second;
      third = lane_end k (omega (arith, rows.2.whole)) g.third;
      fourth = lane_end k (omega (arith, rows.3.whole)) g.fourth;
    }

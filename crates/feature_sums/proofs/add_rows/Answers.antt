use native.Mathlib.Omega.{arith}
use mathlib.Core.Path.{sym, ◌∙◌}
use Rattle.feature_sums.proofs.Steps.{lane-fine, lane-none, lane-more, lane-all}
use Rattle.feature_sums.proofs.add_rows.Goals as goal

pub most_rows-most-requires : goal.most_rows-most-requires
most_rows-most-requires c = (omega arith, omega arith, omega arith, omega arith)

pub loop-r-init : goal.loop-r-init
loop-r-init c =
    let z = c.requires.3 in (
      omega arith,
      z.classes_whole,
      z.bands_whole,
      lane-none _ _ _ _ _ _ 0 (omega arith) z,
      lane-none _ _ _ _ _ _ 1 (omega arith) z,
      lane-none _ _ _ _ _ _ 2 (omega arith) z,
      lane-none _ _ _ _ _ _ 3 (omega arith) z,
    )

pub lane_row-a-requires : goal.lane_row-a-requires
lane_row-a-requires c = (c.requires.0.0, omega (arith, c.requires.1))

pub lane_row-b-requires : goal.lane_row-b-requires
lane_row-b-requires c = (c.requires.0.0, omega (arith, c.requires.1))

pub lane_row-c-requires : goal.lane_row-c-requires
lane_row-c-requires c = (c.requires.0.0, omega (arith, c.requires.1))

pub lane_row-d-requires : goal.lane_row-d-requires
lane_row-d-requires c = (c.requires.0.0, omega (arith, c.requires.1))

pub add_row-requires : goal.add_row-requires
add_row-requires c =
    let m = c.args.magnitudes.now in
    let z = c.args.zeros.now in
    let w = c.requires.0 in
    let o = c.requires.1 in (
      (
        rw c.lane_row-a.ensures (lane-fine m z c.args.rows _ _ w.0 w.1 w.2 (omega (arith, o))),
        rw c.lane_row-b.ensures (lane-fine m z c.args.rows _ _ w.0 w.1 w.2 (omega (arith, o))),
        rw c.lane_row-c.ensures (lane-fine m z c.args.rows _ _ w.0 w.1 w.2 (omega (arith, o))),
        rw c.lane_row-d.ensures (lane-fine m z c.args.rows _ _ w.0 w.1 w.2 (omega (arith, o))),
      ),
      c.requires.2,
      c.loop-r.invariant.1,
      c.loop-r.invariant.2,
    )

pub loop-r-preserved : goal.loop-r-preserved
loop-r-preserved c =
    let m = c.args.magnitudes.now in
    let z = c.args.zeros.now in
    let codes = c.args.codes.now in
    let w = c.requires.0 in
    let i = c.loop-r.invariant in
    let r = c.loop-r.r in
    let e = c.add_row.ensures in (
      omega arith,
      e.classes_whole,
      e.bands_whole,
      lane-more codes m z w.1 w.2 c.args.p0 c.args.p1 r (rw c.lane_row-a.ensures at e.first) i.3,
      lane-more codes m z w.1 w.2 c.args.p1 c.args.p2 r (rw c.lane_row-b.ensures at e.second) i.4,
      lane-more codes m z w.1 w.2 c.args.p2 c.args.p3 r (rw c.lane_row-c.ensures at e.third) i.5,
      lane-more codes m z w.1 w.2 c.args.p3 c.args.p4 r (rw c.lane_row-d.ensures at e.fourth) i.6,
    )

pub shape_of-classes : goal.shape_of-classes
shape_of-classes c = c.loop-r.invariant.1 ∙ sym c.requires.3.classes_whole

pub shape_of-bands : goal.shape_of-bands
shape_of-bands c = c.loop-r.invariant.2 ∙ sym c.requires.3.bands_whole

pub returns : goal.returns
returns c =
    let i = c.loop-r.invariant in
    let r = c.loop-r.r in
    let e = c.most_rows-most.ensures in
    record {
      classes_whole = i.1;
      bands_whole = i.2;
      first = lane-all _ _ r (omega arith) i.3;
      second = lane-all _ _ r (omega arith) i.4;
      third = lane-all _ _ r (omega arith) i.5;
      fourth = lane-all _ _ r (omega arith) i.6;
    }

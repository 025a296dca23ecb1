-- `median::choice::part_of` meets its contract: nothing lies before the first side, and each entry before what is past the last. Assumes nothing.
use Prim.Native.Nat.{zero-le}
use mathlib.Core.Path.{◌≡◌, sym, subst}
use native.Mathlib.Omega.{arith}
use lib.ListN.{length, take}
use lib.Seq.{length-take-le}
use lib.Dec.{T}
use lib.Ieee.{binary64, fits}
use Rattle.median.specs.Choice.{side_from, side_to, past_key}
use Rattle.median.proofs.Choosing.{fit-take, below-zero, below-past, below_length}
use Rattle.median.proofs.choice.part_of.Goals.{Start}
use Rattle.median.proofs.choice.part_of.Goals as goal

low_fits : (c : Start) → T (fits binary64 c.args.low)
low_fits c = subst T (sym c.well_formed.1.1.1.0.1) tt

high_fits : (c : Start) → T (fits binary64 c.args.high)
high_fits c = subst T (sym c.well_formed.1.1.1.1.0.1) tt

pub returns-then-rank-c : goal.returns-then-rank-c
unfolding side_from side_to
returns-then-rank-c c =
    let n = c.counted-counts.ensures in
    record {
      low_fits = low_fits (goal.at.returns-then-rank-c c).Start;
      high_fits = high_fits (goal.at.returns-then-rank-c c).Start;
      starts = below-zero _;
      ends = omega (arith, n);
      first = zero-le;
      last = omega arith;
    }

pub returns-then-rank-d : goal.returns-then-rank-d
unfolding side_from side_to
returns-then-rank-d c =
    let n = c.counted-counts.ensures in
    record {
      low_fits = low_fits (goal.at.returns-then-rank-d c).Start;
      high_fits = high_fits (goal.at.returns-then-rank-d c).Start;
      starts = sym n.0;
      ends = omega (arith, n);
      first = omega arith;
      last = omega arith;
    }

pub returns : goal.returns
unfolding side_from side_to
returns c =
    let n = c.counted-counts.ensures in
    let m = c.args.m in
    let xs = take m c.args.a.now in
    let l : length xs ≡ m = length-take-le m c.args.a.now c.requires.0 in
    let all = below-past xs (fit-take m c.args.a.now (λ k. c.shared_slice_known-1.given k)) in
    let most = below_length (past_key c.args.high) xs in
    record {
      low_fits = low_fits (goal.at.returns c).Start;
      high_fits = high_fits (goal.at.returns c).Start;
      starts = sym n.1;
      ends = omega (arith, n, all, most, l);
      first = omega arith;
      last = omega (arith, c.requires);
    }

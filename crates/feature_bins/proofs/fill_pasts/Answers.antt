use native.Mathlib.Omega.{arith}
use Prim.Native.Nat.{◌+◌, ◌-◌}
use mathlib.Core.Path.{◌≡◌}
use Rattle.feature_bins.proofs.Tables.{last-stretch, more-stretch}
use Rattle.feature_bins.proofs.fill_pasts.Goals as goal

pub bounds-pasts : goal.bounds-pasts
bounds-pasts c = omega (arith, c.requires.1)

pub loop-k-init : goal.loop-k-init
loop-k-init c = (omega arith, last-stretch c.args.codes.now c.args.pasts.now c.requires.1)

pub past_at-requires : goal.past_at-requires
past_at-requires c = let e : c.loop-k.k - 1 + 1 ≡ c.loop-k.k = omega arith in
    (omega arith, c.requires.0, rw e c.loop-k.invariant.1)

pub bounds-pasts-k : goal.bounds-pasts-k
bounds-pasts-k c = omega (arith, c.loop-k.invariant.1.whole)

pub loop-k-preserved : goal.loop-k-preserved
loop-k-preserved c = let e : c.loop-k.k - 1 + 1 ≡ c.loop-k.k = omega arith in
    (omega arith, more-stretch c.args.codes.now c.loop-k.pasts (c.loop-k.k - 1) _ (omega arith) (rw e c.loop-k.invariant.1) c.past_at.ensures)

pub returns : goal.returns
returns c = let e : c.loop-k.k ≡ 0 = omega arith in
    rw e at c.loop-k.invariant.1

-- `feature_lanes::put_four` meets its contract: each store leaves the length as it was. Assumes nothing.
use native.Mathlib.Omega.{arith}
use lib.ListN.{length-set}
use Rattle.feature_lanes.proofs.Addends.{four_put}
use Rattle.feature_lanes.proofs.put_four.Goals as goal

pub bounds-s-at-2 : goal.bounds-s-at-2
bounds-s-at-2 c = simp length-set (omega arith)

pub bounds-s-at-3 : goal.bounds-s-at-3
bounds-s-at-3 c = simp length-set (omega arith)

pub bounds-s-at-4 : goal.bounds-s-at-4
bounds-s-at-4 c = simp length-set (omega arith)

pub returns : goal.returns
returns c = four_put c.args.s.now c.args.at c.args.f c.requires

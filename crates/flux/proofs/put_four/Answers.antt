-- `flux::put_four` meets its contract: each store leaves the length as it was. Assumes nothing.
use native.Mathlib.Omega.{arith}
use lib.ListN.{length-set}
use Rattle.flux.proofs.put_four.Goals as goal

pub bounds-out-t-2 : goal.bounds-out-t-2
bounds-out-t-2 c = simp length-set (omega arith)

pub bounds-out-t-3 : goal.bounds-out-t-3
bounds-out-t-3 c = simp length-set (omega arith)

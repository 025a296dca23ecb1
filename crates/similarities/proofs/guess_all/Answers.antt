use native.Mathlib.Omega.{arith}
use lib.ListN.{length-set}
use Rattle.similarities.proofs.guess_all.Goals as goal

pub loop-r-init : goal.loop-r-init
loop-r-init c = (omega arith, c.requires)

pub bounds-squares-r : goal.bounds-squares-r
bounds-squares-r c = c.loop-r-test.true

pub loop-r-preserved : goal.loop-r-preserved
loop-r-preserved c = (omega arith, simp length-set c.loop-r.invariant.1)

pub returns : goal.returns
returns c = c.loop-r.invariant.1

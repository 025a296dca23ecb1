-- `lag_curves::fill_sixteen` meets its contract: the slots of the two calls join. Assumes nothing.
use Prim.Native.Nat.{◌+◌}
use native.Mathlib.Omega.{arith}
use Rattle.lag_curves.specs.Curves.{clarity_from}
use Rattle.lag_curves.proofs.Joins.{joined}
use Rattle.lag_curves.proofs.fill_sixteen.Goals as goal

pub fill_eight-requires-2 : goal.fill_eight-requires-2
fill_eight-requires-2 c = record { from_in_bounds = (omega arith, omega arith, omega arith); below_value = c.requires.low_value.1 }

pub returns : goal.returns
returns c =
    let a = c.args in
    joined (clarity_from a.envelope.now a.mean a.ac0 a.min_lag) a.clarity.now _ _ a.from (a.from + 8) (a.from + 16)
    (a.from + 8 + 8) (omega arith) (omega arith) (omega arith) (omega arith)
    c.fill_eight.ensures c.fill_eight-2.ensures

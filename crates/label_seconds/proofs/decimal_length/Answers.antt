use mathlib.Core.Path.{ap}
use native.Mathlib.Omega.{arith}
use lib.ListN.{length}
use Rattle.texts.proofs.Decimals.{decimal-one, decimal_longer}
use Rattle.label_seconds.proofs.decimal_length.Goals as goal

pub loop-m-init : goal.loop-m-init
loop-m-init c = (omega arith, omega arith, omega arith)

pub loop-m-preserved : goal.loop-m-preserved
loop-m-preserved c =
    let e = decimal_longer c.loop-m.m (omega arith) in
    (omega arith, omega arith, omega (arith, c.loop-m.invariant.2, e))

pub returns : goal.returns
returns c =
    (omega (arith, c.loop-m.invariant.2, ap length (decimal-one c.loop-m.m (omega arith))), omega (arith, c.loop-m.invariant.1))

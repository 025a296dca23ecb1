use mathlib.Core.Path.{◌≡◌}
use Prim.Native.Nat.{◌*◌}
use native.Mathlib.Nat.{not-suc-le-zero}
use native.Mathlib.Omega.{arith}
use Rattle.novelties.proofs.Lanes.{gathered-more}
use Rattle.novelties.proofs.gather.Goals as goal

pub loop-d-init : goal.loop-d-init
loop-d-init c = (omega arith, record { whole = c.requires.1; slots = λ d r h k. absurd (not-suc-le-zero h) })

pub gather_apart-requires : goal.gather_apart-requires
gather_apart-requires c = (omega arith, omega arith, c.loop-d.invariant.1.whole)

pub loop-d-preserved : goal.loop-d-preserved
loop-d-preserved c =
    let a = c.args in
    (omega arith, gathered-more a.similarity.now c.loop-d.near _ (a.row * 17) c.loop-d.d (omega arith) c.loop-d.invariant.1 c.gather_apart.ensures)

pub returns : goal.returns
returns c =
    let a = c.args in
    let e : c.loop-d.d ≡ 16 = omega arith in
    rw e at c.loop-d.invariant.1

use mathlib.Core.Path.{◌≡◌, refl, sym, ap, ◌∙◌}
use Prim.Native.Nat.{◌+◌, ◌<◌}
use native.Mathlib.Omega.{arith}
use lib.ListN.{get_or, length-set}
use lib.Ieee.{Float, nan}
use Rattle.numbers.specs.Rounded.{◌⊗◌, ◌⊘◌}
use Rattle.numbers.specs.Lists.{filled}
use Rattle.numbers.proofs.Tabs.{filled_none}
use Rattle.similarities.specs.Lanes.{lane_quotient}
use Rattle.similarities.proofs.Lanes.{grown_more}
use Rattle.similarities.proofs.divide.Goals.{In-loop-d, Start}
use Rattle.similarities.proofs.divide.Goals as goal

column-in : (c : Start) → c.args.c < 128
column-in c = omega arith

other-in : (c : In-loop-d) → c.args.c + c.loop-d.d < 128
other-in c = omega arith

pub bounds-norms-c : goal.bounds-norms-c
bounds-norms-c c = column-in (goal.at.bounds-norms-c c).Start

pub loop-d-init : goal.loop-d-init
loop-d-init c = (omega arith, c.requires.0, sym (filled_none _ _ _))

pub bounds-sums-d : goal.bounds-sums-d
bounds-sums-d c = c.loop-d-test.true

pub bounds-norms-c-in-loop-d : goal.bounds-norms-c-in-loop-d
bounds-norms-c-in-loop-d c = other-in (goal.at.bounds-norms-c-in-loop-d c).In-loop-d

pub loop-d-preserved : goal.loop-d-preserved
unfolding lane_quotient
loop-d-preserved c =
    let a = c.args in
    let m = c.requires.0 in (
      omega arith,
      simp length-set c.loop-d.invariant.1,
      rw c.loop-d.invariant.2
          (grown_more (lane_quotient a.sums.now a.norms.now a.c) a.sums.now 0 c.loop-d.d nan
          (λ (y : Float). y ⊘ (get_or a.norms.now a.c nan ⊗ get_or a.norms.now (a.c + c.loop-d.d) nan)) (omega arith) (omega arith) refl),
    )

pub returns : goal.returns
returns c =
    let a = c.args in
    let e : c.loop-d.d ≡ 17 = omega arith in
    c.loop-d.invariant.2 ∙ ap (filled (lane_quotient a.sums.now a.norms.now a.c) a.sums.now 0) e

use mathlib.Core.Path.{◌≡◌, sym, ap, ◌∙◌}
use native.Mathlib.Omega.{arith}
use lib.ListN.{length-set}
use lib.Ieee.{nan}
use Rattle.numbers.specs.Lists.{filled}
use Rattle.numbers.proofs.Tabs.{filled_none, filled_more}
use Rattle.similarities.specs.Lanes.{root_at}
use Rattle.similarities.proofs.root_all.Goals as goal

pub loop-r-init : goal.loop-r-init
loop-r-init c = (omega arith, c.requires, sym (filled_none _ _ _))

pub bounds-squares-r : goal.bounds-squares-r
bounds-squares-r c = c.loop-r-test.true

pub bounds-guesses-r : goal.bounds-guesses-r
bounds-guesses-r c = c.loop-r-test.true

pub loop-r-preserved : goal.loop-r-preserved
unfolding root_at
loop-r-preserved c =
    let a = c.args in
    let m = c.requires in (
      omega arith,
      simp length-set c.loop-r.invariant.1,
      rw (c.loop-r.invariant.2, c.sqrt_from.ensures) (filled_more (root_at a.squares.now) a.norms.now 0 c.loop-r.r (omega arith) nan (omega arith)),
    )

pub returns : goal.returns
returns c =
    let a = c.args in
    let e : c.loop-r.r ≡ 128 = omega arith in
    c.loop-r.invariant.2 ∙ ap (filled (root_at a.squares.now) a.norms.now 0) e

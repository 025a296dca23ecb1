use mathlib.Core.Path.{◌≡◌, sym, ap, ◌∙◌}
use Prim.Native.Nat.{◌+◌}
use native.Mathlib.Omega.{arith}
use lib.ListN.{length, length-set}
use lib.Ieee.{nan}
use Rattle.numbers.specs.Lists.{filled}
use Rattle.numbers.proofs.Overs.{length-row}
use Rattle.numbers.proofs.Tabs.{filled_none, filled_more}
use Rattle.similarities.specs.Lanes.{square_at}
use Rattle.similarities.proofs.square_rows.Goals as goal

pub loop-r-init : goal.loop-r-init
loop-r-init c = (omega arith, c.requires.3, sym (filled_none _ _ _))

pub feature_row-row-requires : goal.feature_row-row-requires
feature_row-row-requires c = (c.requires.0, omega arith)

pub dot-requires : goal.dot-requires
dot-requires c =
    let a = c.args in
    let e = ap length c.feature_row-row.ensures ∙ length-row a.features.now a.rows 16 (a.first + c.loop-r.r) c.requires.0 (omega arith) in
    (e, e)

pub loop-r-preserved : goal.loop-r-preserved
unfolding square_at
loop-r-preserved c =
    let a = c.args in
    let m = c.requires.3 in (
      omega arith,
      simp length-set c.loop-r.invariant.1,
      rw (c.loop-r.invariant.2, c.dot.ensures, c.feature_row-row.ensures)
          (filled_more (square_at a.features.now a.first) a.squares.now 0 c.loop-r.r (omega arith) nan (omega arith)),
    )

pub returns : goal.returns
returns c =
    let a = c.args in
    let e : c.loop-r.r ≡ a.count = omega arith in
    c.loop-r.invariant.2 ∙ ap (filled (square_at a.features.now a.first) a.squares.now 0) e

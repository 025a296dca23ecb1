use mathlib.Core.Path.{refl}
use native.Mathlib.Omega.{arith}
use Rattle.onsets.proofs.Steps.{picking_start, picking_step, picking_end}
use Rattle.onsets.proofs.peaks.pick_by.Goals as goal

pub loop-t-init : goal.loop-t-init
loop-t-init g c = (c.saturating_sub-last.ensures, picking_start _ _ _ _ _ refl refl)

pub visit-group-requires : goal.visit-group-requires
visit-group-requires g c =
    let p = c.loop-t.invariant.1 in
    (c.requires.lengths.0, p.from, omega arith, omega (arith, p.best_at), omega (arith, p.counted))

pub loop-t-preserved : goal.loop-t-preserved
loop-t-preserved g c =
    (c.loop-t.invariant.0, picking_step _ _ _ _ c.level.ensures (omega arith) c.visit-group.auto.frames c.visit-group.ensures c.loop-t.invariant.1)

pub close-requires : goal.close-requires
close-requires g c =
    let p = c.loop-t.invariant.1 in
    (omega (arith, p.best_at, p.past), omega arith)

pub returns : goal.returns
returns g c rule r =
    c.close.ensures.ends _ _ _ _ (picking_end _ _ _ (omega arith) c.loop-t.invariant.1 rule r)

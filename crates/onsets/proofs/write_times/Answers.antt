use mathlib.Core.Path.{◌≡◌, refl, sym, ap, ◌∙◌}
use Prim.Native.Nat.{ℕ}
use native.Mathlib.Omega.{arith}
use lib.Ieee.{nan}
use lib.ListN.{length, get_or, length-set}
use Rattle.numbers.proofs.Tabs.{filled_none, filled_more}
use Rattle.numbers.specs.Lists.{filled}
use Rattle.onsets.specs.Onsets.{frame_time}
use Rattle.onsets.proofs.Onsets.{filled-map}
use Rattle.onsets.proofs.write_times.Goals as goal

pub loop-i-init : goal.loop-i-init
loop-i-init c = (omega arith, refl, sym (filled_none _ _ _))

pub loop-i-preserved : goal.loop-i-preserved
loop-i-preserved c = (
  omega arith,
  simp length-set c.loop-i.invariant.1,
  rw (c.loop-i.invariant.2, c.frame_time.ensures) (filled_more _ _ _ _ (omega arith) nan (omega arith)),
)

pub returns : goal.returns
returns c =
    let g = c.args in
    let e : c.loop-i.i ≡ length g.frames.now = omega arith in
    c.loop-i.invariant.2 ∙ ap (filled (λ (k : ℕ). frame_time g.rate (get_or g.frames.now k 0)) g.ms.now 0) e
    ∙ filled-map (frame_time g.rate) g.frames.now 0 g.ms.now

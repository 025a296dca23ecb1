use mathlib.Core.Path.{◌≡◌, refl, sym, ap, ◌∙◌}
use Prim.Native.Nat.{◌*◌}
use native.Mathlib.Omega.{arith}
use lib.ListN.{length-set}
use Rattle.numbers.proofs.Tabs.{filled_none}
use Rattle.numbers.specs.Lists.{filled}
use Rattle.patch_features.specs.Features.{mended_at}
use Rattle.patch_features.proofs.Mended.{mended-more}
use Rattle.patch_features.proofs.mend_before.Goals as goal

pub loop-k-init : goal.loop-k-init
loop-k-init c = (omega arith, omega arith, refl, sym (filled_none _ _ _))

pub mended_slot-requires : goal.mended_slot-requires
mended_slot-requires c = (c.requires.0, omega arith)

pub loop-k-preserved : goal.loop-k-preserved
loop-k-preserved c =
    let v = c.loop-k.invariant in
    (omega arith, omega arith, simp length-set v.2, mended-more _ _ _ _ _ _ _ _ _ (omega arith) (omega arith) v.3 c.mended_slot.ensures)

pub returns : goal.returns
returns c =
    let g = c.args in
    let e : c.loop-k.k ≡ g.start * 17 = omega arith in
    c.loop-k.invariant.3 ∙ ap (filled (mended_at g.features.now g.rows g.start g.past g.similarity.now) g.similarity.now g.from) e

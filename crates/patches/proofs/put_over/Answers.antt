use mathlib.Core.Path.{◌≡◌, refl, ap, ◌∙◌}
use native.Mathlib.Numerals.{add-one}
use native.Mathlib.Omega.{arith}
use Prim.Native.Nat.{◌+◌}
use lib.ListN.{length, set, length-set}
use lib.Seq.{paste, paste-zero, paste-suc}
use Rattle.numbers.specs.Lists.{over}
use Rattle.patches.proofs.put_over.Goals as goal

pub loop-j-init : goal.loop-j-init
loop-j-init g c = (refl, paste-zero c.args.old.now c.args.at c.args.new.now)

pub loop-j-preserved : goal.loop-j-preserved
loop-j-preserved g c = let a = c.args in
    let j = c.loop-j.j in
    let x = c.index-new-j.result in (
      simp length-set c.loop-j.invariant.0,
      ap (set c.loop-j.old (a.at + j)) c.index-new-j.is
          ∙ rw (c.loop-j.invariant.1, add-one j) (paste-suc a.old.now a.at a.new.now j x (omega arith) (omega arith)),
    )

pub returns : goal.returns
unfolding over
returns g c = let a = c.args in
    let e : c.loop-j.j ≡ length a.new.now = omega arith in
    c.loop-j.invariant.1 ∙ ap (paste a.old.now a.at a.new.now) e

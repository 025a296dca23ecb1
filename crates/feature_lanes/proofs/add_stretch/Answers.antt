use native.Mathlib.Omega.{arith}
use Prim.Native.Nat.{◌≤◌, ◌<◌}
use mathlib.Core.Path.{refl, sym, ◌∙◌}
use Rattle.numbers.specs.Rounded.{squared}
use Rattle.feature_lanes.specs.Addends.{itself}
use Rattle.feature_lanes.proofs.Addends.{stretch-more, stretch_end}
use Rattle.feature_lanes.proofs.add_stretch.Goals as goal

pub loop-k-init : goal.loop-k-init
loop-k-init c = (omega arith, omega arith, refl, refl, refl, refl, refl, refl, refl, refl)

pub wide-x-requires : goal.wide-x-requires
wide-x-requires c =
    (omega (arith, c.requires.1.0), c.requires.2.0)

pub wide-y-requires : goal.wide-y-requires
wide-y-requires c =
    (omega (arith, c.requires.1.1), c.requires.2.1)

pub wide-z-requires : goal.wide-z-requires
wide-z-requires c =
    (omega (arith, c.requires.1.2), c.requires.2.2)

pub wide-w-requires : goal.wide-w-requires
wide-w-requires c =
    (omega (arith, c.requires.1.3), c.requires.2.3)

pub loop-k-preserved : goal.loop-k-preserved
loop-k-preserved c =
    let inv = c.loop-k.invariant in
    let k = c.loop-k.k in
    let h : k < c.args.past = omega arith in (
      omega arith,
      omega arith,
      stretch-more itself c.args.a.now k _ _ _ _ h c.wide-x.ensures inv.2,
      stretch-more itself c.args.b.now k _ _ _ _ h c.wide-y.ensures inv.3,
      stretch-more itself c.args.c.now k _ _ _ _ h c.wide-z.ensures inv.4,
      stretch-more itself c.args.d.now k _ _ _ _ h c.wide-w.ensures inv.5,
      stretch-more squared c.args.a.now k _ _ _ _ h c.wide-x.ensures inv.6,
      stretch-more squared c.args.b.now k _ _ _ _ h c.wide-y.ensures inv.7,
      stretch-more squared c.args.c.now k _ _ _ _ h c.wide-z.ensures inv.8,
      stretch-more squared c.args.d.now k _ _ _ _ h c.wide-w.ensures inv.9,
    )

pub returns : goal.returns
returns c =
    let inv = c.loop-k.invariant in
    let k = c.loop-k.k in
    let p = c.args.past in
    let h : p ≤ k = omega arith in (
      (
        sym (stretch_end itself c.args.a.now k p _ h) ∙ inv.2,
        sym (stretch_end itself c.args.b.now k p _ h) ∙ inv.3,
        sym (stretch_end itself c.args.c.now k p _ h) ∙ inv.4,
        sym (stretch_end itself c.args.d.now k p _ h) ∙ inv.5,
      ),
      (
        sym (stretch_end squared c.args.a.now k p _ h) ∙ inv.6,
        sym (stretch_end squared c.args.b.now k p _ h) ∙ inv.7,
        sym (stretch_end squared c.args.c.now k p _ h) ∙ inv.8,
        sym (stretch_end squared c.args.d.now k p _ h) ∙ inv.9,
      ),
    )

use native.Mathlib.Omega.{arith}
use Prim.Native.Nat.{ℕ, ◌+◌, ◌*◌, min}
use mathlib.Core.List.{List}
use lib.Ieee.{Float, nan}
use Rattle.numbers.proofs.Tabs.{filled_none, filled_join, length-filled}
use mathlib.Core.Path.{◌≡◌, refl, sym, ap, ◌∙◌}
use lib.ListN.{length}
use Rattle.numbers.specs.Lists.{filled}
use Rattle.features.specs.Features.{feature_at}
use Rattle.features.proofs.Groups.{split_start, ready_with, zero_row}
use Rattle.features.proofs.fill_features.Goals as goal

pub loop-i-init : goal.loop-i-init
loop-i-init c =
    let z : min 0 c.args.grid.count ≡ 0 = omega arith in
    (omega arith, refl, split_start _ _, rw z (sym (filled_none _ _ _)))

pub fill_group-t-requires : goal.fill_group-t-requires
fill_group-t-requires c =
    let w = c.loop-i.invariant in
    (ready_with c.requires.0 w.1, zero_row, c.requires.1, c.requires.2, omega arith, w.2)

pub loop-i-preserved : goal.loop-i-preserved
loop-i-preserved c =
    let w = c.loop-i.invariant in
    let e = c.fill_group-t.ensures in
    let i = c.loop-i.i in
    let n = c.args.grid.count in
    let r = c.requires.0.room in
    let rule = feature_at c.args.magnitudes.now c.args.rows c.args.samples.now c.args.grid in
    let h : min i n ≡ i = omega arith in
    let x = c.loop-i.features in
    let y = c.args.features.now in
    let z : x ≡ filled rule y 0 (i * 16) = w.3 ∙ ap (λ (k : ℕ). filled rule y 0 (k * 16)) h in (
      omega arith,
      ap length e.1 ∙ length-filled rule x (i * 16) (min (i + 4) n * 16) (omega arith) (omega (arith, w.1)) ∙ w.1,
      e.0,
      e.1
          ∙ ap (λ (xs : List Float). filled rule xs (i * 16) (min (i + 4) n * 16)) z
          ∙ filled_join rule y 0 (i * 16) (min (i + 4) n * 16) (omega arith) (omega arith) nan (omega arith),
    )

pub shape_of-features : goal.shape_of-features
shape_of-features c = c.loop-i.invariant.1

pub returns : goal.returns
returns c =
    let e : min c.loop-i.i c.args.grid.count ≡ c.args.grid.count = omega arith in
    c.loop-i.invariant.3
    ∙ ap (λ (k : ℕ). filled (feature_at c.args.magnitudes.now c.args.rows c.args.samples.now c.args.grid) c.args.features.now 0
    (k * 16)) e

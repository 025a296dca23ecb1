use Prim.Native.Nat.{◌-◌}
use mathlib.Core.Path.{◌≡◌, refl, ◌∙◌, ap}
use mathlib.Core.List.{List}
use native.Mathlib.Nat.{le_refl}
use native.Mathlib.Omega.{arith}
use lib.ListN.{get_or, take}
use lib.Seq.{take-length}
use lib.Ieee.{Float, nan}
use Rattle.median.specs.Median.{sort}
use Rattle.median.proofs.Choosing.{kept_is_sort}
use Rattle.median.proofs.choice.select.Goals.{After-keep-m}
use Rattle.median.proofs.choice.select.Goals as goal

-- what is kept: as many entries as the side has, and among them the one that is looked for
narrowed : (c : After-keep-m) →
    (c.keep-m.result ≡ c.part_of-part.result.size)
    × (get_or (sort (take c.keep-m.result c.keep-m.new.a))
    (c.loop-m.rank - c.part_of-part.result.before) nan
    ≡ get_or (sort (take c.loop-m.m c.loop-m.a))
    c.loop-m.rank nan)
narrowed c =
    let v = c.loop-m.invariant in
    kept_is_sort _ _ c.part_of-part.result.side c.loop-m.m c.loop-m.a c.loop-m.rank
    c.part_of-part.result.before c.part_of-part.result.size c.keep-m.result c.keep-m.new.a v.5 v.0
    c.part_of-part.ensures c.keep-m.ensures

pub loop-m-init : goal.loop-m-init
loop-m-init c =
    let xs = c.args.a.now in (
      le_refl _,
      refl,
      c.requires,
      omega arith,
      ap (λ (zs : List Float). get_or (sort zs) c.args.h nan) (take-length xs),
      λ k. c.slice_known-1.given k,
    )

pub fence_of-fence-requires : goal.fence_of-fence-requires
fence_of-fence-requires c = let v = c.loop-m.invariant in (c.loop-m-test.true, v.0, v.2, v.3)

pub part_of-part-requires : goal.part_of-part-requires
part_of-part-requires c = let v = c.loop-m.invariant in (v.0, v.2)

pub settled-requires : goal.settled-requires
settled-requires c = let v = c.loop-m.invariant in (v.0, v.2)

pub shape_of-a-then-low-high : goal.shape_of-a-then-low-high
shape_of-a-then-low-high c =
    c.settled.auto.a ∙ c.loop-m.invariant.1

pub returns-then-low-high : goal.returns-then-low-high
returns-then-low-high c =
    c.settled.ensures ∙ c.loop-m.invariant.4

pub keep-m-requires : goal.keep-m-requires
keep-m-requires c = c.loop-m.invariant.0

pub overflow_sub-rank : goal.overflow_sub-rank
overflow_sub-rank c = omega (arith, c.part_of-part.ensures.first)

pub loop-m-smaller-then-part-m : goal.loop-m-smaller-then-part-m
loop-m-smaller-then-part-m c = omega (arith, (narrowed (goal.at.loop-m-smaller-then-part-m c).After-keep-m).0, c.if-part-m.true)

pub loop-m-preserved-then-part-m : goal.loop-m-preserved-then-part-m
loop-m-preserved-then-part-m c =
    let v = c.loop-m.invariant in
    let k = c.keep-m.ensures in
    let p = c.part_of-part.ensures in
    let w = narrowed (goal.at.loop-m-preserved-then-part-m c).After-keep-m in (
      omega (arith, v.0, k.room, k.fewer),
      k.room ∙ v.1,
      omega (arith, w.0, p.first, p.last),
      omega arith,
      w.1 ∙ v.4,
      λ j. c.slice_known-then-part-m-1.given j,
    )

pub by_halves-guess-requires : goal.by_halves-guess-requires
by_halves-guess-requires c = c.loop-m.invariant.0

pub settled-requires-then-apart-eq0 : goal.settled-requires-then-apart-eq0
settled-requires-then-apart-eq0 c = let v = c.loop-m.invariant in (v.0, v.2)

pub shape_of-a-then-apart-eq0 : goal.shape_of-a-then-apart-eq0
shape_of-a-then-apart-eq0 c =
    c.settled-then-apart-eq0.auto.a ∙ c.loop-m.invariant.1

pub returns-then-apart-eq0 : goal.returns-then-apart-eq0
returns-then-apart-eq0 c =
    c.settled-then-apart-eq0.ensures ∙ c.loop-m.invariant.4

pub loop-m-smaller : goal.loop-m-smaller
loop-m-smaller c = omega (arith, c.if-apart-eq0.false)

pub loop-m-preserved : goal.loop-m-preserved
loop-m-preserved c =
    let v = c.loop-m.invariant in (v.0, v.1, v.2, omega arith, v.4, v.5)

pub near_rank-guess-requires : goal.near_rank-guess-requires
near_rank-guess-requires c = c.loop-m.invariant.0

pub settled-requires-2 : goal.settled-requires-2
settled-requires-2 c = let v = c.loop-m.invariant in (v.0, v.2)

pub shape_of-a : goal.shape_of-a
shape_of-a c =
    c.settled-2.auto.a ∙ c.loop-m.invariant.1

pub returns : goal.returns
returns c =
    c.settled-2.ensures ∙ c.loop-m.invariant.4

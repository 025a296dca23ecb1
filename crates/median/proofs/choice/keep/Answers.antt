use Prim.Native.Nat.{◌<◌}
use mathlib.Core.Path.{◌≡◌, ◌∙◌, sym, ap}
use native.Mathlib.Omega.{arith}
use lib.ListN.{length, take}
use Rattle.median.specs.Choice.{passing, on_side}
use Rattle.median.proofs.Choosing.{keeping_start, keeping_in, keeping_out}
use Rattle.median.proofs.choice.keep.Goals.{else-on_side, then-on_side}
use Rattle.median.proofs.choice.keep.Goals as goal

pub loop-i-init : goal.loop-i-init
loop-i-init c = (keeping_start _ _, omega arith)

pub offset_bounds-a-i : goal.offset_bounds-a-i
offset_bounds-a-i c = omega (arith, c.loop-i.invariant.0.room)

pub bounds-a-i : goal.bounds-a-i
bounds-a-i c = omega (arith, c.loop-i.invariant.0.room)

pub offset_bounds-a-n : goal.offset_bounds-a-n
offset_bounds-a-n c = omega (arith, c.loop-i.invariant.0.room, c.loop-i.invariant.0.fewer)

pub bounds-a-n : goal.bounds-a-n
bounds-a-n c = omega (arith, c.loop-i.invariant.0.room, c.loop-i.invariant.0.fewer)

pub on_side-requires : goal.on_side-requires
on_side-requires c = tt

pub overflow_add-n : goal.overflow_add-n
overflow_add-n c = omega (arith, c.loop-i.invariant.0.fewer)

pub loop-i-preserved : goal.loop-i-preserved
loop-i-preserved c = let v = c.loop-i.invariant in
    let l : c.loop-i.i < length c.args.a.now = omega (arith, c.requires) in
    elim c.if-on_side.branch [ then-on_side w ↦ rw w.n-is (keeping_in v.0 l (sym c.on_side.ensures ∙ w.if-on_side.true), omega arith) | else-on_side w ↦ rw w.n-is (keeping_out v.0 l (sym c.on_side.ensures ∙ w.if-on_side.false), omega arith) ]

pub shape_of-a : goal.shape_of-a
shape_of-a c = c.loop-i.invariant.0.room

pub returns : goal.returns
returns c = let v = c.loop-i.invariant.0 in
    let e : c.loop-i.i ≡ c.args.m = omega arith in
    record {
      room = v.room;
      fewer = omega (arith, v.fewer);
      front = v.front ∙ ap (λ i. passing (on_side c.args.side c.args.low c.args.high) (take i c.args.a.now)) e;
    }

use mathlib.Core.Path.{◌∙◌, sym}
use Prim.Native.Nat.{◌+◌, ◌*◌}
use native.Mathlib.Omega.{arith}
use borrow.Author.Rules.{rules}
use Rattle.flux.proofs.Fluxes.{rest_all, rest_more}
use Rattle.flux.proofs.flux_four.Goals as goal

pub part_room-a-requires : goal.part_room-a-requires
part_room-a-requires c = tt

pub part_room-b-requires : goal.part_room-b-requires
part_room-b-requires c = tt

pub part_room-c-requires : goal.part_room-c-requires
part_room-c-requires c = tt

pub part_room-d-requires : goal.part_room-d-requires
part_room-d-requires c = tt

pub loop-i-init : goal.loop-i-init
loop-i-init c =
    let g = c.args in
    let s = g.m.values.now in
    let n = g.m.slab in
    let t = g.t in
    let p = g.apart in (
      omega arith,
      c.part_room-a.ensures,
      c.part_room-b.ensures,
      c.part_room-c.ensures,
      c.part_room-d.ensures,
      rest_all s n t (omega arith),
      rest_all s n (t + p) (omega arith),
      rest_all s n (t + 2 * p) (omega arith),
      rest_all s n (t + 3 * p) (omega arith),
    )

pub overflow_sub-m : goal.overflow_sub-m
overflow_sub-m c = c.loop-i.invariant.0

pub slice_bounds-rise_part-end : goal.slice_bounds-rise_part-end
slice_bounds-rise_part-end c = sym c.loop-i.invariant.1

pub slice_bounds-rise_part-end-in-loop-i : goal.slice_bounds-rise_part-end-in-loop-i
slice_bounds-rise_part-end-in-loop-i c = sym c.loop-i.invariant.2

pub slice_bounds-rise_part-end-in-loop-i-2 : goal.slice_bounds-rise_part-end-in-loop-i-2
slice_bounds-rise_part-end-in-loop-i-2 c = sym c.loop-i.invariant.3

pub slice_bounds-rise_part-end-in-loop-i-3 : goal.slice_bounds-rise_part-end-in-loop-i-3
slice_bounds-rise_part-end-in-loop-i-3 c = sym c.loop-i.invariant.4

pub rise_part-f-requires : goal.rise_part-f-requires
rise_part-f-requires c =
    let v = c.loop-i.invariant in
    record { le_t = (omega arith, omega arith, omega arith); a_len = (v.1, v.2, v.3, v.4) }

pub loop-i-preserved : goal.loop-i-preserved
loop-i-preserved c =
    let g = c.args in
    let s = g.m.values.now in
    let n = g.m.slab in
    let t = g.t in
    let p = g.apart in
    let o = c.args.m.whole in
    let v = c.loop-i.invariant in
    let z = c.rise_part-f.ensures in
    let i = c.loop-i.i in (
      omega arith,
      search rules,
      search rules,
      search rules,
      search rules,
      rest_more s n t i _ _ o (omega arith) (omega arith) (omega arith) z.0 v.5,
      rest_more s n (t + p) i _ _ o (omega arith) (omega arith) (omega arith) z.1 v.6,
      rest_more s n (t + 2 * p) i _ _ o (omega arith) (omega arith) (omega arith) z.2 v.7,
      rest_more s n (t + 3 * p) i _ _ o (omega arith) (omega arith) (omega arith) z.3 v.8,
    )

pub rise_rest-requires : goal.rise_rest-requires
rise_rest-requires c =
    (omega arith, omega arith, c.loop-i.invariant.0)

pub returns : goal.returns
returns c =
    let v = c.loop-i.invariant in
    let f = c.rise_rest.ensures in
    (f.0 ∙ v.5, f.1 ∙ v.6, f.2 ∙ v.7, f.3 ∙ v.8)

use mathlib.Core.Path.{◌≡◌, refl, sym, ap, ◌∙◌}
use mathlib.Core.List.{List, []}
use Prim.Native.Nat.{ℕ}
use native.Mathlib.Omega.{arith}
use lib.ListN.{length, get_or}
use lib.Ieee.{Float, nan}
use Rattle.numbers.specs.Lists.{filled}
use Rattle.numbers.proofs.Tabs.{length-filled, get_or_filled_in}
use Rattle.kernels.specs.Kernel.{kernel_at}
use Rattle.novelties.specs.Lanes.{lane_term, near_term, near_row, lane_row}
use Rattle.kernels.proofs.Weights.{kernel_entry}
use Rattle.novelties.proofs.Terms.{turns_next, turns_end}
use Rattle.similarities.proofs.Lanes.{by_slots}
use Rattle.novelties.proofs.Lanes.{near_below}
use Rattle.novelties.proofs.add_row_lanes.Goals as goal

pub loop-v-init : goal.loop-v-init
unfolding near_row
loop-v-init c = (omega arith, c.requires.2, λ j h. refl)

pub add_lanes-requires : goal.add_lanes-requires
add_lanes-requires c =
    let e = near_below c.args.u c.loop-v.v c.requires.1 (omega arith) in
    (c.loop-v.invariant.1, omega (arith, c.near_slot.ensures))

pub loop-v-preserved : goal.loop-v-preserved
unfolding lane_term near_term
loop-v-preserved c =
    let a = c.args in
    let lanes : List Float = c.loop-v.lanes in
    let near : List Float = a.near.now in
    let u = a.u in
    let v = c.loop-v.v in
    let w : Float = get_or (get_or a.table.now u []) v nan in
    let k : ℕ = c.near_slot.result in
    let w-is : w ≡ kernel_at u v = rw c.requires.0 (kernel_entry u v c.requires.1 (omega arith)) in
    let m : length lanes ≡ 24 = c.loop-v.invariant.1 in
    let e : c.add_lanes.new.lanes ≡ filled (lane_term lanes w near k) lanes 0 24 = c.add_lanes.ensures in (
      omega arith,
      ap length e ∙ length-filled (lane_term lanes w near k) lanes 0 24 (omega arith) (omega arith) ∙ m,
      λ j h.
          let step : get_or c.add_lanes.new.lanes j nan ≡ near_term near j u v (get_or lanes j nan) =
          ap (λ (d : List Float). get_or d j nan) e
          ∙ get_or_filled_in (lane_term lanes w near k) lanes 0 24 (omega arith) (omega arith) j nan (omega arith) h
          ∙ rw (w-is, c.near_slot.ensures) in
          rw step (sym (turns_next (near_term near j u) v 16 (get_or lanes j nan) (omega arith)) ∙ c.loop-v.invariant.2 j h),
    )

pub returns : goal.returns
unfolding lane_row
returns c =
    let a = c.args in
    by_slots (lane_row a.lanes.now a.near.now a.u) c.loop-v.lanes a.lanes.now 24 nan c.loop-v.invariant.1 c.requires.2
    (λ j h. sym (turns_end (near_term a.near.now j a.u) c.loop-v.v 16 (get_or c.loop-v.lanes j nan) (omega arith)) ∙ c.loop-v.invariant.2 j h)

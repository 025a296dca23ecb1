use mathlib.Core.Path.{◌≡◌, refl, sym, ap, ◌∙◌}
use mathlib.Core.List.{List}
use Prim.Native.Nat.{ℕ}
use native.Mathlib.Omega.{arith}
use lib.ListN.{length, get_or, get_or-replicate}
use lib.Ieee.{Float, nan}
use Rattle.numbers.specs.Rounded.{nought}
use Rattle.numbers.specs.Lists.{filled}
use Rattle.numbers.proofs.Tabs.{length-filled, get_or_filled_in}
use Rattle.novelties.specs.Novelty.{turns}
use Rattle.novelties.specs.Lanes.{near_row, lane_row, lane_whole}
use Rattle.novelties.proofs.Terms.{turns_next, turns_end}
use Rattle.novelties.proofs.block_slots.Goals as goal

pub loop-u-init : goal.loop-u-init
unfolding lane_whole
loop-u-init c =
    let a = c.args in
    (omega arith, refl, λ j h. ap (turns (near_row a.near.now j) 0 16) (get_or-replicate 24 j nought nan h))

pub add_row_lanes-requires : goal.add_row_lanes-requires
add_row_lanes-requires c =
    (c.requires, omega arith, c.loop-u.invariant.1)

pub loop-u-preserved : goal.loop-u-preserved
unfolding lane_row
loop-u-preserved c =
    let a = c.args in
    let lanes : List Float = c.loop-u.lanes in
    let near : List Float = a.near.now in
    let u = c.loop-u.u in
    let f : ℕ → Float = lane_row lanes near u in
    let next : List Float = c.add_row_lanes.new.lanes in
    let m : length lanes ≡ 24 = c.loop-u.invariant.1 in
    let e : next ≡ filled f lanes 0 24 = c.add_row_lanes.ensures in (
      omega arith,
      ap length e ∙ length-filled f lanes 0 24 (omega arith) (omega arith) ∙ m,
      λ j h.
          let step : get_or next j nan ≡ near_row near j u (get_or lanes j nan) =
          ap (λ (d : List Float). get_or d j nan) e ∙ get_or_filled_in f lanes 0 24 (omega arith) (omega arith) j nan (omega arith) h in
          rw step (sym (turns_next (near_row near j) u 16 (get_or lanes j nan) (omega arith)) ∙ c.loop-u.invariant.2 j h),
    )

pub returns : goal.returns
returns c =
    let a = c.args in
    λ j h. sym (turns_end (near_row a.near.now j) c.loop-u.u 16 (get_or c.loop-u.lanes j nan) (omega arith)) ∙ c.loop-u.invariant.2 j h

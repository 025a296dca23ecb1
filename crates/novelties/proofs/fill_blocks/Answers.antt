use mathlib.Core.Path.{◌≡◌, refl, sym, ap, ◌∙◌}
use mathlib.Core.List.{List}
use Prim.Native.Nat.{ℕ, ◌+◌, ◌-◌, ◌*◌, ◌≤◌, ◌<◌}
use native.Mathlib.Omega.{arith}
use lib.ListN.{length, length-replicate}
use lib.Ieee.{Float}
use Rattle.numbers.specs.Lists.{filled}
use Rattle.numbers.specs.Rounded.{nought}
use Rattle.numbers.proofs.Tabs.{filled_none, length-filled}
use Rattle.kernels.specs.Kernel.{places, middle}
use Rattle.row_pairs.specs.Pairs.{band_width}
use Rattle.novelties.specs.Novelty.{novelty_at}
use Rattle.novelties.specs.Lanes.{span, Gathered, lane_from}
use Rattle.novelties.proofs.Lanes.{lanes_join, lane-novelty}
use Rattle.novelties.proofs.fill_blocks.Goals.{After-min-end}
use Rattle.novelties.proofs.fill_blocks.Goals as goal

-- the block from row `first` on, of which the slots from i up to `end` are written
record Block (rows past i first end : ℕ) : Type 0 where
  low : 8 ≤ first
  high : first + 31 ≤ rows
  begun : first ≤ i
  more : i < end
  over : end ≤ first + 24
  most : end ≤ past

block : (c : After-min-end)
    → let a = c.args in
    Block a.rows a.past c.loop-i.i c.min-first.result c.min-end.result
block c =
    let e = c.min-first.ensures in
    let m = c.min-end.ensures in
    record { low = omega arith; high = omega arith; begun = omega arith; more = omega arith; over = omega arith; most = omega arith }

rows_in : (rows first slots : ℕ) → middle ≤ first → first + 31 ≤ rows → slots ≡ rows * band_width
    → (first - middle) * band_width + (places - 1) + band_width * (span - 1) < slots
rows_in rows first slots h k e = omega arith

falls : (past i end : ℕ) → i < end → end ≤ past → past - end < past - i
falls past i end h k = omega arith

pub loop-i-init : goal.loop-i-init
loop-i-init c = (omega arith, omega arith, refl, sym (filled_none _ _ _), length-replicate 640 nought)

pub overflow_add-first : goal.overflow_add-first
overflow_add-first c = let e = c.min-first.ensures in omega arith

pub overflow_sub-first : goal.overflow_sub-first
overflow_sub-first c = (block (goal.at.overflow_sub-first c).After-min-end).low

pub gather-requires : goal.gather-requires
gather-requires c =
    let b = block (goal.at.gather-requires c).After-min-end in
    (rows_in _ _ _ b.low b.high c.requires.1, c.loop-i.invariant.4)

pub block_slots-values-requires : goal.block_slots-values-requires
block_slots-values-requires c = c.requires.0

pub put_part-requires : goal.put_part-requires
put_part-requires c =
    let b = block (goal.at.put_part-requires c).After-min-end in
    let l = c.loop-i.invariant.2 in
    (b.begun, omega arith, b.over, omega arith)

pub loop-i-smaller : goal.loop-i-smaller
loop-i-smaller c =
    let b = block (goal.at.loop-i-smaller c).After-min-end in
    falls _ _ _ b.more b.most

pub loop-i-preserved : goal.loop-i-preserved
loop-i-preserved c =
    let b = block (goal.at.loop-i-preserved c).After-min-end in
    let a = c.args in
    let i = c.loop-i.i in
    let first : ℕ = c.min-first.result in
    let end : ℕ = c.min-end.result in
    let f : ℕ → Float = novelty_at a.similarity.now a.rows in
    let values : List Float = c.block_slots-values.result in
    let was : List Float = c.loop-i.novelty in
    let near : List Float = c.gather.new.near in
    let k : Gathered a.similarity.now ((first - 8) * 17) 16 near = c.gather.ensures in
    let e : c.put_part.new.novelty ≡ filled (lane_from values first) was i end = c.put_part.ensures in
    let m : length was ≡ length a.novelty.now = c.loop-i.invariant.2 in (
      omega arith,
      omega arith,
      ap length e ∙ length-filled (lane_from values first) was i end (omega arith) (omega arith) ∙ m,
      e ∙ ap (λ (d : List Float). filled (lane_from values first) d i end) c.loop-i.invariant.3
          ∙ lanes_join f values a.novelty.now a.from first i end c.loop-i.invariant.0 b.begun (omega arith) b.over (omega arith)
          (λ j h. c.block_slots-values.ensures j h ∙ lane-novelty a.similarity.now near a.rows first j b.low b.high h k),
      k.whole,
    )

pub shape_of-novelty : goal.shape_of-novelty
shape_of-novelty c = c.loop-i.invariant.2

pub returns : goal.returns
returns c =
    let a = c.args in
    let e : c.loop-i.i ≡ a.past = omega arith in
    c.loop-i.invariant.3 ∙ ap (filled (novelty_at a.similarity.now a.rows) a.novelty.now a.from) e

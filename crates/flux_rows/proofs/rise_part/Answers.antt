-- `flux_rows::rise_part` meets its contract: each part holds the rises of its two rows. Assumes nothing.
use mathlib.Core.Path.{◌≡◌, sym, ap, ◌∙◌}
use mathlib.Core.List.{List}
use Prim.Native.Nat.{ℕ}
use native.Mathlib.Omega.{arith}
use lib.Ieee.{Float}
use lib.ListN.{length}
use Rattle.numbers.specs.Rounded.{sum_from}
use Rattle.numbers.specs.Lists.{tab}
use Rattle.numbers.proofs.Tabs.{length-tab}
use Rattle.flux_rows.specs.Rises.{part_bins}
use Rattle.flux_rows.proofs.rise_part.Goals as goal

-- how many slots a part has after it was written
long : (f : ℕ → Float) (i n : ℕ) {part : List Float} → part ≡ tab f i n → n ≡ part_bins → length part ≡ part_bins
long f i n e h = ap length e ∙ length-tab f i n ∙ h

-- a sum over a part of n slots
over-part : (f : ℕ → Float) (acc next : Float) (i n : ℕ) {part : List Float} → next ≡ sum_from acc part → part ≡ tab f i n → n ≡ part_bins
    → next ≡ sum_from acc (tab f i part_bins)
over-part f acc next i n e k h = e ∙ ap (sum_from acc) (k ∙ ap (tab f i) h)

pub lift_at-requires : goal.lift_at-requires
lift_at-requires c =
    (omega arith, omega arith, omega (arith, c.requires.a_len.0))

pub lift_at-requires-2 : goal.lift_at-requires-2
lift_at-requires-2 c =
    (omega arith, omega arith, omega (arith, c.requires.a_len.1))

pub lift_at-requires-3 : goal.lift_at-requires-3
lift_at-requires-3 c =
    (omega arith, omega arith, omega (arith, c.requires.a_len.2))

pub lift_at-requires-4 : goal.lift_at-requires-4
lift_at-requires-4 c =
    (omega arith, omega arith, omega (arith, c.requires.a_len.3))

pub add_parts-requires : goal.add_parts-requires
add_parts-requires c =
    let r = c.requires.a_len in
    let first = long _ _ _ c.lift_at.ensures r.0 in (
      long _ _ _ c.lift_at-2.ensures r.1 ∙ sym first,
      long _ _ _ c.lift_at-3.ensures r.2 ∙ sym first,
      long _ _ _ c.lift_at-4.ensures r.3 ∙ sym first,
    )

pub returns : goal.returns
returns c =
    let r = c.requires.a_len in
    let z = c.add_parts.ensures in (
      over-part _ _ _ _ _ z.0 c.lift_at.ensures r.0,
      over-part _ _ _ _ _ z.1 c.lift_at-2.ensures r.1,
      over-part _ _ _ _ _ z.2 c.lift_at-3.ensures r.2,
      over-part _ _ _ _ _ z.3 c.lift_at-4.ensures r.3,
    )

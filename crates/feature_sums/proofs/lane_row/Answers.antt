-- `feature_sums::lane_row` meets its contract: a row's slots, or the zeros. Assumes nothing.
use native.Mathlib.Omega.{arith}
use Prim.Native.Nat.{ℕ, ◌+◌, ◌-◌, ◌*◌}
use mathlib.Core.Path.{◌≡◌, sym, ap, ◌∙◌}
use lib.ListN.{take, drop}
use borrow.Author.Tests.{lt-ltb, le-ltb}
use Rattle.numbers.specs.Lists.{row}
use Rattle.numbers.proofs.Tests.{pick_true, pick-false}
use Rattle.feature_sums.specs.Lanes.{row_of_lane}
use Rattle.feature_sums.proofs.lane_row.Goals as goal

pub returns-then-t-past : goal.returns-then-t-past
unfolding row_of_lane row
returns-then-t-past c =
    let t = c.args.t in
    let e : t * 2049 + 2049 - t * 2049 ≡ 2049 = omega arith in
    ap (λ (n : ℕ). take n (drop (t * 2049) c.args.magnitudes.now)) e ∙ sym (pick_true _ _ _ (lt-ltb t c.args.past c.if-t-past.true))

pub returns : goal.returns
unfolding row_of_lane
returns c = sym (pick-false _ _ _ (le-ltb c.args.t c.args.past c.if-t-past.false))

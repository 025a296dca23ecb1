use mathlib.Core.Path.{◌≡◌, refl, sym, ap, ◌∙◌}
use mathlib.Core.List.{List}
use Prim.Native.Nat.{ℕ, zero, suc, ◌≤◌, ◌<◌, ◌+◌, ◌-◌}
use native.Mathlib.Omega.{arith}
use lib.ListN.{get_or}
use lib.Ieee.{Float, nan, le}
use Rattle.numbers.specs.Rounded.{pick}
use Rattle.numbers.proofs.Tests.{pick_true, pick-false}
use Rattle.bars.specs.BarBeats.{last_bar}
use Rattle.bars.proofs.last_bar.Goals as goal

-- downbeat k - 1 is the k-th
turn : (limit : Float) (ds : List Float) (k : ℕ) → 0 < k → last_bar limit ds k ≡ pick (le (get_or ds (k - 1) nan) limit) k (last_bar limit ds (k - 1))
unfolding last_bar
turn limit ds zero h = absurd (omega arith)
turn limit ds (suc k) h =
    let e : k ≡ suc k - 1 = omega arith in
    ap (λ (j : ℕ). pick (le (get_or ds j nan) limit) (suc k) (last_bar limit ds j)) e

none : (limit : Float) (ds : List Float) (k : ℕ) → k ≤ 0 → 0 ≡ last_bar limit ds k
unfolding last_bar
none limit ds zero h = refl
none limit ds (suc k) h = absurd (omega arith)

pub loop-k-init : goal.loop-k-init
loop-k-init c = (omega arith, refl)

pub returns-then-downbeats-k : goal.returns-then-downbeats-k
returns-then-downbeats-k c = let e : c.loop-k.k - 1 + 1 ≡ c.loop-k.k = omega arith in
    (omega arith, e ∙ sym (pick_true _ _ _ c.if-downbeats-k.true) ∙ sym (turn _ c.args.downbeats.now c.loop-k.k (omega arith)) ∙ c.loop-k.invariant.1)

pub loop-k-preserved : goal.loop-k-preserved
loop-k-preserved c =
    (omega arith, sym (pick-false _ _ _ c.if-downbeats-k.false) ∙ sym (turn _ c.args.downbeats.now c.loop-k.k (omega arith)) ∙ c.loop-k.invariant.1)

pub returns : goal.returns
returns c =
    (omega arith, none _ c.args.downbeats.now c.loop-k.k (omega arith) ∙ c.loop-k.invariant.1)

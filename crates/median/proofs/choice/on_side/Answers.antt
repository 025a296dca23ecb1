-- `median::choice::on_side` meets its contract: each return is a side of its own. Assumes nothing.
use Prim.Native.Nat.{ℕ, zero, suc}
use mathlib.Core.Path.{◌≡◌, refl}
use mathlib.Core.Bool.{not}
use lib.Ieee.{Float, le}
use Rattle.median.specs.Choice.{on_side}
use Rattle.median.proofs.choice.on_side.Goals as goal

-- what is no side below and no side in it is above it
above : (side : ℕ) (low high x : Float) → (side ≡ 0 → ⊥) → (side ≡ 1 → ⊥) → not (le x high) ≡ on_side side low high x
unfolding on_side
above zero low high x a b = absurd (a refl)
above (suc zero) low high x a b = absurd (b refl)
above (suc (suc side)) low high x a b = refl

pub returns-then-side-eq0 : goal.returns-then-side-eq0
unfolding on_side
returns-then-side-eq0 c = rw c.if-side-eq0.true refl

pub returns-then-x-low : goal.returns-then-x-low
unfolding on_side
returns-then-x-low c = rw (c.if-side-eq1.true, c.if-x-low.true) refl

pub returns-then-side-eq1 : goal.returns-then-side-eq1
unfolding on_side
returns-then-side-eq1 c = rw (c.if-side-eq1.true, c.if-x-low.false) refl

pub returns : goal.returns
returns c = above _ _ _ _ c.if-side-eq0.false c.if-side-eq1.false

use native.Mathlib.Omega.{arith}
use Prim.Native.Nat.{ℕ, ◌+◌, ◌≤◌, ◌<◌}
use mathlib.Core.Path.{◌≡◌}
use mathlib.Core.Logic.{◌⊎◌, inl, inr}
use Rattle.numbers.proofs.Tests.{lt_or_le}
use Rattle.feature_places.specs.Places.{feature_row_of}
use Rattle.feature_places.proofs.past_of.Goals as goal

more : (place : ℕ → ℕ) (t u i : ℕ) → ((v : ℕ) → t ≤ v → v < u → place v ≤ i) → place u ≤ i → (v : ℕ) → t ≤ v → v < u + 1 → place v ≤ i
more place t u i h k v a b = go (lt_or_le v u)
  where
    go : (v < u) ⊎ (u ≤ v) → place v ≤ i
    go (inl d) = h v a d
    go (inr d) = let e : v ≡ u = omega arith in rw e k

pub loop-u-init : goal.loop-u-init
loop-u-init c = (omega arith, omega arith, λ v a b. absurd (omega arith))

pub returns-then-place_of-i : goal.returns-then-place_of-i
returns-then-place_of-i c =
    (c.loop-u.invariant.0, c.loop-u.invariant.1, c.loop-u.invariant.2, λ h. omega (arith, c.place_of.ensures))

pub loop-u-preserved : goal.loop-u-preserved
loop-u-preserved c =
    (omega arith, omega arith, more (feature_row_of c.args.grid) _ _ _ c.loop-u.invariant.2 (omega (arith, c.place_of.ensures)))

pub returns : goal.returns
returns c =
    let e : c.loop-u.u ≡ c.args.rows = omega arith in
    (c.requires, omega arith, λ v a b. c.loop-u.invariant.2 v a (omega arith), λ h. absurd (omega arith))

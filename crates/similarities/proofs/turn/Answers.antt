use mathlib.Core.Path.{◌≡◌, ap, ◌∙◌}
use mathlib.Core.List.{List}
use mathlib.Core.Logic.{⊎_elim}
use Prim.Native.Nat.{ℕ, ◌+◌, ◌*◌, ◌≤◌, ◌<◌}
use native.Mathlib.Omega.{arith}
use lib.ListN.{length, get_or}
use lib.Ieee.{Float, nan}
use Rattle.numbers.specs.Lists.{filled}
use Rattle.numbers.proofs.Tests.{lt_or_le}
use Rattle.numbers.proofs.Tabs.{length-filled, get_or_filled_in, get_or_filled_low}
use Rattle.similarities.specs.Lanes.{turned_at}
use Rattle.similarities.proofs.Blocks.{turned-is}
use Rattle.similarities.proofs.turn.Goals as goal

pub loop-k-init : goal.loop-k-init
loop-k-init c = (omega arith, c.requires.3, λ r k h l. absurd (omega arith))

pub turn_value-requires : goal.turn_value-requires
turn_value-requires c =
    let p = c.requires in
    (p.0, p.1, p.2, omega arith, c.loop-k.invariant.1)

pub loop-k-preserved : goal.loop-k-preserved
loop-k-preserved c =
    let a = c.args in
    let k = c.loop-k.k in
    let count = a.count in
    let few = c.requires.2 in
    let was : List Float = c.loop-k.turned in
    let f : ℕ → Float = turned_at a.features.now a.first in
    let next : List Float = c.turn_value.new.turned in
    let m : length was ≡ 2048 = c.loop-k.invariant.1 in
    let e : next ≡ filled f was (k * 128) (k * 128 + count) = c.turn_value.ensures in (
      omega arith,
      ap length e ∙ length-filled f was (k * 128) (k * 128 + count) (omega arith) (omega arith) ∙ m,
      λ r k' h g.
          ap (λ (d : List Float). get_or d (k' * 128 + r) nan) e
          ∙ ⊎_elim
          (λ (u : k' < k).
          get_or_filled_low f was (k * 128) (k * 128 + count) (omega arith) (omega arith) (k' * 128 + r) nan (omega arith) ∙ c.loop-k.invariant.2 r k' h u)
          (λ (u : k ≤ k').
          get_or_filled_in f was (k * 128) (k * 128 + count) (omega arith) (omega arith) (k' * 128 + r) nan (omega arith) (omega arith)
          ∙ turned-is a.features.now a.first r k' (omega arith))
          (lt_or_le k' k),
    )

pub returns : goal.returns
returns c =
    λ r k h g. c.loop-k.invariant.2 r k h (omega arith)

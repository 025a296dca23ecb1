use mathlib.Core.Path.{◌≡◌, sym, ◌∙◌}
use mathlib.Core.Bool.{Bool}
use mathlib.Core.List.{List}
use Prim.Native.Nat.{ℕ, suc, ◌+◌, ◌≤◌, ◌<◌}
use native.Mathlib.Numerals.{add-one}
use native.Mathlib.Omega.{arith}
use lib.ListN.{length, drop, get_or, drop_of_length-le}
use lib.Seq.{drop-cons}
use lib.Ieee.{Float, nan}
use Rattle.numbers.specs.Rounded.{pick}
use Rattle.numbers.proofs.Tests.{pick_true, pick-false}
use Rattle.bars.specs.BarBeats.{during, passing}
use Rattle.bars.proofs.beats_during.Goals.{else-is_during, then-is_during}
use Rattle.bars.proofs.beats_during.Goals as goal

module _ (test : Float → Bool) (ts : List Float) (i : ℕ) where
  turn : i < length ts → passing test (drop i ts) ≡ pick (test (get_or ts i nan)) (suc (passing test (drop (i + 1) ts))) (passing test (drop (i + 1) ts))
  unfolding passing
  turn h = rw (add-one, drop-cons ts i nan)

  end : length ts ≤ i → passing test (drop i ts) ≡ 0
  unfolding passing
  end h = rw drop_of_length-le

pub loop-i-init : goal.loop-i-init
loop-i-init c = (omega arith, omega arith, omega arith)

pub loop-i-preserved : goal.loop-i-preserved
loop-i-preserved c =
    let a = c.args in
    let ts = a.beats.now in
    let i = c.loop-i.i in
    let t = turn (during a.lo a.hi) ts i (omega arith) in
    let is = sym c.is_during.ensures in
    elim c.if-is_during.branch [ then-is_during w ↦ let e = t ∙ pick_true _ _ _ (is ∙ w.if-is_during.true) in (omega arith, omega arith, omega (arith, w.count-is, e, c.loop-i.invariant.2)) | else-is_during w ↦ let e = t ∙ pick-false _ _ _ (is ∙ w.if-is_during.false) in (omega arith, omega arith, omega (arith, w.count-is, e, c.loop-i.invariant.2)) ]

pub returns : goal.returns
returns c =
    let a = c.args in
    omega (arith, c.loop-i.invariant.2, end (during a.lo a.hi) a.beats.now c.loop-i.i c.loop-i-test.false)

use mathlib.Core.Path.{◌≡◌, refl, sym, ap, ◌∙◌}
use mathlib.Core.Bool.{Bool, true, false}
use mathlib.Core.List.{List, [], ◌∷◌, append-nil}
use Prim.Native.Nat.{ℕ, ◌+◌, ◌≤◌, ◌<◌, ◌%◌}
use borrow.Author.Tests.{eq-eqb, ne_eqb}
use native.Mathlib.Omega.{arith}
use lib.Dec.{eqb}
use lib.ListN.{length, take, get_or, set, length-append}
use lib.Seq.{take_all, length-take-le}
use Rattle.numbers.specs.Rounded.{pick}
use Rattle.numbers.specs.Lists.{listed}
use Rattle.numbers.proofs.Tabs.{listed-none, listed_more, length-listed}
use Rattle.bars.specs.Downbeats.{in_phase}
use Rattle.bars.proofs.Phases.{phase_more, length_phase}
use Rattle.bars.proofs.list_phase.Invariants.{Listed}
use Rattle.bars.proofs.list_phase.Goals.{then-i-meter, else-i-meter}
use Rattle.bars.proofs.list_phase.Goals as goal

module _ (beats : List ℕ) (meter phase : ℕ) (frames₀ frames : List ℕ) (count i : ℕ) (room : length beats ≤ length frames₀)
    (was : Listed beats meter phase frames₀ frames count i) where
  -- no more are listed than were read
  fits : i ≤ length beats → (count ≤ i) × (length frames ≡ length frames₀)
  fits h =
      let n = length_phase meter phase 0 (take i beats) in
      let m = length-take-le i beats h in
      (omega (arith, was.0, n, m), ap length was.1 ∙ length-listed (in_phase meter phase 0 (take i beats)) frames₀ (omega (arith, n, m)))

  -- one beat more, by whether it belongs to the phase
  more : (frames' : List ℕ) (count' : ℕ) (b : Bool) → i < length beats → eqb (i % meter) phase ≡ b
      → count' ≡ pick b (count + 1) count → frames' ≡ pick b (set frames count (get_or beats i 0)) frames
      → Listed beats meter phase frames₀ frames' count' (i + 1)
  more frames' count' true h e ec ef =
      let xs = in_phase meter phase 0 (take i beats) in
      let m = phase_more meter phase beats i true h e in
      let k = fits (omega arith) in (
        ec ∙ ap (λ (n : ℕ). n + 1) was.0 ∙ sym (length-append xs (get_or beats i 0 ∷ [])) ∙ ap length (sym m),
        ef ∙ ap (λ (l : List ℕ). set l count (get_or beats i 0)) was.1 ∙ ap (λ (n : ℕ). set (listed xs frames₀) n (get_or beats i 0)) was.0
            ∙ listed_more xs frames₀ (get_or beats i 0) 0 (omega (arith, was.0, k.0)) ∙ ap (λ (l : List ℕ). listed l frames₀) (sym m),
      )
  more frames' count' false h e ec ef =
      let xs = in_phase meter phase 0 (take i beats) in
      let m = phase_more meter phase beats i false h e ∙ append-nil xs in
      (ec ∙ was.0 ∙ ap length (sym m), ef ∙ was.1 ∙ ap (λ (l : List ℕ). listed l frames₀) (sym m))

pub loop-i-init : goal.loop-i-init
unfolding in_phase
loop-i-init c = (omega arith, (refl, sym (listed-none _)))

pub offset_bounds-frames-count : goal.offset_bounds-frames-count
offset_bounds-frames-count c =
    let a = c.args in
    let k = fits a.beats.now a.meter a.phase a.frames.now c.loop-i.frames c.loop-i.count c.loop-i.i (omega arith)
    c.loop-i.invariant.1 (omega arith) in
    omega (arith, k.0, k.1)

pub bounds-frames-count : goal.bounds-frames-count
bounds-frames-count c =
    let a = c.args in
    let k = fits a.beats.now a.meter a.phase a.frames.now c.loop-i.frames c.loop-i.count c.loop-i.i (omega arith)
    c.loop-i.invariant.1 (omega arith) in
    omega (arith, k.0, k.1)

pub overflow_add-count : goal.overflow_add-count
overflow_add-count c =
    let a = c.args in
    let k = fits a.beats.now a.meter a.phase a.frames.now c.loop-i.frames c.loop-i.count c.loop-i.i (omega arith)
    c.loop-i.invariant.1 (omega arith) in
    omega (arith, k.0, k.1)

pub loop-i-preserved : goal.loop-i-preserved
loop-i-preserved c =
    let a = c.args in
    let h : c.loop-i.i < length a.beats.now = omega arith in
    let go =
    more a.beats.now a.meter a.phase a.frames.now c.loop-i.frames c.loop-i.count c.loop-i.i (omega arith) c.loop-i.invariant.1
    c.if-i-meter.frames c.if-i-meter.count
    in (
      omega arith,
      elim c.if-i-meter.branch [
        | then-i-meter w ↦ go true h (eq-eqb _ _ w.if-i-meter.true) w.count-is w.frames-is
        | else-i-meter w ↦ go false h (ne_eqb _ _ w.if-i-meter.false) w.count-is w.frames-is
      ],
    )

pub shape_of-frames : goal.shape_of-frames
shape_of-frames c =
    let a = c.args in
    (fits a.beats.now a.meter a.phase a.frames.now c.loop-i.frames c.loop-i.count c.loop-i.i (omega arith) c.loop-i.invariant.1
    (omega arith)).1

pub returns : goal.returns
returns c =
    let a = c.args in
    let e : take c.loop-i.i a.beats.now ≡ a.beats.now = take_all c.loop-i.i a.beats.now c.loop-i-test.false in (
      c.loop-i.invariant.1.0 ∙ ap (λ (bs : List ℕ). length (in_phase a.meter a.phase 0 bs)) e,
      c.loop-i.invariant.1.1 ∙ ap (λ (bs : List ℕ). listed (in_phase a.meter a.phase 0 bs) a.frames.now) e,
    )

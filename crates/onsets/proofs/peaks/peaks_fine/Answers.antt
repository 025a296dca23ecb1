use mathlib.Core.Bool.{Bool, true, false, ◌&&◌}
use mathlib.Core.List.{List}
use mathlib.Core.Path.{◌≡◌, refl, sym, ◌∙◌}
use Prim.Native.Nat.{ℕ, ◌+◌, ◌<◌}
use native.Mathlib.Omega.{arith}
use borrow.Author.Tests.{le-leb, lt-leb, lt-ltb, le-ltb}
use lib.Dec.{leb, ltb}
use lib.ListN.{length, drop, get_or}
use Rattle.numbers.proofs.Everys.{every_step, every_end}
use Rattle.numbers.specs.Lists.{ascending}
use Rattle.onsets.specs.Peaks.{point_into}
use Rattle.numbers.proofs.Ascents.{ascending_step, ascending_end}
use Rattle.onsets.proofs.peaks.peaks_fine.Goals as goal

and-false : (b : Bool) → (b && false) ≡ false
and-false true = refl
and-false false = refl

-- both tests of the list from i on: of its first entry, and of the rest
split : (slots low : ℕ) (peaks : List ℕ) (i : ℕ) → i < length peaks
    → (ascending low (drop i peaks) && point_into slots (drop i peaks))
    ≡ ((leb low (get_or peaks i 0) && ascending (get_or peaks i 0 + 1) (drop (i + 1) peaks))
    && (ltb (get_or peaks i 0) slots && point_into slots (drop (i + 1) peaks)))
split slots low peaks i h = rw (ascending_step low peaks i h, every_step (λ (x : ℕ). ltb x slots) peaks i 0 h)

pub loop-i-init : goal.loop-i-init
loop-i-init c = (omega arith, refl)

pub overflow_cast-peak : goal.overflow_cast-peak
overflow_cast-peak c = omega (arith, c.shared_slice_known-1.given c.loop-i.i)

pub returns-then-peak-low : goal.returns-then-peak-low
returns-then-peak-low c =
    let peaks = c.args.peaks.now in
    sym (c.loop-i.invariant.1 ∙ split c.args.slots c.loop-i.low peaks c.loop-i.i (omega arith) ∙ simp (lt-leb _ _ c.if-peak-low.true))

pub returns-then-slots-peak : goal.returns-then-slots-peak
returns-then-slots-peak c =
    let peaks = c.args.peaks.now in
    sym (c.loop-i.invariant.1 ∙ split c.args.slots c.loop-i.low peaks c.loop-i.i (omega arith) ∙ simp (le-ltb _ _ c.if-slots-peak.true, and-false))

pub overflow_add-low : goal.overflow_add-low
overflow_add-low c = omega (arith, c.shared_slice_known-1.given c.loop-i.i)

pub loop-i-preserved : goal.loop-i-preserved
loop-i-preserved c =
    let peaks = c.args.peaks.now in (
      omega arith,
      c.loop-i.invariant.1 ∙ split c.args.slots c.loop-i.low peaks c.loop-i.i (omega arith)
          ∙ simp (le-leb _ _ c.if-peak-low.false, lt-ltb _ _ c.if-slots-peak.false),
    )

pub returns : goal.returns
returns c =
    let peaks = c.args.peaks.now in
    sym (c.loop-i.invariant.1 ∙ simp (
      ascending_end c.loop-i.low peaks c.loop-i.i c.loop-i-test.false,
      every_end (λ (x : ℕ). ltb x c.args.slots) peaks c.loop-i.i c.loop-i-test.false,
    ))

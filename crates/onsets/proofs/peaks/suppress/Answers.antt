use mathlib.Core.Path.{refl}
use Prim.Native.Nat.{ℕ}
use native.Mathlib.Omega.{arith}
use borrow.Author.Tests.{ltb-true}
use lib.Dec.{ltb}
use lib.ListN.{length, get_or, drop_of_length-le}
use Rattle.numbers.proofs.Everys.{every-at}
use Rattle.numbers.proofs.Ascents.{ascending-at, ascending-rest}
use Rattle.onsets.proofs.Steps.{going_start, going_next}
use Rattle.onsets.proofs.peaks.suppress.Goals as goal

pub loop-i-init : goal.loop-i-init
loop-i-init c =
    (omega arith, refl, omega arith, omega arith, c.requires.peaks_value.0, going_start _ _ _ _ _ refl refl)

pub overflow_cast-peaks : goal.overflow_cast-peaks
overflow_cast-peaks c = omega (arith, c.shared_slice_known-in-loop-i-1.given c.loop-i.i)

pub join-group-requires : goal.join-group-requires
join-group-requires c =
    let peaks = c.args.peaks.now in
    let i = c.loop-i.i in
    let inside = ltb-true (get_or peaks i 0) (length c.args.curve.now)
    (every-at (λ (x : ℕ). ltb x (length c.args.curve.now)) peaks i 0 c.requires.peaks_value.1 (omega arith)) in
    let above = ascending-at _ peaks i (omega arith) c.loop-i.invariant.4 in
    (c.requires.curve_len_bound, inside, above, omega arith)

pub loop-i-preserved : goal.loop-i-preserved
loop-i-preserved c =
    let peaks = c.args.peaks.now in
    let i = c.loop-i.i in
    let inside = ltb-true (get_or peaks i 0) (length c.args.curve.now)
    (every-at (λ (x : ℕ). ltb x (length c.args.curve.now)) peaks i 0 c.requires.peaks_value.1 (omega arith)) in
    let s = c.join-group.ensures in
    let v = c.loop-i.invariant in (
      omega arith,
      omega arith,
      omega (arith, s.counted),
      omega (arith, s.best_at, inside),
      ascending-rest _ _ peaks i (omega arith) s.best_at
          v.4,
      going_next _ _ peaks i (omega arith) s v.5,
    )

pub close-requires : goal.close-requires
close-requires c = let v = c.loop-i.invariant in (v.3, omega arith)

pub returns : goal.returns
returns c =
    c.close.ensures.ends _ _ _ _ (rw (drop_of_length-le c.args.peaks.now c.loop-i-test.false) at c.loop-i.invariant.5)

use Prim.Native.Nat.{ℕ, ◌+◌, ◌*◌, ◌/◌, ◌%◌, ◌^◌, ◌≤◌, ◌<◌}
use native.Mathlib.Nat.{mul-le-mul_right, mod-lt}
use lib.ListN.{length}
use native.Mathlib.Omega.{arith}
use Rattle.median.proofs.choice.spread_of.Goals.{In-loop-i}
use Rattle.median.proofs.choice.spread_of.Goals as goal

-- the places that are read lie inside
inner : (i m : ℕ) → i < 24 → 24 < m → i * (m / 24) + i * (m % 24) / 24 + i * 37 % (m / 24) < m
inner i m h g =
    let l : i ≤ 23 = omega arith in
    let p : 0 < m / 24 = omega arith in
    omega (arith, mul-le-mul_right (m / 24) l, mul-le-mul_right (m % 24) l, mod-lt (i * 37) p)

-- so the place fits, and what it takes in the slice
place : (c : In-loop-i) →
    (c.loop-i.i * (c.args.m / 24) + c.loop-i.i * (c.args.m % 24) / 24
    + c.loop-i.i * 37 % (c.args.m / 24) < c.args.m)
    × (c.args.m ≤ length c.args.a.now) × (length c.args.a.now * 8 < 2 ^ 63)
place c =
    (inner c.loop-i.i c.args.m c.loop-i-test.true c.requires.0, c.requires.1, omega (arith, c.well_formed.0.1))

pub overflow_mul-at : goal.overflow_mul-at
overflow_mul-at c = omega (arith, place (goal.at.overflow_mul-at c).In-loop-i)

pub overflow_mul-at-in-loop-i : goal.overflow_mul-at-in-loop-i
overflow_mul-at-in-loop-i c =
    let l : c.loop-i.i ≤ 23 = omega (arith, c.loop-i-test.true) in
    omega (arith, mul-le-mul_right (c.args.m % 24) l)

pub overflow_add-at : goal.overflow_add-at
overflow_add-at c = omega (arith, place (goal.at.overflow_add-at c).In-loop-i)

pub nonzero_rem-at : goal.nonzero_rem-at
nonzero_rem-at c = omega (arith, c.requires.0)

pub overflow_add-at-in-loop-i : goal.overflow_add-at-in-loop-i
overflow_add-at-in-loop-i c = omega (arith, place (goal.at.overflow_add-at-in-loop-i c).In-loop-i)

pub offset_bounds-a-at : goal.offset_bounds-a-at
offset_bounds-a-at c = omega (arith, place (goal.at.offset_bounds-a-at c).In-loop-i)

pub bounds-a-at : goal.bounds-a-at
bounds-a-at c = omega (arith, place (goal.at.bounds-a-at c).In-loop-i)

pub returns : goal.returns
returns c = tt

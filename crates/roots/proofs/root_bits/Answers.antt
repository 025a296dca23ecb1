-- `roots::root_bits` meets its contract. The digits, doubled where the power is odd, split n's square (`split_even`, `split_odd`), so the pattern is
-- nearest, and there is one nearest (`root_is`). Assumes nothing.
use Prim.Native.Nat.{◌+◌, ◌-◌, ◌/◌, ◌^◌, ◌≤◌}
use native.Mathlib.Omega.{arith}
use Rattle.roots.proofs.Nearest.{Split, split_even, split_odd, near_of, near_high, near_nearest}
use Rattle.roots.proofs.Unique.{root_is}
use Rattle.roots.proofs.root_bits.Goals.{Joined-power-eq0, else-power-eq0, then-power-eq0}
use Rattle.roots.proofs.root_bits.Goals as goal

-- the digits, doubled where the power is odd
split : (c : Joined-power-eq0) → (2 ^ 52 ≤ c.if-power-eq0.a) × Split c.args.n c.if-power-eq0.a ((c.args.n / 2 ^ 52 - 1) / 2 + 511)
split c =
    elim c.if-power-eq0.branch [ then-power-eq0 w ↦ rw w.a-is (omega arith, split_even _ c.if-n-lt-HIDDEN.false c.requires.1 w.if-power-eq0.true) | else-power-eq0 w ↦ rw w.a-is (omega arith, split_odd _ c.if-n-lt-HIDDEN.false c.requires.1 w.if-power-eq0.false) ]

pub nearest_whole-requires : goal.nearest_whole-requires
nearest_whole-requires c = let s = split (goal.at.nearest_whole-requires c).Joined-power-eq0 in (s.0, s.1.high)

pub overflow_add-result-2 : goal.overflow_add-result-2
overflow_add-result-2 c = let s = split (goal.at.overflow_add-result-2 c).Joined-power-eq0 in omega (arith, near_high _ _ s.0 s.1.high (near_of _ _ c.nearest_whole.ensures))

pub returns : goal.returns
returns c =
    let s = split (goal.at.returns c).Joined-power-eq0 in
    root_is _ _ c.requires.0 c.requires.1 (near_nearest _ _ _ _ s.0 s.1 (near_of _ _ c.nearest_whole.ensures))

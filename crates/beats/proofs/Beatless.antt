-- What an envelope that is not beatless has: a frame, a period, and a variance above 2 ^ -52.
use mathlib.Core.Path.{◌≡◌, refl}
use mathlib.Core.Bool.{false, ◌||◌}
use mathlib.Core.List.{List}
use Prim.Native.Nat.{ℕ, zero, suc, ◌≤◌}
use native.Mathlib.Omega.{arith}
use borrow.Author.Tests.{eqb-false}
use lib.Dec.{eqb}
use lib.ListN.{length}
use lib.Ieee.{Float, le}
use Rattle.numbers.proofs.Tests.{or_left, or_right}
use Rattle.numbers.specs.Rounded.{epsilon}
use Rattle.beats.specs.Envelopes.{variance_of, beatless}

some : (n : ℕ) → eqb n 0 ≡ false → 1 ≤ n
some zero e = absurd (eqb-false 0 0 e refl)
some (suc n) e = omega arith

pub record Lively (envelope : List Float) (period : ℕ) : Type 0 where
  pub frames : 1 ≤ length envelope
  pub periods : 1 ≤ period
  pub varies : le (variance_of envelope) epsilon ≡ false

pub lively : (envelope : List Float) (period : ℕ) → beatless envelope period ≡ false → Lively envelope period
unfolding beatless
lively envelope period e =
    let flat = le (variance_of envelope) epsilon in
    let rest = or_right (eqb (length envelope) 0) (eqb period 0 || flat) e in
    record {
      frames = some (length envelope) (or_left (eqb (length envelope) 0) (eqb period 0 || flat) e);
      periods = some period (or_left (eqb period 0) flat rest);
      varies = or_right (eqb period 0) flat rest;
    }

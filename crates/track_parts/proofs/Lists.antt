-- What the parts leave in a lent list, as the next part reads it. Assumes nothing.
use mathlib.Core.Path.{◌≡◌}
use mathlib.Core.Bool.{true}
use mathlib.Core.List.{List}
use Prim.Native.Nat.{ℕ, ◌-◌, ◌≤◌}
use native.Mathlib.Nat.{sub-zero}
use native.Mathlib.Omega.{arith}
use borrow.Author.Tests.{le-leb}
use lib.ListN.{length, take, drop, get_or}
use lib.Ieee.{Float}
use Rattle.numbers.specs.Limits.{most_rows, most_frame, frame_fine}
use Rattle.numbers.specs.Lists.{curve, filled, listed, every}
use Rattle.numbers.proofs.Tabs.{filled-first, listed-first}
use Rattle.numbers.proofs.Everys.{every_by}
use Rattle.beats.specs.Grids.{grid_of}
use Rattle.beats.proofs.Steps.{beats-below}

module _ {A : Type 0} where
  -- the slots that a rule wrote are its curve
  pub written_part : (f : ℕ → A) (d xs : List A) (n : ℕ) → xs ≡ filled f d 0 n → take (n - 0) (drop 0 xs) ≡ curve f n
  written_part f d xs n e = rw (sub-zero, e) (filled-first f d n)

  -- the slots that entries were listed in are the entries
  pub listed_part : (es d xs : List A) (k : ℕ) → xs ≡ listed es d → k ≡ length es → take (k - 0) (drop 0 xs) ≡ es
  listed_part es d xs k e c = rw (sub-zero, c, e) (listed-first es d)

-- the beats of a grid may be listed
pub beats_listable : (env : List Float) (period : ℕ) → length env ≤ most_rows → every frame_fine (grid_of env period) ≡ true
beats_listable env period h =
    every_by frame_fine (grid_of env period) 0 (λ i k. le-leb (get_or (grid_of env period) i 0) most_frame (omega (arith, beats-below env period i k)))

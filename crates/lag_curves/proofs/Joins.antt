-- Two runs of slots, written one behind the other by one rule. Assumes nothing.
use mathlib.Core.Path.{◌≡◌, sym, ap, ◌∙◌}
use mathlib.Core.List.{List}
use Prim.Native.Nat.{ℕ, ◌≤◌}
use native.Mathlib.Omega.{arith}
use lib.ListN.{length}
use lib.Ieee.{Float, nan}
use Rattle.numbers.specs.Lists.{filled}
use Rattle.numbers.proofs.Tabs.{filled_join, length-filled}

module _ (rule : ℕ → Float) (d x y : List Float) (a t u w : ℕ) (h : a ≤ t) (k : t ≤ w) (e : u ≡ w) (l : w ≤ length d) (p : x ≡ filled rule d a t)
    (q : y ≡ filled rule x t w) where
  pub joined : y ≡ filled rule d a u
  joined = q ∙ ap (λ (z : List Float). filled rule z t w) p ∙ filled_join rule d a t w h k nan l ∙ ap (filled rule d a) (sym e)

  pub joined_length : length y ≡ length d
  joined_length = ap length joined ∙ length-filled rule d a u (omega arith) (omega arith)

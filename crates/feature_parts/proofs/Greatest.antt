-- The greatest of a rule's values, one at a time.
use mathlib.Core.Path.{◌≡◌, sym, ap, ◌∙◌}
use Prim.Native.Nat.{ℕ, suc, ◌+◌, ◌-◌, ◌≤◌, ◌<◌}
use native.Mathlib.Numerals.{add-one}
use native.Mathlib.Omega.{arith}
use lib.Ieee.{Float, lt}
use Rattle.numbers.specs.Rounded.{pick}
use Rattle.numbers.specs.Lists.{tab}
use Rattle.sections.specs.Confidence.{greatest_from}

pub greatest-more : (f : ℕ → Float) (p n : ℕ) (top x total : Float) → p < n → x ≡ pick (lt top (f p)) (f p) top → greatest_from top (tab f p (n - p)) ≡ total
    → greatest_from x (tab f (p + 1) (n - (p + 1))) ≡ total
unfolding greatest_from
greatest-more f p n top x total h e s =
    let k : n - p ≡ suc (n - (p + 1)) = omega arith in
    ap (λ (y : Float). greatest_from y (tab f (p + 1) (n - (p + 1)))) e
    ∙ ap (λ (j : ℕ). greatest_from (pick (lt top (f p)) (f p) top) (tab f j (n - (p + 1)))) (add-one p)
    ∙ ap (λ (m : ℕ). greatest_from top (tab f p m)) (sym k) ∙ s

pub greatest_end : (f : ℕ → Float) (p n : ℕ) (top : Float) → n ≤ p → greatest_from top (tab f p (n - p)) ≡ top
unfolding greatest_from
greatest_end f p n top h = let k : n - p ≡ 0 = omega arith in rw k

-- Arrays that are written slot by slot.
use mathlib.Core.Path.{◌≡◌, sym, ap, ◌∙◌}
use mathlib.Core.List.{List}
use Prim.Native.Nat.{ℕ, ◌+◌, ◌≤◌, ◌<◌}
use native.Mathlib.Omega.{arith}
use lib.ListN.{length, get_or, set}
use lib.Seq.{ext_get_or}
use Rattle.numbers.specs.Lists.{curve, filled}
use Rattle.numbers.proofs.Tabs.{filled-all, filled_more, get_or_filled_high, get_or-curve, length-tab}

-- a list of n slots that has the rule's value at each of them is any list of n slots with all of them written by the rule
pub by_slots : {A : Type 0} (f : ℕ → A) (d e : List A) (n : ℕ) (z : A) → length d ≡ n → length e ≡ n → ((j : ℕ) → j < n → get_or d j z ≡ f j) → d ≡ filled f e 0 n
by_slots f d e n z l m h =
    ext_get_or z d (curve f n) (l ∙ sym (length-tab f 0 n)) (λ j k. let k' : j < n = omega arith in h j k' ∙ sym (get_or-curve f n j z k'))
    ∙ sym (filled-all f e n m)

-- one slot more of an array whose slots are each read once, where it is written
pub grown_more : {A : Type 0} (f : ℕ → A) (d : List A) (a j : ℕ) (z : A) (step : A → A) → a ≤ j → j < length d → f j ≡ step (get_or d j z)
    → set (filled f d a j) j (step (get_or (filled f d a j) j z)) ≡ filled f d a (j + 1)
grown_more f d a j z step l h e =
    ap (λ (x : _). set (filled f d a j) j (step x)) (get_or_filled_high f d a j l (omega arith) j z (omega arith))
    ∙ ap (λ (x : _). set (filled f d a j) j x) (sym e)
    ∙ filled_more f d a j l z h

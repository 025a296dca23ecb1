-- Samples are within 2^128, sums of squares go one sample at a time, and a feature row's samples are a part of the slice.
use mathlib.Core.Path.{◌≡◌, refl, sym, ap, ◌∙◌}
use mathlib.Core.Bool.{true, false, not}
use mathlib.Core.List.{List, [], map}
use mathlib.Core.Logic.{◌⊎◌, inl, inr}
use Prim.Native.Nat.{ℕ, ◌+◌, ◌-◌, ◌*◌, ◌^◌, ◌≤◌, ◌<◌, min}
use native.Mathlib.Numerals.{add-one}
use native.Mathlib.Omega.{arith}
use lib.Dec.{T, lit≤}
use lib.ListN.{length, get_or, take, drop, drop_of_length-le, length-drop}
use lib.Seq.{drop-cons, take_all, take-nil}
use lib.Ieee.{Float, nan, is_nan, of_bits}
use lib.Ieee.Exact.{HasValue}
use Rattle.numbers.specs.Rounded.{◌⊕◌, ◌⊗◌, ◌⊘◌, real, sum_from, sum_of, squared}
use Rattle.numbers.specs.Lists.{row, every}
use Rattle.numbers.proofs.Tests.{lt_or_le}
use Rattle.numbers.proofs.Overs.{every-row}
use Rattle.sizes.specs.Sizes.{Within}
use Rattle.sizes.proofs.Sizes.{most_weaken, most_not_nan}
use Rattle.sizes.proofs.Tests.{sized-most}
use Rattle.roots.specs.Roots.{sqrt_of}
use Rattle.feature_levels.specs.Levels.{single_top, sample_fine, rms_of, rms_at}

top_value : HasValue single_top false (0xFF_FFFF * 2 ^ 104) 1
unfolding of_bits
top_value = (refl, refl)

pub sample_within : (x : Float) → sample_fine x ≡ true → Within 128 x
unfolding sample_fine
sample_within x h = most_weaken (lit≤ tt) (sized-most single_top x top_value h)

pub sample_not_nan : (x : Float) → sample_fine x ≡ true → T (not (is_nan x))
sample_not_nan x h = most_not_nan (sample_within x h)

-- ---- one sample more

pub square-more : (s : List Float) (i : ℕ) (acc x total : Float) → i < length s → x ≡ get_or s i nan → sum_from acc (map squared (drop i s)) ≡ total
    → sum_from (acc ⊕ x ⊗ x) (map squared (drop (i + 1) s)) ≡ total
unfolding sum_from
square-more s i acc x total h e t = rw (e, add-one) (ap (λ (l : List Float). sum_from acc (map squared l)) (sym (drop-cons s i nan h)) ∙ t)

pub square_end : (s : List Float) (i : ℕ) (acc : Float) → length s ≤ i → sum_from acc (map squared (drop i s)) ≡ acc
unfolding sum_from
square_end s i acc h = rw drop_of_length-le

-- ---- a feature row's samples

pub part_is : (s : List Float) (size i from end : ℕ) → from ≡ min (i * size) (length s) → end ≡ min (from + size) (length s)
    → take (end - from) (drop from s) ≡ row s size i
unfolding row
part_is s size i from end e f = go (lt_or_le (length s) (i * size))
  where
    cut : (l : List Float) (n m : ℕ) → m ≡ min n (length l) → take m l ≡ take n l
    cut l n m k = either (lt_or_le (length l) n)
      where
        either : (length l < n) ⊎ (n ≤ length l) → take m l ≡ take n l
        either (inl h) = take_all m l (omega arith) ∙ sym (take_all n l (omega arith))
        either (inr h) = let q : m ≡ n = omega arith in ap (λ (j : ℕ). take j l) q

    go : (length s < i * size) ⊎ (i * size ≤ length s) → take (end - from) (drop from s) ≡ take size (drop (i * size) s)
    go (inl h) =
        let a : from ≡ length s = omega arith in
        let b : drop from s ≡ [] = drop_of_length-le s {i = from} (omega arith) in
        let d : drop (i * size) s ≡ [] = drop_of_length-le s {i = i * size} (omega arith) in
        ap (take (end - from)) b ∙ take-nil (end - from) ∙ sym (ap (take size) d ∙ take-nil size)
    go (inr h) =
        let a : from ≡ i * size = omega arith in
        let l : length (drop (i * size) s) ≡ length s - i * size = length-drop (i * size) s in
        let m : end - from ≡ min size (length (drop (i * size) s)) = omega arith in
        ap (λ (j : ℕ). take (end - from) (drop j s)) a ∙ cut (drop (i * size) s) size (end - from) m

pub level_is : (samples : List Float) (size i : ℕ) (part : List Float) (sum r : Float) → part ≡ row samples size i → sum ≡ sum_of (map squared part)
    → r ≡ sqrt_of (sum ⊘ real (length part)) → r ≡ rms_at samples size i
unfolding rms_at rms_of
level_is samples size i part sum r e f g = g ∙ ap (λ (x : Float). sqrt_of (x ⊘ real (length part))) f ∙ ap rms_of e

pub part_fine : (samples : List Float) (size i : ℕ) (part : List Float) → part ≡ row samples size i → every sample_fine samples ≡ true
    → every sample_fine part ≡ true
part_fine samples size i part e f = rw e (every-row sample_fine samples size i f)

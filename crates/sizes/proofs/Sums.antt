-- Sums in ascending order: the size of a sum of terms that are each at most N, where every partial bound i * N is held. Assumes nothing.
use mathlib.Core.Path.{◌≡◌, sym, subst}
use mathlib.Core.List.{List, ◌∷◌}
use Prim.Native.Nat.{ℕ, suc, ◌+◌, ◌*◌, ◌^◌, ◌≤◌, ◌<◌}
use native.Mathlib.Nat.{le_trans, le_of_eq, mul-le-mul_right, suc-mul, add-zero, zero-add}
use native.Mathlib.Omega.{arith}
use lib.ListN.{length}
use lib.Pow.{pow-add}
use lib.Ieee.{Float, binary64}
use Rattle.numbers.specs.Rounded.{◌⊕◌, sum_from, sum_of}
use Rattle.sizes.specs.Sizes.{AtMost, Within, Held, Each, none, more}
use Rattle.sizes.proofs.Numbers.{held_multiple, held_terms}
use Rattle.sizes.proofs.Sizes.{most_weaken, nought-most, add_most}

-- an accumulator of at most n terms of size N, and k terms more
pub sum_from_most : {N : ℕ} {acc : Float} {xs : List Float} (n : ℕ) → ((i : ℕ) → i ≤ n + length xs → Held binary64 (i * N)) → AtMost (n * N) acc
    → Each (AtMost N) xs
    → AtMost ((n + length xs) * N) (sum_from acc xs)
unfolding sum_from
sum_from_most {N} {acc} n H h none = subst (λ (k : ℕ). AtMost (k * N) acc) (sym (add-zero n)) h
sum_from_most {N} {acc} n H h (more {x = x} {xs = xs} a k) =
    let e : n + length (x ∷ xs) ≡ suc n + length xs = omega arith in
    let s : n * N + N ≡ suc n * N = sym (suc-mul n N) in
    subst (λ (k : ℕ). AtMost (k * N) (sum_from (acc ⊕ x) xs)) (sym e)
    (sum_from_most {acc = acc ⊕ x} {xs = xs} (suc n) (λ i l. H i (omega (arith, e))) (subst (λ (k : ℕ). AtMost k (acc ⊕ x)) s
    (add_most (subst (λ (k : ℕ). Held binary64 k) (sym s) (H (suc n) (omega (arith, e)))) h a)) k)

-- a whole sum
pub sum-most : {N : ℕ} {xs : List Float} → ((i : ℕ) → i ≤ length xs → Held binary64 (i * N)) → Each (AtMost N) xs → AtMost (length xs * N) (sum_of xs)
sum-most {N} {xs} H h = subst (λ (n : ℕ). AtMost (n * N) (sum_of xs)) (zero-add (length xs)) (sum_from_most 0 (λ i l. H i (omega (arith, l))) nought-most h)

-- up to 2 ^ d terms within 2 ^ k
pub sum-within : {xs : List Float} (d k : ℕ) → d ≤ 52 → d + k ≤ 1023 → length xs ≤ 2 ^ d → Each (Within k) xs → Within (d + k) (sum_of xs)
sum-within {xs} d k D K l h =
    most_weaken (le_trans (mul-le-mul_right (2 ^ k) l) (le_of_eq (sym (pow-add 2 d k))))
    (sum-most (λ i j. held_multiple d k i D K (le_trans j l)) h)

-- up to most terms of size c * 2 ^ k
pub sum-scaled : {xs : List Float} (most c k : ℕ) → most * c < 2 ^ 53 → most * c * 2 ^ k < 2 ^ 1024 → length xs ≤ most → Each (AtMost (c * 2 ^ k)) xs
    → AtMost (most * (c * 2 ^ k)) (sum_of xs)
sum-scaled {xs} most c k D K l h = most_weaken (mul-le-mul_right (c * 2 ^ k) l) (sum-most (λ i j. held_terms most c k i D K (le_trans j l)) h)

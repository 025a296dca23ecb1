-- Which pairs of rows a patch touches.
use mathlib.Core.Bool.{Bool, true, false, ◌&&◌, ◌||◌}
use mathlib.Core.List.{List}
use mathlib.Core.Logic.{◌⊎◌, inl, inr, ⊎_elim}
use mathlib.Core.Path.{◌≡◌, refl, sym}
use Prim.Native.Nat.{ℕ, ◌+◌, ◌*◌, ◌/◌, ◌%◌, ◌≤◌, ◌<◌}
use native.Mathlib.Omega.{arith}
use borrow.Author.Tests.{le-leb, lt-leb, lt-ltb, le-ltb}
use lib.Dec.{leb, ltb}
use lib.Ieee.{Float}
use Rattle.numbers.proofs.Tests.{lt_or_le, true_not_false, and_both, or_left, or_right, or-none}
use Rattle.row_pairs.specs.Pairs.{slot_at, similarity_at}
use Rattle.patch_features.specs.Features.{replaced, touched, first_pair}

-- ---- rows replaced, and pairs touched

is-replaced : (a b i : ℕ) → a ≤ i → i < b → replaced a b i ≡ true
unfolding replaced
is-replaced a b i h k = and_both (leb a i) _ (le-leb a i h) (lt-ltb i b k)

not-replaced : (a b i : ℕ) → (i < a) ⊎ (b ≤ i) → replaced a b i ≡ false
unfolding replaced
not-replaced a b i (inl h) = rw (lt-leb a i h)
not-replaced a b i (inr h) = go (leb a i)
  where
    go : (t : Bool) → (t && ltb i b) ≡ false
    go true = le-ltb i b h
    go false = refl

replaced_or_not : (a b i : ℕ) → replaced a b i ≡ false → (i < a) ⊎ (b ≤ i)
replaced_or_not a b i e =
    ⊎_elim (λ (h : i < a). inl h)
    (λ (h : a ≤ i). ⊎_elim (λ (k : i < b). true_not_false (replaced a b i) (is-replaced a b i h k) e) (λ (k : b ≤ i). inr k) (lt_or_le i b))
    (lt_or_le i a)

pub or-held : (x y : Bool) → x ≡ true → (x || y) ≡ true
or-held true y e = refl
or-held false y e = true_not_false false e refl

module _ (a b k : ℕ) where
  -- its own rows are touched whole
  pub own_touched : a * 17 ≤ k → k < b * 17 → touched a b k ≡ true
  unfolding touched
  own_touched h l = or-held _ _ (is-replaced a b (k / 17) (omega arith) (omega arith))

  -- and no pair outside the slots that are named is
  pub outside_untouched : a ≤ b → (k < first_pair a) ⊎ (b * 17 ≤ k) → touched a b k ≡ false
  unfolding touched
  outside_untouched h (inl l) =
      or-none _ _ (not-replaced a b (k / 17) (inl (omega arith))) (not-replaced a b (k / 17 + k % 17) (inl (omega arith)))
  outside_untouched h (inr l) =
      or-none _ _ (not-replaced a b (k / 17) (inr (omega arith))) (not-replaced a b (k / 17 + k % 17) (inr (omega arith)))

  -- both rows of a pair that is not touched stay
  pub untouched_rows : touched a b k ≡ false → ((k / 17 < a) ⊎ (b ≤ k / 17)) × ((k / 17 + k % 17 < a) ⊎ (b ≤ k / 17 + k % 17))
  unfolding touched
  untouched_rows e =
      (replaced_or_not a b (k / 17) (or_left _ _ e), replaced_or_not a b (k / 17 + k % 17) (or_right (replaced a b (k / 17)) _ e))

-- a pair of rows that both stay is not touched
pub pair_untouched : (a b i d : ℕ) → d < 17 → (i < a) ⊎ (b ≤ i) → (i + d < a) ⊎ (b ≤ i + d) → touched a b (i * 17 + d) ≡ false
unfolding touched
pair_untouched a b i d h p q =
    let e : (i * 17 + d) / 17 ≡ i = omega arith in
    let f : (i * 17 + d) % 17 ≡ d = omega arith in
    rw (e, f) (or-none _ _ (not-replaced a b i p) (not-replaced a b (i + d) q))

-- the test, and the slot, as code makes them
pub touched-is : (a b k : ℕ) (t : Bool) → t ≡ (replaced a b (k / 17) || replaced a b (k / 17 + k % 17)) → touched a b k ≡ t
unfolding touched
touched-is a b k t e = sym e

pub slot_is : (s : List Float) (rows k : ℕ) → similarity_at s rows k ≡ slot_at s rows (k / 17) (k % 17)
unfolding similarity_at
slot_is s rows k = refl

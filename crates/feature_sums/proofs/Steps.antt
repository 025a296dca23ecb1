-- A lane's step: a row more, or a row of zeros, which leaves the sums as they are.
use mathlib.Core.Path.{◌≡◌, refl, sym, ap, ◌∙◌}
use mathlib.Core.Bool.{Bool, true}
use mathlib.Core.List.{List}
use mathlib.Core.Logic.{◌⊎◌, inl, inr}
use Prim.Native.Nat.{ℕ, ◌+◌, ◌-◌, ◌*◌, ◌≤◌, ◌<◌, min, max}
use native.Mathlib.Nat.{le_refl, le_trans, le-max_left, le-max_right, max-le}
use native.Mathlib.Omega.{arith}
use lib.ListN.{length}
use lib.Ieee.{Float, nan, binary64, mul, le, of_bits}
use borrow.Author.Tests.{lt-ltb, le-ltb}
use Rattle.numbers.specs.Rounded.{nought, sum_from, sum_of, squared}
use Rattle.numbers.specs.Lists.{row, every}
use Rattle.numbers.proofs.Tests.{lt_or_le, pick_true, pick-false}
use Rattle.numbers.proofs.Everys.{every_by}
use Rattle.numbers.proofs.Overs.{every-row, length-row}
use Rattle.numbers.proofs.Sums.{sum-append}
use Rattle.sizes.specs.Sizes.{Plus}
use Rattle.sizes.proofs.Signs.{square_plus, plus_from_nought}
use Rattle.feature_bins.specs.Bins.{bin_count}
use Rattle.feature_lanes.specs.Addends.{strength_fine, itself, by_class, by_band, addends, gathered, LaneAdded, FineRow}
use Rattle.feature_lanes.proofs.Strengths.{strength_from, strength_not_nan}
use Rattle.feature_sums.specs.Lanes.{all, ZeroRow, row_of_lane, LaneSums, NoSums}
use Rattle.feature_sums.proofs.Signs.{From, sum_of_from, sum_fits}
use Rattle.feature_sums.proofs.Gathered.{gathered-more, gathered_each, zeros_add}

-- ---- rows that can be added

zero-fine : strength_fine nought ≡ true
unfolding strength_fine le of_bits
zero-fine = refl

zeros_fine : (zeros : List Float) → ZeroRow zeros → FineRow zeros
zeros_fine zeros z =
    record { whole = z.whole; fine = every_by strength_fine zeros nan (λ i h. ap strength_fine (z.zero i (omega (arith, z.whole))) ∙ zero-fine) }

pub lane-fine : (m zeros : List Float) (rows t past : ℕ) → length m ≡ rows * bin_count → every strength_fine m ≡ true → ZeroRow zeros → past ≤ rows
    → FineRow (row_of_lane m zeros t past)
unfolding row_of_lane
lane-fine m zeros rows t past l f z h = go (lt_or_le t past)
  where
    go : (t < past) ⊎ (past ≤ t) → FineRow (row_of_lane m zeros t past)
    go (inl b) =
        rw (lt-ltb t past b) (record { whole = length-row m rows bin_count t l (omega arith); fine = every-row strength_fine m bin_count t f })
    go (inr b) = rw (le-ltb t past b) (zeros_fine zeros z)

-- ---- the terms of both kinds

itself-from : (x : Float) → strength_fine x ≡ true → From (itself x)
itself-from x h = record { from = strength_from x h }

squared-from : (x : Float) → strength_fine x ≡ true → From (squared x)
squared-from x h = record { from = plus_from_nought (square_plus binary64 x (strength_not_nan x h)) }

squared-nought : squared nought ≡ nought
unfolding mul of_bits
squared-nought = refl

-- ---- one row more

module _ (term : Float → Float) (bin : ℕ → Bool) (null : term nought ≡ nought) (kept : (x : Float) → strength_fine x ≡ true → From (term x))
    (m zeros : List Float) (fine : every strength_fine m ≡ true) (z : ZeroRow zeros) where
  slot_step : (t past r : ℕ) (was now : Float) → was ≡ sum_of (gathered term bin all m t (min r (past - t)))
      → now ≡ sum_from was (addends term bin 0 (row_of_lane m zeros (t + r) past))
      → now ≡ sum_of (gathered term bin all m t (min (r + 1) (past - t)))
  unfolding row_of_lane
  slot_step t past r was now e s = go (lt_or_le (t + r) past)
    where
      go : (t + r < past) ⊎ (past ≤ t + r) → now ≡ sum_of (gathered term bin all m t (min (r + 1) (past - t)))
      go (inl h) =
          let n : min r (past - t) ≡ r = omega arith in
          let n' : min (r + 1) (past - t) ≡ r + 1 = omega arith in
          s
          ∙ ap (λ (xs : List Float). sum_from was (addends term bin 0 xs)) (pick_true _ _ _ (lt-ltb (t + r) past h))
          ∙ ap (λ (x : Float). sum_from x (addends term bin 0 (row m bin_count (t + r)))) (e ∙ ap (λ (k : ℕ). sum_of (gathered term bin all m t k)) n)
          ∙ sym (sum-append nought (gathered term bin all m t r) (addends term bin 0 (row m bin_count (t + r))))
          ∙ ap sum_of (sym (gathered-more term bin all m r t refl))
          ∙ ap (λ (k : ℕ). sum_of (gathered term bin all m t k)) (sym n')
      go (inr h) =
          let k : min (r + 1) (past - t) ≡ min r (past - t) = omega arith in
          let xs = gathered term bin all m t (min r (past - t)) in
          let p : Plus (sum_of xs) = sum_of_from (gathered_each term bin From kept all m (min r (past - t)) t fine) in
          s
          ∙ ap (λ (xs : List Float). sum_from was (addends term bin 0 xs)) (pick-false _ _ _ (le-ltb (t + r) past h))
          ∙ ap (λ (x : Float). sum_from x (addends term bin 0 zeros)) e
          ∙ zeros_add term bin zeros 0 (sum_of xs) null (sum_fits xs) p (λ i b. z.zero i (omega (arith, z.whole)))
          ∙ ap (λ (k : ℕ). sum_of (gathered term bin all m t k)) (sym k)

module _ (codes : List ℕ) (m zeros : List Float) (fine : every strength_fine m ≡ true) (z : ZeroRow zeros) where
  pub lane-more : {classes bands classes' bands' : List Float} {lane : ℕ} (t past r : ℕ)
      → LaneAdded codes (row_of_lane m zeros (t + r) past) classes bands classes' bands' lane
      → LaneSums codes m t (min r (past - t)) classes bands lane
      → LaneSums codes m t (min (r + 1) (past - t)) classes' bands' lane
  lane-more t past r a s =
      record {
        class = λ p h. slot_step itself (by_class codes p) refl itself-from m zeros fine z t past r _ _ (s.class p h) (a.class p h);
        band = λ p h. slot_step squared (by_band codes p) squared-nought squared-from m zeros fine z t past r _ _ (s.band p h) (a.band p h);
      }

-- ---- no row, and all of them

pub lane-none : (codes : List ℕ) (m classes bands : List Float) (t n lane : ℕ) → lane < 4 → NoSums classes bands
    → LaneSums codes m t (min 0 n) classes bands lane
unfolding gathered sum_from
lane-none codes m classes bands t n lane u z =
    let e : min 0 n ≡ 0 = omega arith in
    rw e (record { class = λ p h. z.class (p * 4 + lane) (omega arith); band = λ p h. z.band (p * 4 + lane) (omega arith) })

pub lane-all : {codes : List ℕ} {m classes bands : List Float} {lane : ℕ} (t n r : ℕ) → n ≤ r → LaneSums codes m t (min r n) classes bands lane
    → LaneSums codes m t n classes bands lane
lane-all t n r h s = let e : min r n ≡ n = omega arith in rw e at s

-- ---- the lane with the most rows

pub most_of : (a b c d e m n k : ℕ) → a ≤ b → b ≤ c → c ≤ d → d ≤ e → m ≡ max (b - a) (c - b) → n ≡ max (d - c) (e - d) → k ≡ max m n
    → (b ≤ a + k) × (c ≤ b + k) × (d ≤ c + k) × (e ≤ d + k) × (k ≤ e)
most_of a b c d e m n k h₁ h₂ h₃ h₄ em en ek =
    let m≤ : m ≤ k = rw ek (le-max_left m n) in
    let n≤ : n ≤ k = rw ek (le-max_right m n) in
    let f₁ : b - a ≤ m = rw em (le-max_left (b - a) (c - b)) in
    let f₂ : c - b ≤ m = rw em (le-max_right (b - a) (c - b)) in
    let f₃ : d - c ≤ n = rw en (le-max_left (d - c) (e - d)) in
    let f₄ : e - d ≤ n = rw en (le-max_right (d - c) (e - d)) in
    let l : c ≤ e = le_trans h₃ h₄ in
    let u₁ : m ≤ e = rw em (max-le (under a b e (le_trans h₂ l)) (under b c e l)) in
    let u₂ : n ≤ e = rw en (max-le (under c d e h₄) (under d e e (le_refl e))) in (
      over a b m k f₁ m≤,
      over b c m k f₂ m≤,
      over c d n k f₃ n≤,
      over d e n k f₄ n≤,
      rw ek (max-le u₁ u₂),
    )
  where
    over : (a b m k : ℕ) → b - a ≤ m → m ≤ k → b ≤ a + k
    over a b m k h l = omega arith

    under : (a b e : ℕ) → b ≤ e → b - a ≤ e
    under a b e h = omega arith

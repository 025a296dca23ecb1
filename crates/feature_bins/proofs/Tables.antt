-- The table of bins: what a bin's number tells of the sums that it adds to, and stretches of one number.
use mathlib.Core.Path.{◌≡◌, refl, sym, ap, ◌∙◌}
use mathlib.Core.Bool.{Bool, true, false, ◌&&◌}
use mathlib.Core.List.{List}
use mathlib.Core.Logic.{◌⊎◌, inl, inr}
use Prim.Native.Nat.{ℕ, ◌+◌, ◌/◌, ◌%◌, ◌≤◌, ◌<◌}
use native.Mathlib.Omega.{arith}
use lib.Dec.{eqb}
use lib.ListN.{length, get_or, set, length-set}
use lib.Seq.{get_or-set_same, get_or-set_other}
use lib.Ieee.{Float, neg, lt, le}
use borrow.Author.Tests.{ne_eqb}
use Rattle.numbers.specs.Rounded.{nought, pick}
use Rattle.floats.specs.Wholes.{round_of}
use Rattle.numbers.proofs.Tests.{lt_or_le}
use Rattle.feature_bins.specs.Bins.{
  bin_count,
  hz_of,
  pitched,
  pitch_of,
  class_below,
  class_of,
  in_class,
  low_high,
  mid_high,
  band_of,
  in_band,
  class_slot,
  code_at,
  Stretch,
  Pasts,
}

-- ---- stretches

-- the last bin by itself
pub last-stretch : (codes pasts : List ℕ) → length pasts ≡ bin_count → Pasts codes 2048 (set pasts 2048 2049)
last-stretch codes pasts e =
    record {
      whole = simp length-set e;
      stretch = λ j a b. at j (omega arith);
    }
  where
    one : (k : ℕ) → k ≡ 2048 → Stretch codes k 2049
    one k h = record { some = omega arith; inside = omega arith; alike = λ j a b. ap (λ (i : ℕ). get_or codes i 0) (omega arith) }

    at : (j : ℕ) → j ≡ 2048 → Stretch codes j (get_or (set pasts 2048 2049) j 0)
    at j h = rw (h, get_or-set_same pasts 2048 2049 0 (omega arith)) (one 2048 refl)

-- one more bin before
pub more-stretch : (codes pasts : List ℕ) (k past : ℕ) → k < bin_count → Pasts codes (k + 1) pasts → Stretch codes k past → Pasts codes k (set pasts k past)
more-stretch codes pasts k past h p s =
    record {
      whole = simp length-set p.whole;
      stretch = λ j a b. at j a b (lt_or_le k j);
    }
  where
    at : (j : ℕ) → k ≤ j → j < bin_count → (k < j) ⊎ (j ≤ k) → Stretch codes j (get_or (set pasts k past) j 0)
    at j a b (inl c) = rw (get_or-set_other pasts k j past 0 (λ e. omega arith)) (p.stretch j (omega arith) b)
    at j a b (inr c) =
        let e : j ≡ k = omega arith in
        rw (e, get_or-set_same pasts k past 0 (omega (arith, p.whole))) s

-- a bin whose number is the next one's ends where that ends
pub longer_stretch : (codes : List ℕ) (k past : ℕ) → get_or codes k 0 ≡ get_or codes (k + 1) 0 → Stretch codes (k + 1) past → Stretch codes k past
longer_stretch codes k past e s =
    record {
      some = omega (arith, s.some);
      inside = s.inside;
      alike = λ j a b. at j a b (lt_or_le k j);
    }
  where
    at : (j : ℕ) → k ≤ j → j < past → (k < j) ⊎ (j ≤ k) → get_or codes j 0 ≡ get_or codes k 0
    at j a b (inl c) = s.alike j (omega arith) b ∙ sym e
    at j a b (inr c) = ap (λ (i : ℕ). get_or codes i 0) (omega arith)

pub short_stretch : (codes : List ℕ) (k : ℕ) → k < bin_count → Stretch codes k (k + 1)
short_stretch codes k h =
    record {
      some = omega arith;
      inside = omega arith;
      alike = λ j a b. ap (λ (i : ℕ). get_or codes i 0) (omega arith);
    }

-- ---- what a number tells

class_under : (pitch : Float) → class_of pitch < 12
unfolding class_of
class_under pitch = go (lt pitch nought) (round_of (neg pitch)) (round_of pitch)
  where
    go : (b : Bool) (m n : ℕ) → pick b (class_below m) (n % 12) < 12
    go true m n = omega arith
    go false m n = omega arith

slot_under : (hz : Float) → class_slot hz < 13
unfolding class_slot
slot_under hz = go (pitched hz) (class_of (pitch_of hz)) (class_under (pitch_of hz))
  where
    go : (b : Bool) (n : ℕ) → n < 12 → pick b n 12 < 13
    go true n h = omega arith
    go false n h = omega arith

band_under : (hz : Float) → band_of hz < 3
unfolding band_of
band_under hz = go (lt hz low_high) (le hz mid_high)
  where
    go : (a b : Bool) → pick a 0 (pick b 1 2) < 3
    go true b = omega arith
    go false true = omega arith
    go false false = omega arith

pub code-class : (rate k : ℕ) → code_at rate k / 4 ≡ class_slot (hz_of rate k)
unfolding code_at
code-class rate k = omega (arith, band_under (hz_of rate k))

pub code-band : (rate k : ℕ) → code_at rate k % 4 ≡ band_of (hz_of rate k)
unfolding code_at
code-band rate k = omega (arith, band_under (hz_of rate k))

pub class-below : (rate k : ℕ) → code_at rate k / 4 < 13
class-below rate k = rw (code-class rate k) (slot_under (hz_of rate k))

pub band-below : (rate k : ℕ) → code_at rate k % 4 < 3
band-below rate k = rw (code-band rate k) (band_under (hz_of rate k))

-- whether a bin adds to a pitch class, by its number
pub class_by_code : (rate p k : ℕ) → p < 12 → in_class rate p k ≡ eqb (code_at rate k / 4) p
unfolding in_class class_slot
class_by_code rate p k h = rw (code-class rate k) (go (pitched (hz_of rate k)) (class_of (pitch_of (hz_of rate k))))
  where
    go : (b : Bool) (n : ℕ) → (b && eqb n p) ≡ eqb (pick b n 12) p
    go true n = refl
    go false n = sym (ne_eqb 12 p (λ e. omega arith))

-- and to a band
pub band_by_code : (rate b k : ℕ) → in_band rate b k ≡ eqb (code_at rate k % 4) b
unfolding in_band
band_by_code rate b k = rw (code-band rate k)

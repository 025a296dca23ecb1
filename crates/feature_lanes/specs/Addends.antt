-- Document 02, No. 7, as in structure.rs `feature_vectors`: what a feature row's twelve pitch classes and three bands are the sums of. Each row of the
-- transform that belongs to it adds, bin by bin, its magnitudes to their pitch classes and their squares to their bands: in ascending order of rows, then of
-- bins.
use Rattle.std.specs.Prelude.{ℕ, zero, suc, ◌+◌, ◌-◌, ◌*◌, ◌/◌, ◌%◌, ◌≤◌, ◌<◌, ◌≡◌, Bool, true, ◌&&◌, List, [], ◌∷◌, ◌++◌, eqb, length, get_or, drop, Float}
use Rattle.std.specs.Float.{nan}
use Rattle.std.specs.Float.Ieee.{le}
use Rattle.numbers.specs.Rounded.{nought, pick, sum_from, squared}
use Rattle.numbers.specs.Limits.{magnitude_top}
use Rattle.numbers.specs.Lists.{tab, row, every}
use Rattle.flux_rows.specs.declared.Four.{Four}
use Rattle.feature_bins.specs.Bins.{bin_count, Pasts}

-- number 4 of these magnitudes: finite, of size at most 2^126, and not negative; -0 is not negative
unfoldable pub strength_fine : Float → Bool
strength_fine x = le nought x && le x magnitude_top

-- what a value adds to a pitch class: itself; to a band it adds its square (`squared`)
abbrev pub itself : Float → Float
itself x = x

-- what the bins of a row that pass the test add, in ascending order; the first of them is bin k
unfoldable pub addends : (term : Float → Float) (bin : ℕ → Bool) (k : ℕ) → List Float → List Float
addends term bin k [] = []
addends term bin k (x ∷ xs) = pick (bin k) (term x ∷ addends term bin (suc k) xs) (addends term bin (suc k) xs)

-- the same of those rows that pass a test, of n rows from row t on
unfoldable pub gathered : (term : Float → Float) (bin belongs : ℕ → Bool) → List Float → (t n : ℕ) → List Float
unfolding addends
gathered term bin belongs magnitudes t zero = []
gathered term bin belongs magnitudes t (suc n) =
    pick (belongs t) (addends term bin 0 (row magnitudes bin_count t)) [] ++ gathered term bin belongs magnitudes (suc t) n

-- ---- for the code alone, which goes by a table of the bins (crate feature_bins); no promise of a call is written in these words

-- what the bins from k up to, not including, past add
abbrev pub stretch_terms : (term : Float → Float) → List Float → (k past : ℕ) → List Float
stretch_terms term values k past = tab (λ i. term (get_or values i nan)) k (past - k)

-- a bin's pitch class is p, 12 for none; its band is b
abbrev pub by_class : (codes : List ℕ) (p k : ℕ) → Bool
by_class codes p k = eqb (get_or codes k 0 / 4) p

abbrev pub by_band : (codes : List ℕ) (b k : ℕ) → Bool
by_band codes b k = eqb (get_or codes k 0 % 4) b

-- the table: each bin's pitch class and band, and where the stretches of one number end
pub record Table (codes pasts : List ℕ) : Type 0 where
  pub whole : length codes ≡ bin_count
  pub class_under : (k : ℕ) → k < bin_count → get_or codes k 0 / 4 < 13
  pub band_under : (k : ℕ) → k < bin_count → get_or codes k 0 % 4 < 3
  pub stretches : Pasts codes 0 pasts

-- four slots of a list, from slot `at` on
pub record FourAt (values : List Float) (at : ℕ) (f : Four) : Type 0 where
  pub a : get_or values at nan ≡ f.a
  pub b : get_or values (at + 1) nan ≡ f.b
  pub c : get_or values (at + 2) nan ≡ f.c
  pub d : get_or values (at + 3) nan ≡ f.d

-- and the other slots as they were
pub record FourPut (was : List Float) (at : ℕ) (f : Four) (after : List Float) : Type 0 where
  pub whole : length after ≡ length was
  pub put : FourAt after at f
  pub below : (i : ℕ) → i < at → get_or after i nan ≡ get_or was i nan
  pub above : (i : ℕ) → at + 4 ≤ i → get_or after i nan ≡ get_or was i nan

-- Four rows go side by side, each in its lane: slot 4p + lane is its sum of pitch class p, 12 for none, or of band p. The row of a lane was added to the sums
-- up to, not including, bin k: with what its bins from k on add they are what they are with the whole row.
pub record Lane (codes : List ℕ) (values : List Float) (k : ℕ) (classes bands classes' bands' : List Float) (lane : ℕ) : Type 0 where
  pub class : (p : ℕ) → p < 13 → sum_from (get_or classes' (p * 4 + lane) nan) (addends itself (by_class codes p) k (drop k values))
      ≡ sum_from (get_or classes (p * 4 + lane) nan) (addends itself (by_class codes p) 0 values)
  pub band : (p : ℕ) → p < 3 → sum_from (get_or bands' (p * 4 + lane) nan) (addends squared (by_band codes p) k (drop k values))
      ≡ sum_from (get_or bands (p * 4 + lane) nan) (addends squared (by_band codes p) 0 values)

-- the whole row of a lane was added
pub record LaneAdded (codes : List ℕ) (values classes bands classes' bands' : List Float) (lane : ℕ) : Type 0 where
  pub class : (p : ℕ) → p < 13 → get_or classes' (p * 4 + lane) nan
      ≡ sum_from (get_or classes (p * 4 + lane) nan) (addends itself (by_class codes p) 0 values)
  pub band : (p : ℕ) → p < 3 → get_or bands' (p * 4 + lane) nan
      ≡ sum_from (get_or bands (p * 4 + lane) nan) (addends squared (by_band codes p) 0 values)

-- four rows, a row to a lane
pub record FourAdded (codes : List ℕ) (a b c d classes bands classes' bands' : List Float) : Type 0 where
  pub classes_whole : length classes' ≡ 52
  pub bands_whole : length bands' ≡ 12
  pub first : LaneAdded codes a classes bands classes' bands' 0
  pub second : LaneAdded codes b classes bands classes' bands' 1
  pub third : LaneAdded codes c classes bands classes' bands' 2
  pub fourth : LaneAdded codes d classes bands classes' bands' 3

-- a row that can be added
pub record FineRow (values : List Float) : Type 0 where
  pub whole : length values ≡ bin_count
  pub fine : every strength_fine values ≡ true

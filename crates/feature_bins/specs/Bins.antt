-- Document 02, No. 7: where a bin of the feature transform stands, its pitch class and its band. The Rust: structure.rs `feature_vectors`, stft.rs `bin_hz`.
-- "Bin k stands at k·rate/4096, one product and one division"; "Rounding is half away from zero and the pitch class is the non-negative remainder by 12."
use Rattle.std.specs.Prelude.{ℕ, ◌+◌, ◌-◌, ◌*◌, ◌%◌, ◌≤◌, ◌<◌, ◌≡◌, Bool, ◌&&◌, List, eqb, length, get_or, Float}
use Rattle.std.specs.Float.Ieee.{neg, lt, le}
use Rattle.numbers.specs.Rounded.{◌⊕◌, ◌⊗◌, ◌⊘◌, bits, real, nought, pick}
use Rattle.floats.specs.Wholes.{round_of}
use Rattle.floats.specs.Logs.{log2_of}

-- bins of a row: half of the transform's samples, and one
abbrev pub bin_count : ℕ
bin_count = 2049

-- 4096, samples of the transform
abbrev pub transform : Float
transform = bits 0x40B0_0000_0000_0000

-- the frequency of bin k: "k·rate/4096, one product and one division"
unfoldable pub hz_of : (rate k : ℕ) → Float
hz_of rate k = real k ⊗ real rate ⊘ transform

-- ---- pitch classes

-- 55 Hz: what is below is mostly rumble
abbrev pub chroma_min : Float
chroma_min = bits 0x404B_8000_0000_0000

-- 5000 Hz: what is above mostly adds noise
abbrev pub chroma_max : Float
chroma_max = bits 0x40B3_8800_0000_0000

-- a frequency that has a pitch class: `(CHROMA_MIN_HZ..=CHROMA_MAX_HZ).contains(&hz)`
unfoldable pub pitched : Float → Bool
pitched hz = le chroma_min hz && le hz chroma_max

-- 440 Hz, whose pitch is 69
abbrev pub concert_a : Float
concert_a = bits 0x407B_8000_0000_0000

-- 69
abbrev pub pitch_of_a : Float
pitch_of_a = bits 0x4051_4000_0000_0000

-- 12, semitones of an octave
abbrev pub octave : Float
octave = bits 0x4028_0000_0000_0000

-- the pitch of a frequency in semitones: 69 + 12·log2(hz/440)
unfoldable pub pitch_of : Float → Float
unfolding log2_of
pitch_of hz = pitch_of_a ⊕ octave ⊗ log2_of (hz ⊘ concert_a)

-- the non-negative remainder by 12 of minus n
abbrev pub class_below : ℕ → ℕ
class_below n = (12 - n % 12) % 12

-- "half away from zero", and then "the non-negative remainder by 12"
unfoldable pub class_of : Float → ℕ
unfolding round_of
class_of pitch = pick (lt pitch nought) (class_below (round_of (neg pitch))) (round_of pitch % 12)

-- whether bin k adds to pitch class p
unfoldable pub in_class : (rate p k : ℕ) → Bool
unfolding hz_of pitched pitch_of class_of
in_class rate p k = pitched (hz_of rate k) && eqb (class_of (pitch_of (hz_of rate k))) p

-- ---- bands

-- 250 Hz
abbrev pub low_high : Float
low_high = bits 0x406F_4000_0000_0000

-- 4000 Hz
abbrev pub mid_high : Float
mid_high = bits 0x40AF_4000_0000_0000

-- the band of a frequency: 0 below 250 Hz, 1 up to 4,000 Hz, 2 above
unfoldable pub band_of : Float → ℕ
band_of hz = pick (lt hz low_high) 0 (pick (le hz mid_high) 1 2)

-- whether bin k adds to band b
unfoldable pub in_band : (rate b k : ℕ) → Bool
unfolding hz_of band_of
in_band rate b k = eqb (band_of (hz_of rate k)) b

-- ---- for the code alone, which keeps a table of the bins; no promise of a call is written in these words

-- the slot of a pitch class among thirteen: the class itself, and 12 where there is none
unfoldable pub class_slot : Float → ℕ
unfolding pitched pitch_of class_of
class_slot hz = pick (pitched hz) (class_of (pitch_of hz)) 12

-- both in one number, so that neighbouring bins that add to the same sums have the same
unfoldable pub code_at : (rate k : ℕ) → ℕ
unfolding hz_of class_slot band_of
code_at rate k = class_slot (hz_of rate k) * 4 + band_of (hz_of rate k)

-- a table of these numbers, bin by bin
pub record Codes (rate : ℕ) (codes : List ℕ) : Type 0 where
  pub whole : length codes ≡ bin_count
  pub code : (k : ℕ) → k < bin_count → get_or codes k 0 ≡ code_at rate k

-- the bins from k up to, not including, `past` have the number of bin k
pub record Stretch (codes : List ℕ) (k past : ℕ) : Type 0 where
  pub some : k < past
  pub inside : past ≤ bin_count
  pub alike : (j : ℕ) → k ≤ j → j < past → get_or codes j 0 ≡ get_or codes k 0

-- a table of where such stretches end, from bin k on
pub record Pasts (codes : List ℕ) (k : ℕ) (pasts : List ℕ) : Type 0 where
  pub whole : length pasts ≡ bin_count
  pub stretch : (j : ℕ) → k ≤ j → j < bin_count → Stretch codes j (get_or pasts j 0)

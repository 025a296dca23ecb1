-- Document 01, Onsets: the onsets of a flux curve, and the times of frames.
use Rattle.std.specs.Prelude.{ℕ, max, true, ◌&&◌, List, map, leb, eqb, length, Float}
use Rattle.numbers.specs.Rounded.{◌⊕◌, ◌⊗◌, ◌⊘◌, bits, real, hop, thousand}
use Rattle.numbers.specs.Limits.{most_rows, rate_fine, value_fine, frame_fine}
use Rattle.numbers.specs.Refusals.{lowest}
use Rattle.numbers.specs.Lists.{curve, every, listed}
use Rattle.numbers.specs.Outcomes.{Listing, Written, ListWritten}
use Rattle.floats.specs.Wholes.{ceil_of}
use Rattle.threshold.specs.Threshold.{threshold_at}
use Rattle.onsets.specs.Peaks.{at, peaks_of, suppressed}

-- 30, the milliseconds between onsets
abbrev pub gap_ms : Float
gap_ms = bits 0x403E_0000_0000_0000

-- 512, the samples from a frame's start to its centre
abbrev pub centre : Float
centre = bits 0x4080_0000_0000_0000

-- "min_gap = max(1, ceil(30/1000·rate/256)), in that order of operations."
unfoldable pub gap_of : (rate : ℕ) → ℕ
gap_of rate = max 1 (ceil_of (gap_ms ⊘ thousand ⊗ real rate ⊘ hop))

-- the onsets of a flux curve with its threshold; fewer than 3 rows have no peak
unfoldable pub onsets_of : (flux threshold : List Float) → (rate : ℕ) → List ℕ
onsets_of flux threshold rate = suppressed flux (gap_of rate) (peaks_of flux (at threshold))

-- the onsets of a flux curve by its own threshold
unfoldable pub onsets_in : (flux : List Float) → (rate : ℕ) → List ℕ
unfolding onsets_of threshold_at
onsets_in flux rate = onsets_of flux (curve (threshold_at flux) (length flux)) rate

-- "Time of frame t in ms: (256t + 512)/rate·1000."
unfoldable pub frame_time : (rate frame : ℕ) → Float
frame_time rate frame = (real frame ⊗ hop ⊕ centre) ⊘ real rate ⊗ thousand

-- ---- refusal

-- 1: the flux has 0 to 1,048,576 slots and the rate is fine. 2: the threshold has as many slots. 3: room for each slot.
-- 4: each value of both is fine.
unfoldable pub onsets_refusal : (flux threshold : List Float) → (rate room : ℕ) → ℕ
onsets_refusal flux threshold rate room =
    lowest (leb (length flux) most_rows && rate_fine rate) (eqb (length threshold) (length flux)) (leb (length flux) room)
    (every value_fine flux && every value_fine threshold)

-- 1: the rate is fine and each frame at most 1,048,575. 3: room for each frame.
unfoldable pub times_refusal : (frames : List ℕ) → (rate room : ℕ) → ℕ
times_refusal frames rate room =
    lowest (rate_fine rate && every frame_fine frames) true (leb (length frames) room) true

-- ---- what the calls promise

-- what `pick_onsets` promises
abbrev pub OnsetsPromise : (flux threshold : List Float) (rate : ℕ) (was : List ℕ) (answer : Listing) (after : List ℕ) → Type 0
OnsetsPromise flux threshold rate was = ListWritten (onsets_refusal flux threshold rate (length was)) (onsets_of flux threshold rate) was

-- what `frame_times` promises
abbrev pub FrameTimesPromise : (frames : List ℕ) (rate : ℕ) (was : List Float) (answer : ℕ) (after : List Float) → Type 0
FrameTimesPromise frames rate was = Written (times_refusal frames rate (length was)) (listed (map (frame_time rate) frames) was) was

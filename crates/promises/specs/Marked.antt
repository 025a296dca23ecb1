-- Document 01, "Marked numbers (M are proved)": the twelve cases in one list, each with what it asks of a definition; and beside M5 to M8 the open
-- bounds of request No. 1.
use Rattle.std.specs.Prelude.{ℕ, Bool, true, false, List, [], ◌∷◌, map, ◌≡◌, eqb, Float}
use Rattle.std.specs.Float.{nan, inf}
use Rattle.std.specs.Float.Ieee.{neg}
use Rattle.numbers.specs.Rounded.{nought, real, pick}
use Rattle.numbers.specs.Lists.{curve}
use Rattle.median.specs.Median.{median_of}
use Rattle.onsets.specs.Peaks.{suppressed}
use Rattle.options.specs.Options.{default_meter, options_of}
use Rattle.lags.specs.Lags.{lag_range}
use Rattle.lags.specs.Pairs.{apart, agrees}
use Rattle.beats.specs.Grids.{grid_of}
use Rattle.bars.specs.Downbeats.{downbeats_of}

-- a curve of n slots with these values at these frames, and +0 elsewhere
unfoldable pub valued : (n : ℕ) → (frames values : List ℕ) → List Float
valued n frames values = curve (value frames values) n
  where
    value : List ℕ → List ℕ → ℕ → Float
    value [] vs t = nought
    value (f ∷ fs) [] t = nought
    value (f ∷ fs) (v ∷ vs) t = pick (eqb f t) (real v) (value fs vs t)

-- plus infinity: no limit
abbrev pub infinity : Float
infinity = inf false

-- what a marked number is about
pub data Case : Type 0 where
  -- the median of values
  median : (values : List ℕ) (is : ℕ) → Case
  -- with a gap, peaks of a flux: those kept
  peaks : (gap : ℕ) (frames flux kept : List ℕ) → Case
  -- at a rate, bounds in BPM: the least lag and the greatest
  lags : (rate min max least most : ℕ) → Case
  -- at rate 48,000, bounds of any kind, infinities and NaNs too: the least lag and the greatest
  bounded : (low high : Float) (least most : ℕ) → Case
  -- beside an accepted lag, another: kept or suppressed
  beside : (accepted lag : ℕ) (kept : Bool) → Case
  -- of a whole lag, a window's: whether it agrees
  window : (whole lag : ℕ) (agreeing : Bool) → Case
  -- of an envelope, with a period: the beats
  grid : (envelope : List ℕ) (period : ℕ) (beats : List ℕ) → Case
  -- of an envelope with its beats: the downbeats
  bars : (envelope beats downbeats : List ℕ) → Case

-- what it says of the definitions
abbrev pub Holds : Case → Type 0
Holds (median values is) = median_of (map real values) ≡ real is
Holds (peaks gap frames flux kept) = suppressed (valued 24 frames flux) gap frames ≡ kept
Holds (lags rate min max least most) = lag_range rate (options_of (real min) (real max)) ≡ record { number = 0; min_lag = least; max_lag = most }
Holds (bounded low high least most) = lag_range 48000 (options_of low high) ≡ record { number = 0; min_lag = least; max_lag = most }
Holds (beside accepted lag kept) = apart lag accepted ≡ kept
Holds (window whole lag agreeing) = agrees whole lag ≡ agreeing
Holds (grid envelope period beats) = grid_of (map real envelope) period ≡ beats
Holds (bars envelope beats downbeats) = downbeats_of (map real envelope) beats default_meter ≡ downbeats

-- the marked numbers, M1 to M12
abbrev pub marked : List Case
marked =
    -- M1 median of 1, 2, 3, 4 is 3
    median (1 ∷ 2 ∷ 3 ∷ 4 ∷ []) 3
    -- M2 gap 6, peaks 10 and 16 of equal flux: 10
    ∷ peaks 6 (10 ∷ 16 ∷ []) (5 ∷ 5 ∷ []) (10 ∷ [])
    -- M3 peaks 10 and 17: both
    ∷ peaks 6 (10 ∷ 17 ∷ []) (5 ∷ 5 ∷ []) (10 ∷ 17 ∷ [])
    -- M4 peaks 10, 16, 22 with flux 5, 6, 7: 22 alone
    ∷ peaks 6 (10 ∷ 16 ∷ 22 ∷ []) (5 ∷ 6 ∷ 7 ∷ []) (22 ∷ [])
    -- M5 rate 48,000, 30 to 300: lags 38 to 375
    ∷ lags 48000 30 300 38 375
    -- M6 reversed 200, 100: lags 56 to 113
    ∷ lags 48000 200 100 56 113
    -- M7 0 and 0: lags 5,625 to 11,250
    ∷ lags 48000 0 0 5625 11250
    -- M8 rate 1: lags 1 to 2
    ∷ lags 1 30 300 1 2
    -- request No. 1, both plus infinity: lags 1 and 2
    ∷ bounded infinity infinity 1 2
    -- 30 and no upper limit: from lag 1 on; and the same reversed
    ∷ bounded (real 30) infinity 1 375
    ∷ bounded infinity (real 30) 1 375
    -- a NaN makes the pair swap: 300 is the lower bound then, and the upper is 1 above it
    ∷ bounded nan (real 300) 37 38
    ∷ bounded (real 30) nan 375 11250
    ∷ bounded nan nan 5625 11250
    -- no limit on either side, and both minus infinity
    ∷ bounded (neg infinity) infinity 1 11250
    ∷ bounded (neg infinity) (neg infinity) 5625 11250
    -- M9 accepted 20: 22 suppressed, 23 kept; accepted 18: 20 kept
    ∷ beside 20 22 false
    ∷ beside 20 23 true
    ∷ beside 18 20 true
    -- M10 whole lag 40: 38, 42 and 19 agree, 37 and 43 don't
    ∷ window 40 38 true
    ∷ window 40 42 true
    ∷ window 40 19 true
    ∷ window 40 37 false
    ∷ window 40 43 false
    -- M11 envelope 0,4,0,4,0,4, P = 2: beats 1, 3, 5, downbeat 1
    ∷ grid (0 ∷ 4 ∷ 0 ∷ 4 ∷ 0 ∷ 4 ∷ []) 2 (1 ∷ 3 ∷ 5 ∷ [])
    ∷ bars (0 ∷ 4 ∷ 0 ∷ 4 ∷ 0 ∷ 4 ∷ []) (1 ∷ 3 ∷ 5 ∷ []) (1 ∷ [])
    -- M12 envelope 4,4,4,4, P = 2: no beats
    ∷ grid (4 ∷ 4 ∷ 4 ∷ 4 ∷ []) 2 []
    ∷ []

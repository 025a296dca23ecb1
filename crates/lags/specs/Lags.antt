-- Document 01, Tempo and candidates, and request No. 1 of document 02, open tempo bounds: the lags, in frames, that two bounds in beats a minute
-- stand for, whichever floats they are.
use Rattle.std.specs.Prelude.{ℕ, ◌+◌, ◌-◌, max, Bool, ◌&&◌, Float, Result, Ok, Err}
use Rattle.std.specs.Float.Ieee.{lt, le}
use Rattle.numbers.specs.Rounded.{◌⊕◌, ◌⊗◌, ◌⊘◌, bits, real, pick, one, hop}
use Rattle.numbers.specs.Limits.{rate_fine}
use Rattle.numbers.specs.Refusals.{number, out_of_bounds}
use Rattle.numbers.specs.declared.Refusal.{Refusal}
use Rattle.floats.specs.Wholes.{round_of}
use Rattle.options.specs.Options.{options_fine}
use Rattle.options.specs.declared.TempoOpts.{TempoOpts}
use Rattle.lags.specs.declared.LagRange.{LagRange}

-- 60, seconds of a minute
abbrev pub sixty : Float
sixty = bits 0x404E_0000_0000_0000

-- "Swap if reversed", "compare as IEEE does, so a NaN makes the pair swap": the lower and the upper bound
unfoldable pub lower_bound : TempoOpts → Float
lower_bound o = pick (le o.min_bpm o.max_bpm) o.min_bpm o.max_bpm

unfoldable pub upper_bound : TempoOpts → Float
upper_bound o = pick (le o.min_bpm o.max_bpm) o.max_bpm o.min_bpm

-- max(x, least): x where it is above least, and else least, also where x is a NaN
unfoldable pub no_less : (least x : Float) → Float
no_less least x = pick (lt least x) x least

-- "lo = max(lo, 1)": "lo is 1 if NaN or less"
unfoldable pub low_bpm : TempoOpts → Float
unfolding lower_bound no_less
low_bpm o = no_less one (lower_bound o)

-- "hi = max(hi, lo + 1)": "hi is lo + 1 if NaN or less"
unfoldable pub high_bpm : TempoOpts → Float
unfolding upper_bound no_less low_bpm
high_bpm o = no_less (low_bpm o ⊕ one) (upper_bound o)

-- "With frame rate f = rate/256": f·60, frames a minute
unfoldable pub frames_per_minute : ℕ → Float
frames_per_minute rate = real rate ⊘ hop ⊗ sixty

-- f·60/x: the lag of a tempo x in beats a minute, and the tempo of a lag x in frames
unfoldable pub minute_over : ℕ → Float → Float
unfolding frames_per_minute
minute_over rate x = frames_per_minute rate ⊘ x

-- "bpm = f·60/lag", the tempo of a lag
unfoldable pub bpm_at : ℕ → ℕ → Float
unfolding minute_over
bpm_at rate lag = minute_over rate (real lag)

-- "min_lag = max(1, round(f·60/hi))"
unfoldable pub min_lag : ℕ → TempoOpts → ℕ
unfolding high_bpm minute_over round_of
min_lag rate o = max 1 (round_of (minute_over rate (high_bpm o)))

-- "max_lag = max(min_lag + 1, round(f·60/lo))"
unfoldable pub max_lag : ℕ → TempoOpts → ℕ
unfolding low_bpm minute_over round_of min_lag
max_lag rate o = max (min_lag rate o + 1) (round_of (minute_over rate (low_bpm o)))

-- "L = max_lag - min_lag + 1", the slots of a lag curve
abbrev pub lag_room : (min_lag max_lag : ℕ) → ℕ
lag_room min_lag max_lag = max_lag - min_lag + 1

-- what number 1 looks at, of the rate and the options: "Sample rate 1 to 192,000", and "a meter outside 1 to 16 is number 1", which the lags
-- don't read: the record is judged whole. "Number 1 no longer covers BPM bounds", whichever floats they are.
unfoldable pub bounds_fine : ℕ → TempoOpts → Bool
unfolding options_fine
bounds_fine rate o = rate_fine rate && options_fine o

-- what `lag_range` says: its number, and the least and the greatest lag
pub record LagsSaid : Type 0 where
  pub number : ℕ
  pub min_lag : ℕ
  pub max_lag : ℕ

-- by its answer: `Ok` is number 0 and both lags, `Err e` the number of e in the table, and zeros
abbrev pub lags_said : Result LagRange Refusal → LagsSaid
lags_said (Ok range) = record { number = 0; min_lag = range.min_lag; max_lag = range.max_lag }
lags_said (Err e) = record { number = number e; min_lag = 0; max_lag = 0 }

-- what it says: number 0 and both lags, or number 1 and zeros
unfoldable pub lag_range : ℕ → TempoOpts → LagsSaid
unfolding bounds_fine min_lag max_lag
lag_range rate o =
    pick (bounds_fine rate o)
    (record { number = 0; min_lag = min_lag rate o; max_lag = max_lag rate o })
    (record { number = out_of_bounds; min_lag = 0; max_lag = 0 })

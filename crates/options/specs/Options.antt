-- Document 01, Tempo and candidates: "The options hold min_bpm and max_bpm, with defaults 30 and 300 and one setter each." Request No. 4 of
-- document 02: "Put beats per bar, 1 to 16 with default 4, in the same options record that holds the BPM bounds".
use Rattle.std.specs.Prelude.{ℕ, Bool, Float}
use Rattle.numbers.specs.Rounded.{bits}
use Rattle.numbers.specs.Limits.{between}
use Rattle.options.specs.declared.TempoOpts.{TempoOpts}

-- 30
abbrev pub default_min_bpm : Float
default_min_bpm = bits 0x403E_0000_0000_0000

-- 300
abbrev pub default_max_bpm : Float
default_max_bpm = bits 0x4072_C000_0000_0000

-- "default 4"
abbrev pub default_meter : ℕ
default_meter = 4

-- the most beats a bar
abbrev pub most_meter : ℕ
most_meter = 16

-- the options with these bounds, and bars of 4
abbrev pub options_of : (min_bpm max_bpm : Float) → TempoOpts
options_of min_bpm max_bpm = record { min_bpm = min_bpm; max_bpm = max_bpm; meter = default_meter }

abbrev pub default_options : TempoOpts
default_options = options_of default_min_bpm default_max_bpm

-- the options o with another lower bound, with another upper bound, and with another meter
abbrev pub with_min_bpm : Float → TempoOpts → TempoOpts
with_min_bpm bpm o = record { min_bpm = bpm; max_bpm = o.max_bpm; meter = o.meter }

abbrev pub with_max_bpm : Float → TempoOpts → TempoOpts
with_max_bpm bpm o = record { min_bpm = o.min_bpm; max_bpm = bpm; meter = o.meter }

abbrev pub with_meter : ℕ → TempoOpts → TempoOpts
with_meter meter o = record { min_bpm = o.min_bpm; max_bpm = o.max_bpm; meter = meter }

-- what number 1 looks at, of the options: "a meter outside 1 to 16 is number 1". Any two floats are bounds (request No. 1).
unfoldable pub options_fine : TempoOpts → Bool
options_fine o = between 1 most_meter o.meter

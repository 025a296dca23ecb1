-- Document 02, No. 3: "A beat's time is rounded half up to whole microseconds." The time itself is document 01's, "(256t + 512)/rate", as an
-- exact fraction: no float stands here.
use Rattle.std.specs.Prelude.{ℕ, ◌+◌, ◌*◌, ◌/◌}

-- 256t + 512, the sample at a frame's centre
abbrev pub sample_of : ℕ → ℕ
sample_of t = t * 256 + 512

-- a / b rounded half up: the whole part of a / b + 1/2
abbrev pub half_up : ℕ → ℕ → ℕ
half_up a b = (a * 2 + b) / (b * 2)

-- (256t + 512) / rate seconds in microseconds, rounded half up
unfoldable pub microseconds : ℕ → ℕ → ℕ
microseconds t rate = half_up (sample_of t * 1000000) rate

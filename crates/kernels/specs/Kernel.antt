-- Document 01, "Sections (001)", the kernel: "u then v, each -8 to 7 ..; sign plus when u and v are both below 0 or both not; weight
-- exp(-(u²+v²)/32), kept as a table of sixteen rows of sixteen."
--
-- An offset from -8 to 7 is written by its place, 0 to 15: place p is the offset p - 8.
use Rattle.std.specs.Prelude.{ℕ, ◌+◌, ◌-◌, ◌*◌, Bool, List, ltb, Float}
use Rattle.std.specs.Bool.{beq}
use Rattle.std.specs.Float.Ieee.{neg}
use Rattle.numbers.specs.Rounded.{◌⊗◌, ◌⊘◌, bits, real, pick, one}
use Rattle.numbers.specs.Lists.{curve}
use Rattle.floats.specs.Exps.{exp_of}

-- the offsets from -8 to 7
abbrev pub places : ℕ
places = 16

-- the place of offset 0
abbrev pub middle : ℕ
middle = 8

-- the size of the offset at place p
abbrev pub away : ℕ → ℕ
away p = (p - middle) + (middle - p)

-- 32
abbrev pub taper : Float
taper = bits 0x4040_0000_0000_0000

-- "exp(-(u²+v²)/32)", of the sum of the squares, by libm's exp
unfoldable pub weight_of : ℕ → Float
unfolding exp_of
weight_of squares = exp_of (neg (real squares) ⊘ taper)

-- "u and v are both below 0 or both not"
abbrev pub alike : ℕ → ℕ → Bool
alike u v = beq (ltb u middle) (ltb v middle)

-- 1, or -1
unfoldable pub sign_at : ℕ → ℕ → Float
sign_at u v = pick (alike u v) one (neg one)

-- an entry of the table: the sign times the weight
unfoldable pub kernel_at : ℕ → ℕ → Float
unfolding sign_at weight_of
kernel_at u v = sign_at u v ⊗ weight_of (away u * away u + away v * away v)

-- "a table of sixteen rows of sixteen"
unfoldable pub kernel_table : List (List Float)
unfolding kernel_at
kernel_table = curve (λ u. curve (kernel_at u) places) places

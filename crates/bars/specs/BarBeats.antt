-- Document 01, "Beats and bars": "`bar_beat_at` takes a time and two lent lists of times, any f64, and keeps its 0.000001 slack and a least
-- beat of 1." Every comparison with a NaN is false, and nothing is refused.
use Rattle.std.specs.Prelude.{◌≡◌, Bool, ◌&&◌, List, [], ◌∷◌, ℕ, zero, suc, max, length, get_or, Float}
use Rattle.std.specs.Float.{nan}
use Rattle.std.specs.Float.Ieee.{le}
use Rattle.numbers.specs.Rounded.{◌⊕◌, ◌⊖◌, bits, pick}
use Rattle.bars.specs.declared.BarBeat.{BarBeat}
use Rattle.bars.specs.declared.BarBeat.TheVariants.{Nowhere, At}

-- 0.000001, in the times' own unit
abbrev pub slack : Float
slack = bits 0x3EB0_C6F7_A0B5_ED8D

-- of the first k downbeats, the last that is at most `limit`, counted from 1: 0 where none is
unfoldable pub last_bar : Float → List Float → ℕ → ℕ
last_bar limit downbeats zero = 0
last_bar limit downbeats (suc k) = pick (le (get_or downbeats k nan) limit) (suc k) (last_bar limit downbeats k)

-- lo ≤ t ≤ hi
abbrev pub during : (lo hi t : Float) → Bool
during lo hi t = le lo t && le t hi

-- how many times pass the test
unfoldable pub passing : (Float → Bool) → List Float → ℕ
passing test [] = 0
passing test (t ∷ ts) = let rest = passing test ts in pick (test t) (suc rest) rest

-- a time in bar k + 1: the beats from its downbeat up to the time, both with the slack; "a least beat of 1"
unfoldable pub beat_in : ℕ → Float → List Float → List Float → ℕ
beat_in k time downbeats beats = max 1 (passing (during (get_or downbeats k nan ⊖ slack) (time ⊕ slack)) beats)

-- What an answer says, "this paper's number and values for each of its cases". Nothing is refused, so both are number 0; `Nowhere` has no
-- values, and `At` has the bar and the beat.
abbrev pub bar_beat_says : BarBeat → ℕ × List ℕ
bar_beat_says Nowhere = (0, [])
bar_beat_says (At bar beat) = (0, bar ∷ beat ∷ [])

-- the bar and the beat of a time in this bar, both from 1: none in bar 0, where no downbeat is reached
unfoldable pub in_bar : (bar : ℕ) → Float → List Float → List Float → List ℕ
in_bar zero time downbeats beats = []
in_bar (suc k) time downbeats beats = suc k ∷ beat_in k time downbeats beats ∷ []

-- the bar and the beat of a time, none where it lies in no bar
unfoldable pub bar_and_beat : (time : Float) → (downbeats beats : List Float) → List ℕ
bar_and_beat time downbeats beats = in_bar (last_bar (time ⊕ slack) downbeats (length downbeats)) time downbeats beats

-- the promise of `bar_beat_at`: what its answer says
abbrev pub BarBeatPromise : (time : Float) (downbeats beats : List Float) → (answer : BarBeat) → Type 0
BarBeatPromise time downbeats beats answer = bar_beat_says answer ≡ (0, bar_and_beat time downbeats beats)

-- Document 02, No. 6: "start, tab, end, tab, the word beat, line feed, both times equal, seconds with no needless zeros in front and six decimals".
use Rattle.std.specs.Prelude.{ℕ, ◌+◌, ◌*◌, Bool, ◌&&◌, List, [], ◌∷◌, ◌++◌, eqb, length, take, drop}
use Rattle.texts.specs.Texts.{starts}
use Rattle.texts.specs.Decimals.{leading, behind, plain, number_from}
use Rattle.label_seconds.specs.Seconds.{dot, seconds_text}

-- ---- as it is written

-- what stands between the two times
abbrev pub tab_text : List ℕ
tab_text = 9 ∷ []

-- a tab, `beat` and a line feed
abbrev pub beat_text : List ℕ
beat_text = 9 ∷ 98 ∷ 101 ∷ 97 ∷ 116 ∷ 10 ∷ []

-- the line of a time
unfoldable pub label_line : ℕ → List ℕ
unfolding seconds_text
label_line u = seconds_text u ++ (tab_text ++ (seconds_text u ++ beat_text))

-- ---- as it is read

-- what stands behind the point of the first time
abbrev pub fraction : List ℕ → List ℕ
fraction text = drop 1 (behind text)

-- the bytes of the first time, where it has six decimals
abbrev pub time_length : List ℕ → ℕ
time_length text = length (leading text) + 7

-- the bytes of the line
abbrev pub line_length : List ℕ → ℕ
line_length text = time_length text + time_length text + 7

-- a text whose first line is of the form: digits without a needless zero, a point, six digits, a tab, the same bytes again, and what stands behind them
unfoldable pub line_fine : List ℕ → Bool
unfolding starts leading behind plain
line_fine text =
    plain (leading text)
    && (starts (dot ∷ []) (behind text)
    && (eqb (length (leading (fraction text))) 6
    && (starts tab_text (drop (time_length text) text)
    && (starts (take (time_length text) text) (drop (time_length text + 1) text)
    && starts beat_text (drop (time_length text + time_length text + 1) text)))))

-- its time, in microseconds
unfoldable pub time_of : List ℕ → ℕ
unfolding leading behind number_from
time_of text = number_from 0 (leading text) * 1000000 + number_from 0 (leading (fraction text))

-- Document 01, "The reporting program": "A refusal writes `refused`, a space and the number. Lines list frames or lags with one space between,
-- or `none`, and stability as agreeing/windows." A text is the list of its bytes.
use Rattle.std.specs.Prelude.{ℕ, zero, suc, ◌+◌, ◌*◌, ◌≤◌, List, [], ◌∷◌, ◌++◌, length, take}
use Rattle.texts.specs.Texts.{space, line_feed, Put}
use Rattle.texts.specs.Decimals.{decimal}

-- ---- the words

-- `refused`
abbrev pub refused_word : List ℕ
refused_word = 114 ∷ 101 ∷ 102 ∷ 117 ∷ 115 ∷ 101 ∷ 100 ∷ []

-- `onsets`
abbrev pub onsets_word : List ℕ
onsets_word = 111 ∷ 110 ∷ 115 ∷ 101 ∷ 116 ∷ 115 ∷ []

-- `lag`
abbrev pub lag_word : List ℕ
lag_word = 108 ∷ 97 ∷ 103 ∷ []

-- `candidates`
abbrev pub candidates_word : List ℕ
candidates_word = 99 ∷ 97 ∷ 110 ∷ 100 ∷ 105 ∷ 100 ∷ 97 ∷ 116 ∷ 101 ∷ 115 ∷ []

-- `beats`
abbrev pub beats_word : List ℕ
beats_word = 98 ∷ 101 ∷ 97 ∷ 116 ∷ 115 ∷ []

-- `downbeats`
abbrev pub downbeats_word : List ℕ
downbeats_word = 100 ∷ 111 ∷ 119 ∷ 110 ∷ 98 ∷ 101 ∷ 97 ∷ 116 ∷ 115 ∷ []

-- `stability`
abbrev pub stability_word : List ℕ
stability_word = 115 ∷ 116 ∷ 97 ∷ 98 ∷ 105 ∷ 108 ∷ 105 ∷ 116 ∷ 121 ∷ []

-- a space and `none`
abbrev pub none_text : List ℕ
none_text = 32 ∷ 110 ∷ 111 ∷ 110 ∷ 101 ∷ []

-- `/`
abbrev pub slash : ℕ
slash = 47

-- ---- the lines

-- a space and a number
abbrev pub spaced : ℕ → List ℕ
spaced n = space ∷ decimal n

-- each number with a space before it
unfoldable pub numbers_text : List ℕ → List ℕ
numbers_text [] = []
numbers_text (n ∷ ns) = spaced n ++ numbers_text ns

-- the same, or `none` where there is no number
unfoldable pub list_text : List ℕ → List ℕ
unfolding numbers_text
list_text [] = none_text
list_text (n ∷ ns) = numbers_text (n ∷ ns)

-- a word and its list
unfoldable pub line_text : (word : List ℕ) → List ℕ → List ℕ
unfolding list_text
line_text word ns = word ++ list_text ns ++ (line_feed ∷ [])

-- agreeing/windows; no windows are no stability
unfoldable pub share_text : (agreeing windows : ℕ) → List ℕ
share_text agreeing zero = none_text
share_text agreeing (suc k) = spaced agreeing ++ (slash ∷ []) ++ decimal (suc k)

-- the line of the stability
unfoldable pub stability_text : (agreeing windows : ℕ) → List ℕ
unfolding share_text
stability_text agreeing windows = stability_word ++ share_text agreeing windows ++ (line_feed ∷ [])

-- the six lines of a report: the lag is the first candidate
unfoldable pub report_text : (onsets candidates beats downbeats : List ℕ) → (agreeing windows : ℕ) → List ℕ
unfolding line_text stability_text
report_text onsets candidates beats downbeats agreeing windows =
    line_text onsets_word onsets
    ++ line_text lag_word (take 1 candidates)
    ++ line_text candidates_word candidates
    ++ line_text beats_word beats
    ++ line_text downbeats_word downbeats
    ++ stability_text agreeing windows

-- the line of a refusal
unfoldable pub refusal_text : ℕ → List ℕ
refusal_text number = refused_word ++ spaced number ++ (line_feed ∷ [])

-- ---- as it is written into lent bytes, and the room for it

-- A piece is written from `at` on, and the place behind it is at most `most` bytes on.
pub record PutWithin (was : List ℕ) (at : ℕ) (piece : List ℕ) (most end : ℕ) (after : List ℕ) : Type 0 where
  pub put : Put was at piece end after
  pub end_most : end ≤ at + most

-- digits of a number below 2 ^ 32
abbrev pub number_room : ℕ
number_room = 10

-- and a space before it
abbrev pub spaced_room : ℕ
spaced_room = 1 + number_room

-- n such numbers
abbrev pub numbers_room : ℕ → ℕ
numbers_room n = spaced_room * n

-- or `none`
abbrev pub list_room : ℕ → ℕ
list_room n = length none_text + numbers_room n

-- a word of so many bytes, a list of n numbers, a line feed
abbrev pub line_room : (word n : ℕ) → ℕ
line_room word n = word + list_room n + 1

-- agreeing/windows, or `none`
abbrev pub share_room : ℕ
share_room = spaced_room + 1 + number_room

abbrev pub stability_room : ℕ
stability_room = length stability_word + share_room + 1

-- candidates of an estimate
abbrev pub most_candidates : ℕ
most_candidates = 3

-- a report of so many onsets, beats and downbeats: its six lines
abbrev pub report_room : (onsets beats downbeats : ℕ) → ℕ
report_room onsets beats downbeats =
    line_room (length onsets_word) onsets
    + line_room (length lag_word) 1
    + line_room (length candidates_word) most_candidates
    + line_room (length beats_word) beats
    + line_room (length downbeats_word) downbeats
    + stability_room

-- the line of a refusal
abbrev pub refusal_room : ℕ
refusal_room = length refused_word + spaced_room + 1

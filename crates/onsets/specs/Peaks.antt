-- Document 01, Onsets: peaks of a curve, and the suppression of those that are close together.
use Rattle.std.specs.Prelude.{ℕ, ◌+◌, ◌-◌, Bool, true, ◌&&◌, List, [], ◌∷◌, leb, ltb, length, get_or, Float}
use Rattle.std.specs.Float.{nan}
use Rattle.std.specs.Float.Ieee.{lt, le}
use Rattle.numbers.specs.Rounded.{pick}
use Rattle.numbers.specs.Limits.{most_rows, value_fine}
use Rattle.numbers.specs.Refusals.{lowest}
use Rattle.numbers.specs.Lists.{tab, every, ascending}
use Rattle.numbers.specs.Outcomes.{Listing, ListWritten}

-- slot t of a curve
abbrev pub at : List Float → ℕ → Float
at curve t = get_or curve t nan

-- ---- "A peak at 1 ≤ t ≤ N-2 has flux above its threshold, at least the previous flux, above the next."

-- slot t is above the level, at least the slot before it, and above the next
unfoldable pub is_peak : List Float → (level : Float) → ℕ → Bool
is_peak curve level t = lt level (at curve t) && (le (at curve (t - 1)) (at curve t) && lt (at curve (t + 1)) (at curve t))

-- the entries that pass the test
unfoldable pub those : (ℕ → Bool) → List ℕ → List ℕ
those p [] = []
those p (x ∷ xs) = pick (p x) (x ∷ those p xs) (those p xs)

-- the peaks of a curve, by a rule that gives each slot its threshold
unfoldable pub peaks_of : List Float → (threshold : ℕ → Float) → List ℕ
peaks_of curve threshold = those (λ t. is_peak curve (threshold t) t) (tab (λ t. t) 1 (length curve - 2))

-- ---- "The first peak opens a group and is its best. A next peak joins while its distance from the current best is at most
-- min_gap, and becomes the best only if strictly greater. Each group's best is kept."

-- a next peak joins the group of this best
abbrev pub joins : (gap best peak : ℕ) → Bool
joins gap best peak = leb (peak - best) gap

-- the group's best after a peak joined it
abbrev pub better : List Float → (best peak : ℕ) → ℕ
better curve best peak = pick (lt (at curve best) (at curve peak)) peak best

-- the bests of a group, whose best so far is given, and of the groups of the peaks that follow
unfoldable pub bests : List Float → (gap best : ℕ) → List ℕ → List ℕ
bests curve gap best [] = best ∷ []
bests curve gap best (peak ∷ peaks) =
    pick (joins gap best peak) (bests curve gap (better curve best peak) peaks) (best ∷ bests curve gap peak peaks)

-- the peaks that are kept
unfoldable pub suppressed : List Float → (gap : ℕ) → List ℕ → List ℕ
suppressed curve gap [] = []
suppressed curve gap (peak ∷ peaks) = bests curve gap peak peaks

-- ---- refusal

-- no entry points past a curve of n slots
abbrev pub point_into : ℕ → List ℕ → Bool
point_into n xs = every (λ x. ltb x n) xs

-- 1: the curve has 0 to 1,048,576 slots, the list ascends strictly and no peak points past the curve. 3: room for each peak.
-- 4: each value of the curve is fine.
unfoldable pub suppression_refusal : (peaks : List ℕ) → List Float → (room : ℕ) → ℕ
suppression_refusal peaks curve room =
    lowest (leb (length curve) most_rows && (ascending 0 peaks && point_into (length curve) peaks)) true
    (leb (length peaks) room) (every value_fine curve)

-- what `suppress_close_peaks` promises
abbrev pub SuppressionPromise : (peaks : List ℕ) (curve : List Float) (gap : ℕ) (was : List ℕ) (answer : Listing) (after : List ℕ) → Type 0
SuppressionPromise peaks curve gap was = ListWritten (suppression_refusal peaks curve (length was)) (suppressed curve gap peaks) was

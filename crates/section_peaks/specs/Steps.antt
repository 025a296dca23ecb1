-- Inner: how far the walks over the peaks have come, and the cut by which the greatest are chosen. No promise of a public call is
-- written in these words.
use Rattle.std.specs.Prelude.{ℕ, suc, ◌+◌, ◌-◌, ◌≤◌, ◌<◌, ◌≡◌, Bool, true, false, List, [], ◌∷◌, ltb, length, Float}
use Rattle.numbers.specs.Rounded.{pick}
use Rattle.numbers.specs.Lists.{tab, listed}
use Rattle.numbers.specs.Outcomes.{Open}
use Rattle.floats.specs.TotalOrder.{key}
use Rattle.median.specs.Ranks.{below}
use Rattle.onsets.specs.Peaks.{at, is_peak, those, suppressed}
use Rattle.onsets.specs.Steps.{Picked}
use Rattle.section_peaks.specs.declared.Group.{Group}
use Rattle.section_peaks.specs.declared.Cut.{Cut}
use Rattle.section_peaks.specs.declared.Verdict.{Verdict}

-- ---- the walk from peak to peak and from group to group

-- the peaks of a curve at one level, from slot t on
unfoldable pub peaks_from : List Float → Float → ℕ → List ℕ
peaks_from curve level t = those (λ s. is_peak curve level s) (tab (λ s. s) t (length curve - 1 - t))

-- the bests of their groups
unfoldable pub kept_from : List Float → Float → (gap : ℕ) → ℕ → List ℕ
unfolding peaks_from
kept_from curve level gap t = suppressed curve gap (peaks_from curve level t)

-- t is a peak, or past the last slot that can be one
pub record AtPeak (curve : List Float) (level : Float) (t : ℕ) : Type 0 where
  pub peak : t < length curve - 1 → is_peak curve level t ≡ true

-- r is the first peak from slot t on
pub record Next (curve : List Float) (level : Float) (t r : ℕ) : Type 0 where
  pub from : t ≤ r
  pub stands : AtPeak curve level r
  pub same : peaks_from curve level t ≡ peaks_from curve level r

-- the group that the peak t opens: its best, and the peak that opens the next one
pub record Grouped (curve : List Float) (level : Float) (gap t : ℕ) (r : Group) : Type 0 where
  pub best_in : r.best < length curve - 1
  pub past : t < r.next
  pub stands : AtPeak curve level r.next
  pub kept : kept_from curve level gap t ≡ r.best ∷ kept_from curve level gap r.next

-- ---- the cut

-- The cut through a list of values, `most` of which are to be taken: fewer lie above its level, no fewer lie there or above, and
-- `spare` is how many are taken of those that lie there.
pub record CutAt (most : ℕ) (values : List Float) (r : Cut) : Type 0 where
  pub reaches : below (key r.level) values + most ≤ length values
  pub stays : length values < most + below (suc (key r.level)) values
  pub spares : r.spare + length values ≡ most + below (suc (key r.level)) values

-- whether a value with key k is taken at a cut with level l, where `spare` of those at the level may still be
abbrev pub taken : (l spare k : ℕ) → Bool
taken l spare k = pick (ltb l k) true (pick (ltb k l) false (ltb 0 spare))

-- how many may be afterwards
abbrev pub spared : (l spare k : ℕ) → ℕ
spared l spare k = pick (ltb l k) spare (pick (ltb k l) spare (spare - 1))

pub record Judged (l spare k : ℕ) (r : Verdict) : Type 0 where
  pub taken_is : r.taken ≡ taken l spare k
  pub spared_is : r.spare ≡ spared l spare k

-- the rows of a list that are taken
unfoldable pub chosen : List Float → (l spare : ℕ) → List ℕ → List ℕ
chosen curve l spare [] = []
chosen curve l spare (x ∷ xs) =
    let rest = chosen curve l (spared l spare (key (at curve x))) xs in
    pick (taken l spare (key (at curve x))) (x ∷ rest) rest

-- an inner call that lists values and says how many
pub record Noted (entries was : List Float) (count : ℕ) (after : List Float) : Type 0 where
  pub count_is : count ≡ length entries
  pub slots_are : after ≡ listed entries was

-- an inner call that lists rows and says how many, and sorts in the first n slots of a work slice
pub record PickedIn (n : ℕ) (entries was : List ℕ) (work : List Float) (count : ℕ) (after : List ℕ) (work' : List Float) : Type 0 where
  pub picked : Picked entries was count after
  pub works : Open n work work'

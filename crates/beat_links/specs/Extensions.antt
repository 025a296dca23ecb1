-- Document 01, "Beats and bars": the penalty of an interval, the earlier beats of a frame, and the best extension, which is what it links to.
use Rattle.std.specs.Prelude.{List, ℕ, zero, suc, ◌+◌, ◌-◌, ◌*◌, ◌/◌, ◌≤◌, ◌<◌, get_or, Float}
use Rattle.std.specs.Float.{nan}
use Rattle.std.specs.Float.Ieee.{neg}
use Rattle.numbers.specs.Rounded.{◌⊕◌, ◌⊗◌, ◌⊘◌, bits, real, nought}
use Rattle.floats.specs.Logs.{log_of}
use Rattle.lists.specs.declared.Best.{Best}
use Rattle.lists.specs.Greatest.{greatest}

-- ---- the penalty of an interval

-- 400
abbrev pub four_hundred : Float
four_hundred = bits 0x4079_0000_0000_0000

-- "-400·ln·ln, ln = log(interval/P), rounded in source order"
unfoldable pub penalty : (period interval : ℕ) → Float
unfolding log_of
penalty period interval = let ln = log_of (real interval ⊘ real period) in neg four_hundred ⊗ ln ⊗ ln

-- ---- the earlier beats of frame t

-- "half = (P+1) div 2"
abbrev pub half_of : (period : ℕ) → ℕ
half_of period = (period + 1) / 2

-- "from max(0, t-2P) to max(0, t-half)"
abbrev pub first_before : (period t : ℕ) → ℕ
first_before period t = t - 2 * period

abbrev pub last_before : (period t : ℕ) → ℕ
last_before period t = t - half_of period

-- frame u is an earlier beat that a beat at frame t may follow; "none for t = 0"
pub record Follows (period t u : ℕ) : Type 0 where
  pub later : 0 < t
  pub from : first_before period t ≤ u
  pub to : u ≤ last_before period t

-- ---- links

-- "No link is stored as 4,294,967,295"
abbrev pub no_link : ℕ
no_link = 4294967295

-- "the first strictly greatest above 0 is linked": nothing found yet
abbrev pub unlinked : Best
unlinked = record { value = nought; at = no_link }

-- "The extension is prev + (-400·ln·ln)"
unfoldable pub extended : (period : ℕ) → List Float → (t u : ℕ) → Float
unfolding penalty
extended period scores t u = get_or scores u nan ⊕ penalty period (t - u)

-- the best extension of a beat at frame t, by the scores of the frames before it; "none for t = 0"
unfoldable pub extension : (period : ℕ) → List Float → (t : ℕ) → Best
unfolding extended greatest
extension period scores zero = unlinked
extension period scores (suc t) =
    let lo = first_before period (suc t) in
    let hi = last_before period (suc t) in
    greatest (extended period scores (suc t)) lo (suc hi - lo) unlinked

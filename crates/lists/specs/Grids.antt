-- Document 02, No. 6: a grid that is lent, "any list of strictly ascending frames"; and frames that are read one by one.
use Rattle.std.specs.Prelude.{◌≡◌, ℕ, ◌+◌, Bool, true, false, ◌&&◌, List, [], ◌∷◌, nat_lt}
use Rattle.numbers.specs.Limits.{frame_fine}
use Rattle.numbers.specs.Lists.{every, ascending}
use Rattle.numbers.specs.Refusals.{Row, out_of_bounds, no_listed_frame, not_ascending, first_of, unless_refused}
use Rattle.numbers.specs.Rounded.{pick}
use Rattle.numbers.specs.Outcomes.{Listing}
use Rattle.lists.specs.declared.Reading.{Reading}

-- what refuses a grid that is lent: 1 for a frame above the largest listed, then "11 for frames not strictly ascending"
abbrev pub grid_rows : List ℕ → List Row
grid_rows frames = (every frame_fine frames, out_of_bounds) ∷ (ascending 0 frames, not_ascending) ∷ []

-- A call that judges what it is lent and counts it: it answers this number, and this count, 0 where it refuses.
pub record Counted (number count : ℕ) (answer : Listing) : Type 0 where
  pub number_is : answer.number ≡ number
  pub count_is : answer.count ≡ unless_refused number count 0

-- ---- frames that are read one by one

-- before the first
abbrev pub unread : Reading
unread = record { listed = true; rises = true; low = 0 }

-- one frame more
abbrev pub next_read : Reading → ℕ → Reading
next_read j t = record { listed = j.listed; rises = pick (nat_lt t j.low) false j.rises; low = t + 1 }

-- one that is no listed frame's
abbrev pub missed : Reading → Reading
missed j = record { listed = false; rises = j.rises; low = j.low }

-- the number, 10 or 11, of those that were read and those that are left: `fine` tells whether these are listed, and `frames` are theirs
unfoldable pub read_number : Reading → (fine : Bool) (frames : List ℕ) → ℕ
read_number j fine frames = first_of ((j.listed && fine, no_listed_frame) ∷ (j.rises && ascending j.low frames, not_ascending) ∷ [])

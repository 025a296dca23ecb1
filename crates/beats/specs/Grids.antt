-- Document 01, "Beats and bars": "Beats are the links walked back from the first greatest score." What `beat_grid` refuses, and what it promises.
use Rattle.std.specs.Prelude.{◌≡◌, Bool, true, ◌&&◌, List, [], ◌∷◌, ◌++◌, ℕ, zero, suc, ◌+◌, leb, eqb, length, get_or, Float}
use Rattle.numbers.specs.Rounded.{pick}
use Rattle.numbers.specs.Limits.{most_rows, most_period, value_fine}
use Rattle.numbers.specs.Refusals.{lowest, unless_refused}
use Rattle.numbers.specs.Lists.{listed, every}
use Rattle.numbers.specs.Outcomes.{Listing}
use Rattle.lists.specs.Greatest.{value_at, first_greatest}
use Rattle.beat_links.specs.Extensions.{no_link}
use Rattle.beats.specs.Envelopes.{beatless, scale_of, scaled_by, scaled}
use Rattle.beats.specs.Scores.{scores, links}

-- ---- what is refused

-- number 1: N and the period are in bounds
unfoldable pub grid_numbers_fine : List Float → (period : ℕ) → Bool
grid_numbers_fine envelope period = leb (length envelope) most_rows && leb period most_period

-- number 3: N slots for scores, links and beats
unfoldable pub grid_room_fine : List Float → (score back beats : ℕ) → Bool
grid_room_fine envelope score back beats = leb (length envelope) score && (leb (length envelope) back && leb (length envelope) beats)

-- the number; 4 judges the whole envelope
unfoldable pub grid_refusal : List Float → (period score back beats : ℕ) → ℕ
grid_refusal envelope period score back beats =
    lowest (grid_numbers_fine envelope period) true (grid_room_fine envelope score back beats) (every value_fine envelope)

-- ---- what is answered

-- a link of a list
abbrev pub link_at : List ℕ → ℕ → ℕ
link_at links t = get_or links t no_link

-- the beats that end at frame t: those that its link ends, and t itself
unfoldable pub walked : (steps : ℕ) → (link : ℕ → ℕ) → (t : ℕ) → List ℕ
walked zero link t = []
walked (suc k) link t = let earlier = walked k link (link t) in pick (eqb (link t) no_link) [] earlier ++ (t ∷ [])

-- a link lies below its frame, so t + 1 steps are enough
unfoldable pub beats_to : (link : ℕ → ℕ) → (t : ℕ) → List ℕ
unfolding walked
beats_to link t = walked (t + 1) link t

-- "Beats are the links walked back from the first greatest score", for n frames by their scaled flux
unfoldable pub grid : (period : ℕ) → (ℕ → Float) → (n : ℕ) → List ℕ
unfolding scores links first_greatest beats_to
grid period flux n = beats_to (link_at (links period flux n)) (first_greatest (value_at (scores period flux n)) n)

-- the scores, the links and the beats of an envelope, none of each where it is beatless
unfoldable pub scores_of : List Float → (period : ℕ) → List Float
unfolding beatless scaled_by scale_of scores
scores_of envelope period = pick (beatless envelope period) [] (scores period (scaled envelope) (length envelope))

unfoldable pub links_of : List Float → (period : ℕ) → List ℕ
unfolding beatless scaled_by scale_of links
links_of envelope period = pick (beatless envelope period) [] (links period (scaled envelope) (length envelope))

unfoldable pub grid_of : List Float → (period : ℕ) → List ℕ
unfolding beatless scaled_by scale_of grid
grid_of envelope period = pick (beatless envelope period) [] (grid period (scaled envelope) (length envelope))

-- What a call with this number answers and leaves in the three lent lists: the scores, the links and the beats stand first in theirs.
pub record GridWritten
    (number : ℕ) (envelope : List Float) (period : ℕ) (score₀ : List Float) (back₀ beats₀ : List ℕ)
    (r : Listing) (score : List Float) (back beats : List ℕ) : Type 0 where
  pub number_is : r.number ≡ number
  pub count_is : r.count ≡ unless_refused number (length (grid_of envelope period)) 0
  pub score_is : score ≡ unless_refused number (listed (scores_of envelope period) score₀) score₀
  pub back_is : back ≡ unless_refused number (listed (links_of envelope period) back₀) back₀
  pub beats_are : beats ≡ unless_refused number (listed (grid_of envelope period) beats₀) beats₀

-- the promise of `beat_grid`: its number, its count, and the three lent lists afterwards
abbrev pub GridPromise : (envelope : List Float) (period : ℕ) (score₀ : List Float) (back₀ beats₀ : List ℕ)
    → (r : Listing) (score : List Float) (back beats : List ℕ) → Type 0
GridPromise envelope period score₀ back₀ beats₀ =
    GridWritten (grid_refusal envelope period (length score₀) (length back₀) (length beats₀)) envelope period score₀ back₀ beats₀

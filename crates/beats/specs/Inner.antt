-- What the inner functions promise each other: no promise of `beat_grid` is written in these words.
use Rattle.std.specs.Prelude.{◌≡◌, List, ℕ, ◌≤◌, ◌<◌, length, Float}
use Rattle.numbers.specs.Lists.{listed}
use Rattle.beat_links.specs.Extensions.{no_link}
use Rattle.beats.specs.Scores.{scores, links}
use Rattle.beats.specs.Grids.{grid}

-- a lent list of scores and one of links after the first n frames are written
pub record Tracked (period : ℕ) (flux : ℕ → Float) (n : ℕ) (score₀ score : List Float) (back₀ back : List ℕ) : Type 0 where
  pub scores_are : score ≡ listed (scores period flux n) score₀
  pub links_are : back ≡ listed (links period flux n) back₀

-- each link of a frame up to t leads to an earlier frame
abbrev pub Descends : (link : ℕ → ℕ) → (t : ℕ) → Type 0
Descends link t = (u : ℕ) → u ≤ t → (link u ≡ no_link → ⊥) → link u < u

-- what stands in the three lent lists, and how many beats, once n frames are tracked
pub record GridLaid
    (period : ℕ) (flux : ℕ → Float) (n : ℕ) (score₀ score : List Float) (back₀ back beats₀ beats : List ℕ) (count : ℕ) : Type 0 where
  pub tracked : Tracked period flux n score₀ score back₀ back
  pub count_is : count ≡ length (grid period flux n)
  pub beats_are : beats ≡ listed (grid period flux n) beats₀

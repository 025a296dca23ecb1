-- What the functions promise each other and the crate above: no promise of `beat_grid` is written in these words.
use Rattle.std.specs.Prelude.{◌≡◌, true, false, List, ℕ, ◌+◌, ◌-◌, ◌*◌, ◌≤◌, ◌<◌, length, get_or, Float}
use Rattle.std.specs.Float.{nan}
use Rattle.std.specs.Float.Ieee.{lt, le}
use Rattle.numbers.specs.Rounded.{◌⊕◌, nought, pick}
use Rattle.beat_links.specs.Extensions.{penalty}

-- ---- the table of penalties

-- slot k of the table of penalties has that of interval 2P - k
unfoldable pub slot_penalty : (period k : ℕ) → Float
unfolding penalty
slot_penalty period k = penalty period (2 * period - k)

-- a table of 2P slots or more holds the penalties
abbrev pub Penalties : (period : ℕ) → List Float → Type 0
Penalties period table = (k : ℕ) → 2 * period ≤ length table → k < 2 * period → get_or table k nan ≡ slot_penalty period k

-- an extension by the table, where `first` is the slot of frame lo's
unfoldable pub tabled : (table scores : List Float) → (first lo u : ℕ) → Float
tabled table scores first lo u = get_or scores u nan ⊕ get_or table (first + (u - lo)) nan

-- ---- eight at a time

-- the larger of two, the first where neither is
unfoldable pub larger : (v c : Float) → Float
larger v c = pick (lt v c) c v

-- the greatest of 0 and of eight values from u on, in the order in which they are compared
unfoldable pub lane : (ℕ → Float) → ℕ → Float
unfolding larger
lane f u = larger (larger nought (f u)) (f (u + 4))

unfoldable pub top_of_eight : (ℕ → Float) → ℕ → Float
unfolding lane
top_of_eight f u = larger (larger (lane f u) (lane f (u + 2))) (larger (lane f (u + 1)) (lane f (u + 3)))

-- `value` is above 0 and the greatest of the values of frames lo to end - 1; it is none of those before `at`, and some frame has it
pub record Reached (f : ℕ → Float) (lo end at : ℕ) (value : Float) : Type 0 where
  pub from : lo ≤ at
  pub above : lt nought value ≡ true
  pub most : (i : ℕ) → lo ≤ i → i < end → lt value (f i) ≡ false
  pub before : (i : ℕ) → lo ≤ i → i < at → le value (f i) ≡ false
  pub place : ℕ
  pub since : lo ≤ place
  pub inside : place < end
  pub there : f place ≡ value

-- An answer of `bar_beat_at`, handed over.
use Rattle.std.specs.Prelude.{ℕ, min, ◌≡◌, List, length, get_or}

-- What `ph_bar_beat_at` promises, of the number and the values that the answer of `bar_beat_at` says: the number is returned; `found` is 1 where
-- there are values, a bar and a beat, and 0 for nowhere; the lent numbers are the values, and zeros for nowhere.
pub record Placed (said : ℕ × List ℕ) (answer found bar beat : ℕ) : Type 0 where
  pub number_is : answer ≡ said.0
  pub found_is : found ≡ min 1 (length said.1)
  pub bar_is : bar ≡ get_or said.1 0 0
  pub beat_is : beat ≡ get_or said.1 1 0

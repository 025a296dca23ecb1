-- The first greatest: of scores ("the first greatest score"), of weights ("The first greatest weight wins"), of phases ("the first with the greatest
-- flux sum") and of extensions ("the first strictly greatest above 0").
use Rattle.std.specs.Prelude.{ℕ, zero, suc, ◌-◌, List, slice_index_or, Float}
use Rattle.std.specs.Float.Ieee.{lt}
use Rattle.std.specs.Float.{nan}
use Rattle.numbers.specs.Rounded.{pick}
use Rattle.lists.specs.declared.Best.{Best}

-- Best: a value, and the place that has it. Of `best` and the values of n places from u on, the first that is strictly greater than all before it
unfoldable pub greatest : (ℕ → Float) → (u n : ℕ) → Best → Best
greatest value u zero best = best
greatest value u (suc n) best = greatest value (suc u) n (pick (lt best.value (value u)) (record { value = value u; at = u }) best)

-- the first greatest of the values of places 0 to n - 1, place 0 where n is 0
unfoldable pub first_greatest : (ℕ → Float) → (n : ℕ) → ℕ
unfolding greatest
first_greatest value n = (greatest value 1 (n - 1) (record { value = value 0; at = 0 })).at

-- slot t of a list
abbrev pub value_at : List Float → ℕ → Float
value_at values t = slice_index_or values t nan

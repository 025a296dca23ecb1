-- Document 01, Tempo and candidates: which slots of a list of weights are the winner and the other candidates. Slot i is the lag
-- min_lag + i.
use Rattle.std.specs.Prelude.{ℕ, zero, suc, ◌+◌, ◌-◌, Bool, true, false, ◌&&◌, List, [], ◌∷◌, ◌++◌, ltb, eqb, length, get_or, Float}
use Rattle.std.specs.Float.{nan}
use Rattle.std.specs.Float.Ieee.{lt, le}
use Rattle.numbers.specs.Rounded.{nought, pick}
use Rattle.numbers.specs.Lists.{every}
use Rattle.lists.specs.Greatest.{value_at, first_greatest}
use Rattle.lags.specs.Pairs.{apart}

-- "The first greatest weight wins": its slot, 0 where there is none
unfoldable pub winner_of : List Float → ℕ
unfolding first_greatest
winner_of ws = first_greatest (value_at ws) (length ws)

-- "at least the left": the first slot lacks that side
unfoldable pub left_fine : List Float → ℕ → Bool
left_fine ws i = pick (eqb i 0) true (le (get_or ws (i - 1) nan) (get_or ws i nan))

-- "above the right": the last slot lacks that side
unfoldable pub right_fine : List Float → ℕ → Bool
right_fine ws i = pick (eqb (i + 1) (length ws)) true (lt (get_or ws (i + 1) nan) (get_or ws i nan))

-- "local maxima above 0"
unfoldable pub maximum_at : List Float → ℕ → Bool
unfolding left_fine right_fine
maximum_at ws i = left_fine ws i && (right_fine ws i && lt nought (get_or ws i nan))

-- "by falling weight, then lower lag": slot i comes before slot j. Weights above 0 have one order, IEEE 754's `<` and totalOrder alike.
unfoldable pub ahead : List Float → (i j : ℕ) → Bool
ahead ws i j =
    pick (lt (get_or ws j nan) (get_or ws i nan)) true
    (pick (lt (get_or ws i nan) (get_or ws j nan)) false (ltb i j))

-- slot i put into a list in that order
unfoldable pub inserted : List Float → ℕ → List ℕ → List ℕ
unfolding ahead
inserted ws i [] = i ∷ []
inserted ws i (j ∷ js) = pick (ahead ws i j) (i ∷ j ∷ js) (j ∷ inserted ws i js)

-- the local maxima among the first t slots, in that order
unfoldable pub ranked_to : List Float → ℕ → List ℕ
unfolding maximum_at inserted
ranked_to ws zero = []
ranked_to ws (suc t) = pick (maximum_at ws t) (inserted ws t (ranked_to ws t)) (ranked_to ws t)

unfoldable pub ranked : List Float → List ℕ
unfolding ranked_to
ranked ws = ranked_to ws (length ws)

-- "its lag differs from each accepted lag a by more than a tenth of a"
unfoldable pub stands_apart : (min_lag : ℕ) (accepted : List ℕ) → ℕ → Bool
unfolding every apart
stands_apart min_lag accepted i = every (λ a. apart (min_lag + i) (min_lag + a)) accepted

-- "at most three candidates": the slots accepted so far, and those that are accepted of the slots in a list, in turn
unfoldable pub accepted_of : (min_lag : ℕ) (accepted slots : List ℕ) → List ℕ
unfolding stands_apart
accepted_of min_lag accepted [] = accepted
accepted_of min_lag accepted (i ∷ is) =
    pick (ltb (length accepted) 3 && stands_apart min_lag accepted i) (accepted_of min_lag (accepted ++ (i ∷ [])) is)
    (accepted_of min_lag accepted is)

-- "winner first"
unfoldable pub candidates_of : (min_lag : ℕ) → List Float → List ℕ
unfolding winner_of ranked accepted_of
candidates_of min_lag ws = accepted_of min_lag (winner_of ws ∷ []) (ranked ws)

-- ---- the same without a sort

-- the first slot of a list that passes a test, or else none
unfoldable pub first_passing : (ℕ → Bool) → List ℕ → (none : ℕ) → ℕ
first_passing p [] none = none
first_passing p (i ∷ is) none = pick (p i) i (first_passing p is none)

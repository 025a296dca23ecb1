-- Document 01, Tempo and candidates: when two lags are distinct candidates, and when a window's lag agrees with the whole lag.
use Rattle.std.specs.Prelude.{ℕ, Bool, true, false, List, [], ◌∷◌, Float}
use Rattle.std.specs.Float.Ieee.{lt, le}
use Rattle.numbers.specs.Rounded.{◌⊖◌, ◌⊗◌, ◌⊘◌, bits, real, pick, one, half}

-- |x - y|: the larger less the smaller, rounded once
abbrev pub lag_distance : Float → Float → Float
lag_distance x y = pick (lt x y) (y ⊖ x) (x ⊖ y)

-- 0.10
abbrev pub tenth : Float
tenth = bits 0x3FB9_9999_9999_999A

-- "its lag differs from each accepted lag a by more than a tenth of a"
unfoldable pub apart : (lag a : ℕ) → Bool
apart lag a = lt tenth (lag_distance (real lag) (real a) ⊘ real a)

-- 0.05
abbrev pub twentieth : Float
twentieth = bits 0x3FA9_9999_9999_999A

-- "1/4, 1/2, 1, 2, 4"
abbrev pub folds : List Float
folds = bits 0x3FD0_0000_0000_0000 ∷ half ∷ one ∷ bits 0x4000_0000_0000_0000 ∷ bits 0x4010_0000_0000_0000 ∷ []

-- the lag, times the fold, "differs from the whole lag by at most 0.05 of it"
unfoldable pub fold_fits : (whole lag : ℕ) → Float → Bool
fold_fits whole lag fold = le (lag_distance (real lag ⊗ fold) (real whole) ⊘ real whole) twentieth

-- some entry passes the test: the search is left at the first that does
unfoldable pub some : {A : Type 0} → (A → Bool) → List A → Bool
some p [] = false
some p (x ∷ xs) = pick (p x) true (some p xs)

-- "A window agrees if its own winner, times one of 1/4, 1/2, 1, 2, 4" does
unfoldable pub agrees : (whole lag : ℕ) → Bool
unfolding fold_fits some
agrees whole lag = some (fold_fits whole lag) folds

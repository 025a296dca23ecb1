-- Document 01, Sections: "over .. boundaries, keep the greatest by totalOrder, ties to the earlier, listed ascending".
use Rattle.std.specs.Prelude.{ℕ, Bool, ◌&&◌, ◌||◌, List, leb, ltb, eqb, length, Float}
use Rattle.numbers.specs.Rounded.{pick}
use Rattle.floats.specs.TotalOrder.{key}
use Rattle.onsets.specs.Peaks.{at, those}

-- row x goes before row y: its novelty is greater by totalOrder, or the same and x is the earlier row
abbrev pub goes_before : List Float → (x y : ℕ) → Bool
goes_before novelty x y = ltb (key (at novelty y)) (key (at novelty x)) || (eqb (key (at novelty y)) (key (at novelty x)) && ltb x y)

-- how many rows of the list go before row y
unfoldable pub place_of : List Float → List ℕ → ℕ → ℕ
place_of novelty rows y = length (those (λ x. goes_before novelty x y) rows)

-- the list itself where it has at most `most` rows, and else those rows of it before which fewer than `most` go
unfoldable pub kept_greatest : List Float → (most : ℕ) → List ℕ → List ℕ
kept_greatest novelty most rows = pick (leb (length rows) most) rows (those (λ y. ltb (place_of novelty rows y) most) rows)

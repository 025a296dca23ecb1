-- Document 01, Onsets: the positive part of row t minus row t-1, widened to f64.
-- A binary32 value is a binary64 value too, so widening changes none.
use Rattle.std.specs.Prelude.{ℕ, ◌-◌, List, [], ◌∷◌, get_or, drop, Float}
use Rattle.std.specs.Float.{nan}
use Rattle.numbers.specs.Rounded.{◌⊖◌, positive_part}
use Rattle.numbers.specs.Lists.{tab, row}
use Rattle.numbers.specs.declared.Slab.{Slab}

-- row t of a slab, the bins that its rise is summed over
abbrev pub slab_row : List Float → Slab → (t : ℕ) → List Float
slab_row magnitudes slab t = row magnitudes slab.bins t

-- the positive part of each bin of a row minus the same bin of the row before it
unfoldable pub rises : (before now : List Float) → List Float
rises (p ∷ ps) (x ∷ xs) = positive_part (x ⊖ p) ∷ rises ps xs
rises [] xs = []
rises (p ∷ ps) [] = []

-- ---- for the code alone, which takes a part of a row at a time; no promise of a call is written in these words

-- one bin's positive part
unfoldable pub rise_at : (before now : List Float) → ℕ → Float
rise_at before now i = positive_part (get_or now i nan ⊖ get_or before i nan)

-- how many bins a part has
abbrev pub part_bins : ℕ
part_bins = 32

-- the positive parts of a part of row t, and of all bins from bin i on
abbrev pub rise_part : List Float → Slab → (t i : ℕ) → List Float
rise_part magnitudes slab t i = tab (rise_at (slab_row magnitudes slab (t - 1)) (slab_row magnitudes slab t)) i part_bins

abbrev pub rise_rest : List Float → Slab → (t i : ℕ) → List Float
rise_rest magnitudes slab t i = rises (drop i (slab_row magnitudes slab (t - 1))) (drop i (slab_row magnitudes slab t))

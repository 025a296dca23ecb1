-- Document 01, "Sections (001)", novelty: "Novelty at i sums u then v, each -8 to 7, skipping rows outside; sign ..; weight ..". The similarity
-- is "a flat lent slice, row times 17 plus d".
use Rattle.std.specs.Prelude.{ℕ, zero, suc, ◌+◌, ◌-◌, ◌*◌, min, max, ◌≡◌, Bool, ◌&&◌, List, leb, ltb, eqb, length, get_or, Float}
use Rattle.std.specs.Float.{nan}
use Rattle.numbers.specs.Rounded.{◌⊕◌, ◌⊗◌, nought, pick}
use Rattle.numbers.specs.Limits.{most_features, similarity_fine}
use Rattle.numbers.specs.Lists.{every, filled}
use Rattle.numbers.specs.Refusals.{lowest, unless_refused}
use Rattle.kernels.specs.Kernel.{places, middle, kernel_at}
use Rattle.row_pairs.specs.Pairs.{band_width}

-- the slot of the pair of rows a and b, in either order
unfoldable pub slot_of : ℕ → ℕ → ℕ
slot_of a b = min a b * band_width + (max a b - min a b)

-- the lent similarity of rows a and b
unfoldable pub likeness : List Float → ℕ → ℕ → Float
unfolding slot_of
likeness similarity a b = get_or similarity (slot_of a b) nan

-- the row at place p around row i, i + p - 8, lies inside
abbrev pub inside : (rows i p : ℕ) → Bool
inside rows i p = leb middle (i + p) && ltb (i + p) (rows + middle)

-- one term added, "skipping rows outside"
unfoldable pub add_term : List Float → (rows i u v : ℕ) → Float → Float
unfolding kernel_at likeness
add_term similarity rows i u v sum =
    pick (inside rows i u && inside rows i v) (sum ⊕ kernel_at u v ⊗ likeness similarity (i + u - middle) (i + v - middle)) sum

-- n steps, from step s on, one after the other
unfoldable pub turns : {A : Type 0} → (ℕ → A → A) → ℕ → ℕ → A → A
turns step s zero x = x
turns step s (suc n) x = turns step (suc s) n (step s x)

-- the terms of one u, v ascending
unfoldable pub add_row : List Float → (rows i u : ℕ) → Float → Float
unfolding turns add_term
add_row similarity rows i u sum = turns (add_term similarity rows i u) 0 places sum

-- "sums u then v", from +0
unfoldable pub novelty_at : List Float → (rows i : ℕ) → Float
unfolding turns add_row
novelty_at similarity rows i = turns (add_row similarity rows i) 0 places nought

-- ---- the call

-- the number that is given: F above 50,000; a length other than 17 F; room below F; a similarity that isn't within -1 to 1
unfoldable pub novelty_number : List Float → (rows room : ℕ) → ℕ
unfolding every similarity_fine
novelty_number similarity rows room =
    lowest (leb rows most_features) (eqb (length similarity) (rows * band_width)) (leb rows room) (every similarity_fine similarity)

-- what `novelty` does: the number, and each lent slot afterwards
pub record NoveltyPromise (similarity : List Float) (rows : ℕ) (was : List Float) (number : ℕ) (novelty : List Float) : Type 0 where
  pub answer : number ≡ novelty_number similarity rows (length was)
  pub slots : novelty ≡ unless_refused (novelty_number similarity rows (length was)) (filled (novelty_at similarity rows) was 0 rows) was

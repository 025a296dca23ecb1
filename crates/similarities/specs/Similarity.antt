-- Document 01, "Sections (001)", similarity: what the call does, over F rows of sixteen values each. The similarity is "a flat lent slice, row times 17
-- plus d".
use Rattle.std.specs.Prelude.{ℕ, ◌*◌, ◌≡◌, List, leb, eqb, length, Float}
use Rattle.numbers.specs.Limits.{most_features, feature_width, value_fine}
use Rattle.numbers.specs.Lists.{every, filled}
use Rattle.numbers.specs.Refusals.{lowest, unless_refused}
use Rattle.row_pairs.specs.Pairs.{band_width, similarity_at}

-- the number that is given: F above 50,000; a length other than 16 F; room below 17 F; a value that isn't finite or has size above 2^150
unfoldable pub similarity_number : List Float → (rows room : ℕ) → ℕ
unfolding every value_fine
similarity_number features rows room =
    lowest (leb rows most_features) (eqb (length features) (rows * feature_width)) (leb (rows * band_width) room) (every value_fine features)

-- what `similarity` does: the number, and each lent slot afterwards
pub record SimilarityPromise (features : List Float) (rows : ℕ) (was : List Float) (number : ℕ) (similarity : List Float) : Type 0 where
  pub answer : number ≡ similarity_number features rows (length was)
  pub slots : similarity ≡ unless_refused (similarity_number features rows (length was)) (filled (similarity_at features rows) was 0 (rows * band_width)) was

-- Document 01, "The reporting program": "keeping two rows at a time". What one row more does to the two rows kept and to the flux, and how
-- far a stream of rows has come.
use Rattle.std.specs.Prelude.{ℕ, ◌*◌, ◌+◌, ◌-◌, ◌<◌, min, ◌≡◌, Bool, true, ◌&&◌, List, [], ◌∷◌, ◌++◌, Float, length, drop, set}
use Rattle.numbers.specs.Rounded.{pick}
use Rattle.numbers.specs.Limits.{magnitude_fine, slab_of}
use Rattle.numbers.specs.Lists.{filled, row, every}
use Rattle.flux.specs.Flux.{flux_at}
use Rattle.report.specs.Input.{values_of}

-- One row more, whose bytes are given, as row t: the answer tells whether every value so far is fine. The row before it is kept and the new
-- row behind it, and while all is fine slot t of the flux is that of these two rows: the first of their slots for the first row, else the second.
pub record RowTaken (bytes : List ℕ) (bins t : ℕ) (fine : Bool) (kept flux : List Float)
    (answer : Bool) (kept' flux' : List Float) : Type 0 where
  pub fine_is : answer ≡ (fine && every magnitude_fine (values_of bytes))
  pub kept_is : kept' ≡ drop bins kept ++ values_of bytes
  pub flux_is : flux' ≡ pick answer (set flux t (flux_at (drop bins kept ++ values_of bytes) (slab_of 2 bins) (min t 1))) flux

-- The stream has come to row t: the bytes of the rows before it, of which the last is kept. `fine` tells whether each of their values is fine,
-- and then the flux, which was `was`, has the curve of these rows first.
pub record Streamed (body : List ℕ) (bins t : ℕ) (fine : Bool) (kept was flux : List Float) : Type 0 where
  pub rows_are : length body ≡ t * bins * 4
  pub kept_length : length kept ≡ 2 * bins
  pub last_is : 0 < t → drop bins kept ≡ row (values_of body) bins (t - 1)
  pub fine_is : fine ≡ every magnitude_fine (values_of body)
  pub kept_fine : fine ≡ true → every magnitude_fine kept ≡ true
  pub room_is : length flux ≡ length was
  pub flux_is : fine ≡ true → flux ≡ filled (flux_at (values_of body) (slab_of t bins)) was 0 t

-- Rows that are taken one after the other, from row t on, each as RowTaken says.
pub data Taken (bins : ℕ) : (t : ℕ) → (fine : Bool) → (kept flux : List Float) → List (List ℕ) → Bool → List Float → List Float → Type 0 where
  none : {t : ℕ} {fine : Bool} {kept flux : List Float} → Taken bins t fine kept flux [] fine kept flux
  more : {t : ℕ} {fine fine' fine'' : Bool} {kept kept' kept'' flux flux' flux'' : List Float} {bytes : List ℕ} {rows : List (List ℕ)}
      → length bytes ≡ bins * 4
      → RowTaken bytes bins t fine kept flux fine' kept' flux'
      → Taken bins (t + 1) fine' kept' flux' rows fine'' kept'' flux''
      → Taken bins t fine kept flux (bytes ∷ rows) fine'' kept'' flux''

-- the bytes of rows, one behind the other
unfoldable pub joined : List (List ℕ) → List ℕ
joined [] = []
joined (bytes ∷ rows) = bytes ++ joined rows

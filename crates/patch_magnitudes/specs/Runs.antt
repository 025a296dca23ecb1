-- Demand 3: "Patching equals starting over .. Any run of patches, refused ones among them, ends as one fresh analysis of the last rows."
-- The words in which that is said; proofs/Repairs has the theorems.
use Rattle.std.specs.Prelude.{ℕ, ◌+◌, ◌*◌, ◌≤◌, ◌<◌, ◌≡◌, true, ◌⊎◌, List, [], length, get_or, take, Float, Result, Err}
use Rattle.std.specs.Float.{nan}
use Rattle.numbers.specs.Limits.{magnitude_fine, slab_fine, slab_slots}
use Rattle.numbers.specs.Lists.{curve, filled, row, every}
use Rattle.numbers.specs.declared.Refusal.{Refusal}
use Rattle.numbers.specs.declared.Slab.{Slab}
use Rattle.flux.specs.Flux.{flux_at}
use Rattle.threshold.specs.Threshold.{threshold_at, window_room}
use Rattle.patches.specs.Patches.{Patch, patch_of, past_row}
use Rattle.patch_magnitudes.specs.declared.Patched.{Patched}
use Rattle.patch_magnitudes.specs.Tracks.{MagnitudeTrack, magnitude_track}
use Rattle.patch_magnitudes.specs.Magnitudes.{PatchMagnitudesPromise}

-- the curves that demand 2 gives rows of magnitudes
unfoldable pub flux_curve : Slab → (magnitudes : List Float) → List Float
flux_curve slab magnitudes = curve (flux_at magnitudes slab) slab.rows

unfoldable pub threshold_curve : Slab → (magnitudes : List Float) → List Float
threshold_curve slab magnitudes = curve (threshold_at (flux_curve slab magnitudes)) slab.rows

-- the lent curves are those of the rows, on their first N slots; what follows them is the caller's
pub record Fresh (slab : Slab) (lent : MagnitudeTrack) : Type 0 where
  pub flux : take slab.rows lent.flux ≡ flux_curve slab lent.magnitudes
  pub threshold : take slab.rows lent.threshold ≡ threshold_curve slab lent.magnitudes

-- nothing differs but rows a up to b, flux slots f up to g and threshold slots t up to u
pub record Kept (slab : Slab) (patch : Patch) (f g t u : ℕ) (was now : MagnitudeTrack) : Type 0 where
  pub magnitudes_length : length now.magnitudes ≡ length was.magnitudes
  pub flux_length : length now.flux ≡ length was.flux
  pub threshold_length : length now.threshold ≡ length was.threshold
  pub rows_stay : (i : ℕ) → (i < patch.start) ⊎ (past_row slab.bins patch ≤ i)
      → row now.magnitudes slab.bins i ≡ row was.magnitudes slab.bins i
  pub flux_stays : (i : ℕ) → (i < f) ⊎ (g ≤ i) → get_or now.flux i nan ≡ get_or was.flux i nan
  pub threshold_stays : (i : ℕ) → (i < t) ⊎ (u ≤ i) → get_or now.threshold i nan ≡ get_or was.threshold i nan

-- a track that the analysis accepts
pub record Sound (slab : Slab) (lent : MagnitudeTrack) : Type 0 where
  pub shape : slab_fine slab ≡ true
  pub whole : length lent.magnitudes ≡ slab_slots slab
  pub fine : every magnitude_fine lent.magnitudes ≡ true
  pub flux_room : slab.rows ≤ length lent.flux
  pub threshold_room : slab.rows ≤ length lent.threshold

-- a patch that is no one's mistake: so many whole rows that end inside, of fine magnitudes, and the room to sort in
pub record Good (slab : Slab) (patch : Patch) (room : ℕ) : Type 0 where
  pub count : ℕ
  pub whole : length patch.new ≡ count * slab.bins
  pub inside : patch.start + count ≤ slab.rows
  pub fine : every magnitude_fine patch.new ≡ true
  pub work_room : window_room slab.rows ≤ room

-- one analysis from nothing: what `spectral_flux` and then `adaptive_threshold` write into lent curves
unfoldable pub analysed : Slab → MagnitudeTrack → MagnitudeTrack
analysed slab lent =
    magnitude_track lent.magnitudes (filled (flux_at lent.magnitudes slab) lent.flux 0 slab.rows)
    (filled (threshold_at (flux_curve slab lent.magnitudes)) lent.threshold 0 slab.rows)

-- "Any run of patches, refused ones among them": calls one after the other, by what each promises. A call of the track's own slab may
-- answer anything; one of any slab is refused, or has nothing new and may answer anything. What is left is a call of another slab
-- that is accepted with something new: it patches another track, which lies in the same slices.
pub data Ran (slab : Slab) : (was now : MagnitudeTrack) → Type 0 where
  stays : {was : MagnitudeTrack} → Ran slab was was
  patches : {was mid now : MagnitudeTrack} {patch : Patch} {work work' : List Float} {answer : Result Patched Refusal}
      → PatchMagnitudesPromise slab was patch work answer mid work' → Ran slab mid now → Ran slab was now
  refuses : {was mid now : MagnitudeTrack} {slab' : Slab} {e : Refusal} {patch : Patch} {work work' : List Float}
      → PatchMagnitudesPromise slab' was patch work (Err e) mid work' → Ran slab mid now → Ran slab was now
  empties : {was mid now : MagnitudeTrack} {slab' : Slab} {start : ℕ} {work work' : List Float} {answer : Result Patched Refusal}
      → PatchMagnitudesPromise slab' was (patch_of start []) work answer mid work' → Ran slab mid now → Ran slab was now

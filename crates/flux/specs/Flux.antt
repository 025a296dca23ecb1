-- Document 01, Onsets: "flux[0] = +0. flux[t] sums, over bins, the positive part of row t minus row t-1, widened to f64."
use Rattle.std.specs.Prelude.{ℕ, zero, suc, List, leb, length, Float}
use Rattle.numbers.specs.Rounded.{nought, sum_of}
use Rattle.numbers.specs.Limits.{magnitude_fine, slab_fine, slab_whole}
use Rattle.numbers.specs.Refusals.{lowest}
use Rattle.numbers.specs.Lists.{filled, every}
use Rattle.numbers.specs.Outcomes.{Written}
use Rattle.numbers.specs.declared.Slab.{Slab}
use Rattle.flux_rows.specs.Rises.{slab_row}
unfoldable pub use Rattle.flux_rows.specs.Rises.{rises}

-- flux[t] of a slab of magnitudes
unfoldable pub flux_at : List Float → Slab → ℕ → Float
flux_at magnitudes slab zero = nought
flux_at magnitudes slab (suc t) = sum_of (rises (slab_row magnitudes slab t) (slab_row magnitudes slab (suc t)))

-- ---- what is refused

-- 1: rows 0 to 1,048,576, bins 1 to 4,096. 2: the length is rows times bins. 3: room for each row. 4: each magnitude is fine.
unfoldable pub flux_refusal : List Float → Slab → (room : ℕ) → ℕ
flux_refusal magnitudes slab room =
    lowest (slab_fine slab) (slab_whole slab (length magnitudes)) (leb slab.rows room) (every magnitude_fine magnitudes)

-- ---- the call

-- What `spectral_flux` promises: the number, and the flux of each row in the lent list, which was `was`.
abbrev pub FluxPromise : List Float → Slab → (was : List Float) → (answer : ℕ) → (after : List Float) → Type 0
FluxPromise magnitudes slab was answer after =
    Written (flux_refusal magnitudes slab (length was)) (filled (flux_at magnitudes slab) was 0 slab.rows) was answer after

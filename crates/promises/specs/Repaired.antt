-- Demand 3, "Patching equals starting over", for magnitude rows with their flux and threshold curves: how such a track begins, what its user may do with
-- it, and what is then the same of it and of a full run on its last rows. That it is, say the first two theorems of proofs/Repaired.
use Rattle.std.specs.Prelude.{ℕ, ◌≤◌, ◌≡◌, false, List, length, take, Float}
use Rattle.numbers.specs.declared.Slab.{Slab}
use Rattle.flux.specs.Flux.{FluxPromise}
use Rattle.threshold.specs.Threshold.{ThresholdPromise}
use Rattle.options.specs.declared.TempoOpts.{TempoOpts}
use Rattle.lags.specs.Lags.{max_lag}
use Rattle.tempo.specs.Answers.{unwritten}
use Rattle.rooms.specs.Rooms.{Results, Spare, lags_of}
use Rattle.track.specs.Analyses.{AnalysisSaid}
use Rattle.analysis.specs.Analyses.{EnvelopePromise, MagnitudesPromise}
use Rattle.patch_magnitudes.specs.Tracks.{MagnitudeTrack, magnitude_track}
use Rattle.patch_magnitudes.specs.Runs.{Ran}

-- ---- how it begins

-- The threshold of a flux, by a call that writes it and isn't refused, into any slice:
pub data Thresholded (flux : List Float) : (threshold : List Float) → Type 0 where
  -- `adaptive_threshold`,
  alone : {lent threshold work work' : List Float} → ThresholdPromise flux lent work 0 threshold work' → Thresholded flux threshold
  -- or `analyse_envelope`, at any rate and with any options.
  analysing : {rate : ℕ} {opts : TempoOpts} {lent results : Results} {spare left : Spare} {answer : AnalysisSaid}
      → EnvelopePromise flux rate opts lent spare answer results left → answer.number ≡ 0 → Thresholded flux results.threshold

-- "Lend magnitude rows with the flux and threshold curves demand 2 gives them": rows, with the slices into which their curves were written,
pub data Begun (slab : Slab) : MagnitudeTrack → Type 0 where
  -- at once by `analyse_magnitudes`, the full run, at any rate and with any options, which isn't refused,
  at_once : {magnitudes flux₀ flux : List Float} {rate : ℕ} {opts : TempoOpts} {lent results : Results} {spare left : Spare} {answer : AnalysisSaid}
      → MagnitudesPromise magnitudes slab rate opts flux₀ lent spare answer flux results left → answer.number ≡ 0
      → Begun slab (magnitude_track magnitudes flux results.threshold)
  -- or in turn: `spectral_flux`, which isn't refused, and then the threshold of the first N slots of what it wrote.
  in_turn : {magnitudes flux₀ flux threshold : List Float}
      → FluxPromise magnitudes slab flux₀ 0 flux
      → Thresholded (take slab.rows flux) threshold
      → Begun slab (magnitude_track magnitudes flux threshold)

-- ---- what is done with it

-- The same track, in other slices or with other values behind it: the rows, and the first N slots of each curve. (Rows have nothing behind them: a
-- slab of another length than N rows is refused.)
pub record Relent (slab : Slab) (was now : MagnitudeTrack) : Type 0 where
  pub same_rows : now.magnitudes ≡ was.magnitudes
  pub same_flux : take slab.rows now.flux ≡ take slab.rows was.flux
  pub same_threshold : take slab.rows now.threshold ≡ take slab.rows was.threshold
  pub flux_room : slab.rows ≤ length now.flux
  pub threshold_room : slab.rows ≤ length now.threshold

-- Step after step, in any order and as often as wanted. A refused analysis leaves the track as it is, and is no step; a full run begins anew.
pub data Used (slab : Slab) : (was now : MagnitudeTrack) → Type 0 where
  -- nothing more;
  ends : {was : MagnitudeTrack} → Used slab was was
  -- "Any run of patches, refused ones among them";
  runs : {was mid now : MagnitudeTrack} → Ran slab was mid → Used slab mid now → Used slab was now
  -- lending it in other slices, writing behind it, or writing over it what it holds;
  relends : {was mid now : MagnitudeTrack} → Relent slab was mid → Used slab mid now → Used slab was now
  -- an analysis of its flux as it then is, whose threshold is the track's from then on, written over the old one or elsewhere.
  analyses : {was now : MagnitudeTrack} {threshold : List Float} → Thresholded (take slab.rows was.flux) threshold
      → Used slab (magnitude_track was.magnitudes was.flux threshold) now → Used slab was now

-- ---- what is the same

-- Of a track of magnitudes with its curves as patches left them: what `analyse_envelope` answers and leaves of the patched flux, and what
-- `analyse_magnitudes`, the full run, answers and leaves of the patched rows.
pub record SameRun
    (slab : Slab) (patched : MagnitudeTrack) (answer : AnalysisSaid) (results : Results)
    (full_answer : AnalysisSaid) (full_flux : List Float) (full_results : Results) : Type 0 where
  -- the full run isn't refused
  pub accepted : full_answer.number ≡ 0
  -- both patched curves are the full run's, on their N slots
  pub same_flux : take slab.rows patched.flux ≡ take slab.rows full_flux
  pub same_threshold : take slab.rows patched.threshold ≡ take slab.rows full_results.threshold
  -- the tempo with its candidates, the stability, and how many onsets, beats and downbeats there are
  pub same_answer : answer ≡ full_answer
  -- each slot of the eight slices: threshold, onsets, both lag curves, scores, links, beats and downbeats
  pub same_results : results ≡ full_results

-- The same where the two are lent different slices: each slot that is written, and not those behind, which stay as each was lent them.
pub record SameElsewhere
    (slab : Slab) (rate : ℕ) (opts : TempoOpts) (patched : MagnitudeTrack) (answer : AnalysisSaid) (results : Results)
    (full_answer : AnalysisSaid) (full_flux : List Float) (full_results : Results) : Type 0 where
  pub accepted : full_answer.number ≡ 0
  pub same_flux : take slab.rows patched.flux ≡ take slab.rows full_flux
  pub same_threshold : take slab.rows patched.threshold ≡ take slab.rows full_results.threshold
  pub same_answer : answer ≡ full_answer
  -- the threshold that the analysis of the patched flux wrote
  pub threshold_again : take slab.rows results.threshold ≡ take slab.rows full_results.threshold
  -- the onsets, the beats and the downbeats, as many as the answer says
  pub same_onsets : take answer.onsets results.onsets ≡ take answer.onsets full_results.onsets
  pub same_beats : take answer.beats results.beats ≡ take answer.beats full_results.beats
  pub same_downbeats : take answer.downbeats results.downbeats ≡ take answer.downbeats full_results.downbeats
  -- where there are beats, the N scores and links
  pub same_scores : 1 ≤ answer.beats → take slab.rows results.score ≡ take slab.rows full_results.score
  pub same_links : 1 ≤ answer.beats → take slab.rows results.back ≡ take slab.rows full_results.back
  -- where they are written, the L slots of both lag curves
  pub same_clarity :
      unwritten (take slab.rows patched.flux) answer.onsets (max_lag rate opts) ≡ false
      → take (lags_of rate opts) results.clarity ≡ take (lags_of rate opts) full_results.clarity
  pub same_weight :
      unwritten (take slab.rows patched.flux) answer.onsets (max_lag rate opts) ≡ false
      → take (lags_of rate opts) results.weight ≡ take (lags_of rate opts) full_results.weight

-- The parts of Repaired's first two theorems, for magnitude rows. A full run, `analyse_magnitudes`, that isn't refused leaves flux and threshold as one
-- analysis from nothing does (`analysed`), so its curves are those of the rows (`Fresh`) and its rows are rows that a full run accepts (`Sound`);
-- `spectral_flux` and then the threshold of its flux leave no other. Each step of `Used` keeps both: patches do, other slices hold the same first N
-- slots, and a threshold written anew is again that of the rows, since the flux is theirs. So the last rows are accepted too, and the patched flux is the
-- flux that a full run on them writes: an analysis of either has one outcome, and lent different slices it writes the same into each. What a theorem
-- asks is written in it or at the head of its section; no axiom stands behind one.
use mathlib.Core.Bool.{Bool, true, false}
use mathlib.Core.List.{List, []}
use mathlib.Core.Path.{◌≡◌, refl, sym, ap, ◌∙◌}
use Prim.Native.Nat.{ℕ, zero, suc, ◌≤◌}
use lib.Ieee.{Float}
use lib.ListN.{length, take}
use native.Mathlib.Omega.{arith}
use borrow.Author.Tests.{eq-eqb}
use Rattle.numbers.specs.Rounded.{pick}
use Rattle.numbers.specs.Limits.{magnitude_fine}
use Rattle.numbers.specs.Lists.{curve, filled, listed, every}
use Rattle.numbers.specs.Refusals.{unless_refused}
use Rattle.numbers.specs.declared.Slab.{Slab}
use Rattle.numbers.proofs.Tabs.{length-tab, length-filled, filled-first, listed-first}
use Rattle.numbers.proofs.Tests.{passed_does}
use Rattle.flux.specs.Flux.{flux_at}
use Rattle.flux.proofs.Fluxes.{flux-told}
use Rattle.threshold.specs.Threshold.{threshold_at}
use Rattle.threshold.proofs.Thresholds.{threshold-told}
use Rattle.options.specs.declared.TempoOpts.{TempoOpts}
use Rattle.lags.specs.Lags.{max_lag}
use Rattle.tempo.specs.Answers.{unwritten, curve_of}
use Rattle.beats.specs.Envelopes.{beatless, scaled}
use Rattle.beats.specs.Scores.{scores, links}
use Rattle.beats.specs.Grids.{grid, scores_of, links_of, grid_of}
use Rattle.beats.proofs.Links.{length-scores, length-links}
use Rattle.rooms.specs.Rooms.{RoomSaid, Results, Spare, frame_slots, lag_slots, lags_of, analysis_numbers_fine, room_of, envelope_number, magnitudes_number}
use Rattle.rooms.proofs.Numbers.{room-inside, magnitudes_0}
use Rattle.rooms.specs.Enough.{Enough}
use Rattle.rooms.proofs.Rooms.{enough_suffices, ready_of, told, flux-taken}
use Rattle.onsets.specs.Onsets.{onsets_in}
use Rattle.track.specs.Analyses.{AnalysisSaid, period_in, beats_in, downbeats_in, analysis_of, without_analysis, written_in}
use Rattle.analysis.specs.Analyses.{EnvelopePromise, MagnitudesPromise}
use Rattle.analysis.proofs.Promises.{coincide, flux_is_the_envelope}
use Rattle.patch_magnitudes.specs.Tracks.{MagnitudeTrack, magnitude_track}
use Rattle.patch_magnitudes.specs.Runs.{flux_curve, threshold_curve, Fresh, Sound, analysed, Ran, stays}
use Rattle.patch_magnitudes.proofs.Repairs.{analysed_is_fresh, analysed_is_sound, calls_end_fresh, calls_keep_sound}
use Rattle.promises.specs.Repaired.{
  Thresholded,
  alone,
  analysing,
  Begun,
  at_once,
  in_turn,
  Relent,
  Used,
  ends,
  runs,
  relends,
  analyses,
  SameRun,
  SameElsewhere,
}

-- a refusal's answer holds its number, and any other answer 0
pub answered-number : (n : ℕ) (env : List Float) (rate : ℕ) (o : TempoOpts) (a : AnalysisSaid) → a ≡ unless_refused n (analysis_of env rate o) (without_analysis n)
    → a.number ≡ n
unfolding analysis_of
answered-number zero env rate o a e = ap (λ (x : AnalysisSaid). x.number) e
answered-number (suc n) env rate o a e = ap (λ (x : AnalysisSaid). x.number) e

-- ---- what a full run leaves

module _
    (m : List Float) (slab : Slab) (rate : ℕ) (o : TempoOpts) (flux : List Float) (was : Results) (lent : Spare)
    {a : AnalysisSaid} {f : List Float} {y : Results} {s : Spare} where
  -- its answer holds the number that what it was lent is given
  pub full_run_number : MagnitudesPromise m slab rate o flux was lent a f y s → a.number ≡ magnitudes_number m slab rate o flux was lent
  full_run_number p = answered-number _ (curve (flux_at m slab) slab.rows) rate o a p.analysed.answered

  module _ (accepted : magnitudes_number m slab rate o flux was lent ≡ 0) where
    -- where it isn't refused, its rows, with the flux and the threshold that it leaves, are one analysis from nothing:
    pub full_run_is_analysed : MagnitudesPromise m slab rate o flux was lent a f y s
        → magnitude_track m f y.threshold ≡ analysed slab (magnitude_track m flux was.threshold)
    unfolding analysed flux_curve written_in
    full_run_is_analysed p =
        let env = curve (flux_at m slab) slab.rows in
        let e : f ≡ filled (flux_at m slab) flux 0 slab.rows = p.fluxes ∙ passed_does _ _ _ accepted in
        let t : y.threshold ≡ filled (threshold_at env) was.threshold 0 slab.rows =
        ap (λ (r : Results). r.threshold) (p.analysed.written ∙ passed_does _ (written_in env rate o was) _ accepted)
        ∙ ap (filled (threshold_at env) was.threshold 0) (length-tab (flux_at m slab) 0 slab.rows) in
        ap (λ (x : List Float). magnitude_track m x y.threshold) e ∙ ap (magnitude_track m (filled (flux_at m slab) flux 0 slab.rows)) t

    -- the curves are those that demand 2 gives the rows,
    pub full_run_is_fresh : MagnitudesPromise m slab rate o flux was lent a f y s → Fresh slab (magnitude_track m f y.threshold)
    full_run_is_fresh p = rw (full_run_is_analysed p) (analysed_is_fresh slab (magnitude_track m flux was.threshold))

    -- and the track is one that the analysis accepts
    pub full_run_is_sound : MagnitudesPromise m slab rate o flux was lent a f y s → Sound slab (magnitude_track m f y.threshold)
    full_run_is_sound p =
        let t = told m slab rate o flux was lent accepted in
        rw (full_run_is_analysed p)
        (analysed_is_sound slab (magnitude_track m flux was.threshold)
        (record {
          shape = t.flux_takes.shape;
          whole = t.flux_takes.whole;
          fine = t.flux_takes.fine;
          flux_room = t.flux_takes.has_room;
          threshold_room = t.room.threshold;
        }))

-- ---- how a track begins, and what is done with it

-- a call that writes the threshold of the first N slots of the flux of some rows leaves theirs, and was lent room for it
module _ (slab : Slab) (m flux : List Float) (is : take slab.rows flux ≡ flux_curve slab m) where
  flux_long : length (take slab.rows flux) ≡ slab.rows
  unfolding flux_curve
  flux_long = ap length is ∙ length-tab (flux_at m slab) 0 slab.rows

  filled_is_threshold : (lent : List Float) {threshold : List Float} → length (take slab.rows flux) ≤ length lent
      → threshold ≡ filled (threshold_at (take slab.rows flux)) lent 0 (length (take slab.rows flux))
      → (take slab.rows threshold ≡ threshold_curve slab m) × (slab.rows ≤ length threshold)
  unfolding threshold_curve
  filled_is_threshold lent {threshold} room e =
      let rule = threshold_at (flux_curve slab m) in
      let r : slab.rows ≤ length lent = rw flux_long at room in
      let f : threshold ≡ filled rule lent 0 slab.rows =
      e ∙ ap (filled (threshold_at (take slab.rows flux)) lent 0) flux_long ∙ ap (λ (x : List Float). filled (threshold_at x) lent 0 slab.rows) is in
      let l : length threshold ≡ length lent = ap length f ∙ length-filled rule lent 0 slab.rows (omega arith) r in
      (ap (take slab.rows) f ∙ filled-first rule lent slab.rows, omega arith)

  thresholded_is : {threshold : List Float} → Thresholded (take slab.rows flux) threshold
      → (take slab.rows threshold ≡ threshold_curve slab m) × (slab.rows ≤ length threshold)
  unfolding written_in
  thresholded_is (alone {lent} {threshold} {work} t) =
      let z = sym t.curve.number_is in
      filled_is_threshold lent (threshold-told (take slab.rows flux) (length lent) (length work) z).has_room (t.curve.slots_are ∙ passed_does _ _ _ z)
  thresholded_is (analysing {rate} {opts} {lent} {results} {spare} p passed) =
      let env = take slab.rows flux in
      let z = sym (answered-number (envelope_number env rate opts lent spare) env rate opts _ p.answered) ∙ passed in
      filled_is_threshold lent.threshold (ready_of env rate opts lent spare z).thresholds
      (ap (λ (r : Results). r.threshold) (p.written ∙ passed_does _ (written_in env rate opts lent) lent z))

-- a track that has begun has the curves of its rows, and is one that the analysis accepts
pub begun_is_fresh : (slab : Slab) {first : MagnitudeTrack} → Begun slab first → Fresh slab first
unfolding flux_curve
begun_is_fresh slab (at_once p passed) = full_run_is_fresh _ slab _ _ _ _ _ (sym (full_run_number _ slab _ _ _ _ _ p) ∙ passed) p
begun_is_fresh slab (in_turn {magnitudes = m} {flux₀} {flux} w t) =
    let e = ap (take slab.rows) (w.slots_are ∙ passed_does _ _ _ (sym w.number_is)) ∙ filled-first (flux_at m slab) flux₀ slab.rows in
    record { flux = e; threshold = (thresholded_is slab m flux e t).0 }

pub begun_is_sound : (slab : Slab) {first : MagnitudeTrack} → Begun slab first → Sound slab first
unfolding flux_curve
begun_is_sound slab (at_once p passed) = full_run_is_sound _ slab _ _ _ _ _ (sym (full_run_number _ slab _ _ _ _ _ p) ∙ passed) p
begun_is_sound slab (in_turn {magnitudes = m} {flux₀} {flux} w t) =
    let z = sym w.number_is in
    let fine = flux-told m slab (length flux₀) z in
    let e = w.slots_are ∙ passed_does _ _ _ z in
    record {
      shape = fine.shape;
      whole = fine.whole;
      fine = fine.fine;
      flux_room = rw (ap length e ∙ length-filled (flux_at m slab) flux₀ 0 slab.rows (omega arith) fine.has_room) fine.has_room;
      threshold_room = (thresholded_is slab m flux (ap (take slab.rows) e ∙ filled-first (flux_at m slab) flux₀ slab.rows) t).1;
    }

-- each step keeps both
relent_keeps : (slab : Slab) {was now : MagnitudeTrack} → Relent slab was now → Fresh slab was → Sound slab was
    → Fresh slab now × Sound slab now
relent_keeps slab r f s = (
  record {
    flux = r.same_flux ∙ f.flux ∙ ap (flux_curve slab) (sym r.same_rows);
    threshold = r.same_threshold ∙ f.threshold ∙ ap (threshold_curve slab) (sym r.same_rows);
  },
  record {
    shape = s.shape;
    whole = ap length r.same_rows ∙ s.whole;
    fine = ap (every magnitude_fine) r.same_rows ∙ s.fine;
    flux_room = r.flux_room;
    threshold_room = r.threshold_room;
  },
)

pub used_keeps : (slab : Slab) {was now : MagnitudeTrack} → Used slab was now → Fresh slab was → Sound slab was
    → Fresh slab now × Sound slab now
used_keeps slab ends f s = (f, s)
used_keeps slab (runs ran more) f s = used_keeps slab more (calls_end_fresh slab f ran) (calls_keep_sound slab s ran)
used_keeps slab (relends r more) f s = let k = relent_keeps slab r f s in used_keeps slab more k.0 k.1
used_keeps slab (analyses {was} t more) f s =
    let k = thresholded_is slab was.magnitudes was.flux f.flux t in
    used_keeps slab more
    (record { flux = f.flux; threshold = k.0 })
    (record {
      shape = s.shape;
      whole = s.whole;
      fine = s.fine;
      flux_room = s.flux_room;
      threshold_room = k.1;
    })

-- ---- after any run of patches

-- a sound track, patches on it, a rate and bounds that are fine, and slices with room
module _
    (slab : Slab) {was last : MagnitudeTrack} (sound : Sound slab was) (ran : Ran slab was last)
    (rate : ℕ) (o : TempoOpts) (flux : List Float) (results : Results) (lent : Spare)
    (fine : analysis_numbers_fine slab.rows rate o ≡ true) (flux_room : slab.rows ≤ length flux)
    (room : Enough (room_of slab.rows rate o) results lent) where
  -- a full run on the last rows isn't refused
  pub full_run_is_accepted : magnitudes_number last.magnitudes slab rate o flux results lent ≡ 0
  full_run_is_accepted =
      let s = calls_keep_sound slab sound ran in
      sym
      (magnitudes_0 last.magnitudes slab rate o (length flux) (frame_slots results) (lag_slots results lent) (length lent.work) s.shape
      (room_of slab.rows rate o) refl (ap (λ (r : RoomSaid). r.number) (room-inside slab.rows rate o fine)) (eq-eqb _ _ s.whole) flux_room true
      (sym (enough_suffices (room_of slab.rows rate o) results lent room)) refl s.fine)

  -- and where the curves were those of the rows, it answers and leaves what an analysis of the patched flux does
  pub same_as_full_run : Fresh slab was → {a b : AnalysisSaid} {f : List Float} {x y : Results} {s t : Spare}
      → EnvelopePromise (take slab.rows last.flux) rate o results lent a x s
      → MagnitudesPromise last.magnitudes slab rate o flux results lent b f y t
      → SameRun slab last a x b f y
  unfolding flux_curve
  same_as_full_run fresh p q =
      let z = full_run_is_accepted in
      let now = calls_end_fresh slab fresh ran in
      let full = full_run_is_fresh last.magnitudes slab rate o flux results lent z q in
      let one = coincide (rw now.flux at p) (flux_is_the_envelope last.magnitudes slab rate o flux results lent z q) in
      record {
        accepted = full_run_number last.magnitudes slab rate o flux results lent q ∙ z;
        same_flux = now.flux ∙ sym full.flux;
        same_threshold = now.threshold ∙ sym full.threshold;
        same_answer = one.0;
        same_results = one.1;
      }

-- ---- lent different slices

-- what is written first into a lent list doesn't depend on the list: entries,
pub same_entries : {A : Type 0} (xs d e : List A) {n : ℕ} → length xs ≡ n → take n (listed xs d) ≡ take n (listed xs e)
same_entries xs d e l = rw (← l) (listed-first xs d ∙ sym (listed-first xs e))

-- a curve,
same-slots : (rule : ℕ → Float) (d e : List Float) {n k : ℕ} → k ≡ n → take n (filled rule d 0 k) ≡ take n (filled rule e 0 k)
same-slots rule d e {n} l = rw l (filled-first rule d n ∙ sym (filled-first rule e n))

-- both lag curves, where they are written
same-lags : (env : List Float) (rate : ℕ) (o : TempoOpts) (a b : Results) → unwritten env (length (onsets_in env rate)) (max_lag rate o) ≡ false
    → (take (lags_of rate o) (written_in env rate o a).clarity ≡ take (lags_of rate o) (written_in env rate o b).clarity)
    × (take (lags_of rate o) (written_in env rate o a).weight ≡ take (lags_of rate o) (written_in env rate o b).weight)
unfolding written_in curve_of
same-lags env rate o a b written = (rw written (simp filled-first), rw written (simp filled-first))

-- an envelope with beats isn't beatless, so that each frame has a score and a link
scored : (env : List Float) (period : ℕ) → 1 ≤ length (grid_of env period)
    → (length (scores_of env period) ≡ length env) × (length (links_of env period) ≡ length env)
unfolding grid_of scores_of links_of
scored env period = go (beatless env period)
  where
    go : (none : Bool) → 1 ≤ length (pick none [] (grid period (scaled env) (length env)))
        → (length (pick none [] (scores period (scaled env) (length env))) ≡ length env)
        × (length (pick none [] (links period (scaled env) (length env))) ≡ length env)
    go true some = absurd (omega arith)
    go false some = (length-scores period (scaled env) (length env), length-links period (scaled env) (length env))

-- a sound track with the curves of its rows, a rate and bounds that are fine, and two sets of slices with room
module _
    (slab : Slab) {last : MagnitudeTrack} (fresh : Fresh slab last) (sound : Sound slab last)
    (rate : ℕ) (o : TempoOpts) (fine : analysis_numbers_fine slab.rows rate o ≡ true)
    (results₀ : Results) (lent : Spare) (room : Enough (room_of slab.rows rate o) results₀ lent)
    (flux : List Float) (flux_room : slab.rows ≤ length flux)
    (full_results₀ : Results) (full_lent : Spare) (full-room : Enough (room_of slab.rows rate o) full_results₀ full_lent) where
  -- an analysis of the flux into the one writes what a full run into the other does
  pub same_elsewhere : {a b : AnalysisSaid} {f : List Float} {x y : Results} {s t : Spare}
      → EnvelopePromise (take slab.rows last.flux) rate o results₀ lent a x s
      → MagnitudesPromise last.magnitudes slab rate o flux full_results₀ full_lent b f y t
      → SameElsewhere slab rate o last a x b f y
  unfolding flux_curve analysis_of written_in beats_in
  same_elsewhere {a} {b} {f} {x} {y} {s} {t} p q =
      let m = last.magnitudes in
      let env = take slab.rows last.flux in
      let l : length env ≡ slab.rows = flux_long slab m last.flux fresh.flux in
      let here = full_run_is_accepted slab sound stays rate o flux results₀ lent fine flux_room room in
      let there = full_run_is_accepted slab sound stays rate o flux full_results₀ full_lent fine flux_room full-room in
      let p0 : envelope_number env rate o results₀ lent ≡ 0 = rw fresh.flux (flux-taken m slab rate o flux results₀ lent here) in
      let q0 : envelope_number env rate o full_results₀ full_lent ≡ 0 = rw fresh.flux (flux-taken m slab rate o flux full_results₀ full_lent there) in
      let full : EnvelopePromise env rate o full_results₀ full_lent b y t =
      rw fresh.flux (flux_is_the_envelope m slab rate o flux full_results₀ full_lent there q) in
      let curves = full_run_is_fresh m slab rate o flux full_results₀ full_lent there q in
      let ea : a ≡ analysis_of env rate o = p.answered ∙ passed_does _ (analysis_of env rate o) _ p0 in
      let eb : b ≡ analysis_of env rate o = full.answered ∙ passed_does _ (analysis_of env rate o) _ q0 in
      let ex : x ≡ written_in env rate o results₀ = p.written ∙ passed_does _ (written_in env rate o results₀) _ p0 in
      let ey : y ≡ written_in env rate o full_results₀ = full.written ∙ passed_does _ (written_in env rate o full_results₀) _ q0 in
      let n = period_in env rate o in
      let onsets : a.onsets ≡ length (onsets_in env rate) = ap (λ (r : AnalysisSaid). r.onsets) ea in
      let beats : a.beats ≡ length (beats_in env rate o) = ap (λ (r : AnalysisSaid). r.beats) ea in
      record {
        accepted = full_run_number m slab rate o flux full_results₀ full_lent q ∙ there;
        same_flux = fresh.flux ∙ sym curves.flux;
        same_threshold = fresh.threshold ∙ sym curves.threshold;
        same_answer = ea ∙ sym eb;
        threshold_again = rw (ex, ey) (same-slots (threshold_at env) results₀.threshold full_results₀.threshold l);
        same_onsets = rw (onsets, ex, ey) (same_entries (onsets_in env rate) results₀.onsets full_results₀.onsets refl);
        same_beats = rw (beats, ex, ey) (same_entries (beats_in env rate o) results₀.beats full_results₀.beats refl);
        same_downbeats =
            rw (ap (λ (r : AnalysisSaid). r.downbeats) ea, ex, ey)
            (same_entries (downbeats_in env rate o) results₀.downbeats full_results₀.downbeats refl);
        same_scores = λ some. rw (ex, ey) (same_entries (scores_of env n) results₀.score full_results₀.score ((scored env n (rw beats at some)).0 ∙ l));
        same_links = λ some. rw (ex, ey) (same_entries (links_of env n) results₀.back full_results₀.back ((scored env n (rw beats at some)).1 ∙ l));
        same_clarity = λ written. rw (ex, ey) (same-lags env rate o results₀ full_results₀ (rw onsets at written)).0;
        same_weight = λ written. rw (ex, ey) (same-lags env rate o results₀ full_results₀ (rw onsets at written)).1;
      }

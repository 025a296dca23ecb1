-- The auditor's second question: "when you repair twenty seconds of a track, how do you know the new beat grid is the one a full run would give?"
-- Demand 3, "Patching equals starting over", for magnitude rows with their flux and threshold curves. The first theorem is the answer, and the second
-- is it for two sets of slices. Those below say what one patch does, what any run of patches does, and what follows for each call that reads a patched
-- curve; FullRuns has the parts of the first two. `Begun` and `Used` (specs/Repaired) tell what came before the last analysis. `Ran` is any run of
-- calls, told by what each promises: patches, refused and empty ones among them, and refused and empty calls of any slab. `Fresh` says that
-- the curves are those that demand 2 gives the rows, `analysed` is one analysis from nothing. What a theorem asks is written in it, or at the head of
-- its section; no axiom stands behind one.
use mathlib.Core.List.{List, [], ◌∷◌}
use mathlib.Core.Bool.{true}
use mathlib.Core.Path.{◌≡◌, sym, ◌∙◌}
use Prim.Native.Nat.{ℕ, zero, suc, ◌+◌, ◌-◌, ◌≤◌, min}
use lib.Ieee.{Float}
use lib.ListN.{length, take}
use Rattle.std.specs.Prelude.{Result, Ok, Err}
use Rattle.numbers.specs.Outcomes.{Listing}
use Rattle.numbers.specs.declared.Refusal.{Refusal}
use Rattle.numbers.specs.declared.Slab.{Slab}
use Rattle.numbers.proofs.Slabs.{slab_fits}
use Rattle.onsets.specs.Onsets.{OnsetsPromise}
use Rattle.lags.specs.Lags.{bounds_fine}
use Rattle.options.specs.declared.TempoOpts.{TempoOpts}
use Rattle.tempo.specs.Answers.{EstimateSaid, EstimatePromise}
use Rattle.stability.specs.Answers.{Steadiness, StabilityPromise}
use Rattle.beats.specs.Grids.{GridPromise}
use Rattle.bars.specs.Downbeats.{DownbeatsPromise}
use Rattle.patches.specs.Patches.{Patch, patch_of, past_row, edited, returned}
use Rattle.patches.proofs.Answers.{same-slots, same_ends, some-slots}
use Rattle.patch_magnitudes.specs.declared.Patched.{Patched}
use Rattle.patch_magnitudes.specs.Tracks.{MagnitudeTrack, magnitude_track, patch_number}
use Rattle.patch_magnitudes.specs.Magnitudes.{patched_says, rows_named, PatchMagnitudesPromise}
use Rattle.patch_magnitudes.specs.Runs.{flux_curve, threshold_curve, Fresh, Kept, Sound, Good, analysed, Ran, stays}
use Rattle.patch_magnitudes.proofs.Repairs as repairs
use Rattle.rooms.specs.Rooms.{Results, Spare, room_of}
use Rattle.rooms.proofs.Numbers.{by_bounds}
use Rattle.rooms.specs.Enough.{Enough}
use Rattle.analysis.specs.Analyses.{EnvelopePromise, MagnitudesPromise}
use Rattle.track.specs.Analyses.{AnalysisSaid}
use Rattle.promises.specs.Repaired.{Begun, Used, SameRun, SameElsewhere}
use Rattle.promises.proofs.Determined.{pick-onsets, estimate, stability_of, beat_grid, downbeats, analysis}
use Rattle.promises.proofs.FullRuns.{begun_is_fresh, begun_is_sound, used_keeps, same_as_full_run, same_elsewhere}

-- However a track began and whatever was done with it, an analysis of its flux is a full run on its rows.
pub repaired_is_a_full_run :
    (slab : Slab) {first patched : MagnitudeTrack}
    -- First the curves of some rows, by `analyse_magnitudes`, the full run, or call by call; none of the calls refused.
    → Begun slab first
    -- Then any run of patches, other slices lent, values written behind the curves, and analyses in between, in any order.
    → Used slab first patched
    -- A rate and bounds of the options that are fine,
    → (rate : ℕ) (opts : TempoOpts) → bounds_fine rate opts ≡ true
    -- and slices with room: a slot of flux for each row, and for the others what `room_of` names.
    → (flux : List Float) → slab.rows ≤ length flux
    → (lent : Results) (spare : Spare) → Enough (room_of slab.rows rate opts) lent spare
    -- On the one hand `analyse_envelope` of the patched flux, lent these slices.
    → {answer : AnalysisSaid} {results : Results} {left : Spare}
    → EnvelopePromise (take slab.rows patched.flux) rate opts lent spare answer results left
    -- On the other a full run on the patched rows, lent the same.
    → {full_answer : AnalysisSaid} {full_flux : List Float} {full_results : Results} {full_left : Spare}
    → MagnitudesPromise patched.magnitudes slab rate opts flux lent spare full_answer full_flux full_results full_left
    -- The full run isn't refused, and flux, threshold, answer and all eight results are the same.
    → SameRun slab patched answer results full_answer full_flux full_results
repaired_is_a_full_run slab begun used rate opts fine flux flux_room lent spare room again full =
    let now = used_keeps slab used (begun_is_fresh slab begun) (begun_is_sound slab begun) in
    same_as_full_run slab now.1 stays rate opts flux lent spare
    (by_bounds slab.rows rate opts (slab_fits slab now.1.shape).rows_fit ∙ fine) flux_room room
    now.0 again full

-- The same where the two are lent different slices, as a grid that is kept and one that is made to compare it with.
pub repaired_is_a_full_run_elsewhere :
    -- A track that began and was used as above, and a rate and bounds that are fine.
    (slab : Slab) {first patched : MagnitudeTrack} → Begun slab first → Used slab first patched
    → (rate : ℕ) (opts : TempoOpts) → bounds_fine rate opts ≡ true
    -- On the one hand `analyse_envelope` of the patched flux, lent slices with room.
    → (lent : Results) (spare : Spare) → Enough (room_of slab.rows rate opts) lent spare
    → {answer : AnalysisSaid} {results : Results} {left : Spare}
    → EnvelopePromise (take slab.rows patched.flux) rate opts lent spare answer results left
    -- On the other a full run on the patched rows, lent others with room.
    → (flux : List Float) → slab.rows ≤ length flux
    → (full_lent : Results) (full_spare : Spare) → Enough (room_of slab.rows rate opts) full_lent full_spare
    → {full_answer : AnalysisSaid} {full_flux : List Float} {full_results : Results} {full_left : Spare}
    → MagnitudesPromise patched.magnitudes slab rate opts flux full_lent full_spare full_answer full_flux full_results full_left
    -- The full run isn't refused, flux, threshold and answer are the same, and so are the listed frames and each curve where it is written.
    → SameElsewhere slab rate opts patched answer results full_answer full_flux full_results
repaired_is_a_full_run_elsewhere slab begun used rate opts fine lent spare room again flux flux_room full_lent full_spare full-room full =
    let now = used_keeps slab used (begun_is_fresh slab begun) (begun_is_sound slab begun) in
    same_elsewhere slab now.0 now.1 rate opts (by_bounds slab.rows rate opts (slab_fits slab now.1.shape).rows_fit ∙ fine)
    lent spare room flux flux_room full_lent full_spare full-room again full

-- ---- one patch

-- Where the lent curves were those of the rows, they are those of the edited rows afterwards, bit for bit, whatever the call answers.
pub patching_equals_starting_over : (slab : Slab) (was : MagnitudeTrack) (patch : Patch) (work : List Float) (answer : Result Patched Refusal)
    (now : MagnitudeTrack) (work' : List Float)
    → Fresh slab was → PatchMagnitudesPromise slab was patch work answer now work' → Fresh slab now
patching_equals_starting_over = repairs.call_is_fresh

-- The rows are then the edited ones.
pub rows_are_edited : (slab : Slab) (was : MagnitudeTrack) (patch : Patch) (work : List Float) (slots : Patched) (now : MagnitudeTrack) (work' : List Float)
    → PatchMagnitudesPromise slab was patch work (Ok slots) now work' → now.magnitudes ≡ edited slab.bins was.magnitudes patch
rows_are_edited = repairs.accepted_is_edited

named : (slab : Slab) (start : ℕ) (x : Float) (xs : List Float) (n : ℕ) (slots : Patched)
    → patched_says (Ok slots) ≡ returned n (rows_named slab (patch_of start (x ∷ xs)))
    → let past = past_row slab.bins (patch_of start (x ∷ xs)) in (slots.flux_first ≡ start) × (slots.flux_past ≡ min (past + 1) slab.rows)
    × (slots.threshold_first ≡ start - 10) × (slots.threshold_past ≡ min (past + 10 + 1) slab.rows)
named slab start x xs (suc n) slots e = absurd (some-slots (sym (same-slots e)))
named slab start x xs zero slots e = same_ends (same-slots e)

-- The slots that it names are demand 3's: flux a to b, threshold a-10 to b+10, cut at the ends.
pub names_its_slots : (slab : Slab) (was : MagnitudeTrack) (start : ℕ) (x : Float) (xs work : List Float) (slots : Patched) (now : MagnitudeTrack)
    (work' : List Float)
    → PatchMagnitudesPromise slab was (patch_of start (x ∷ xs)) work (Ok slots) now work'
    → let past = past_row slab.bins (patch_of start (x ∷ xs)) in (slots.flux_first ≡ start) × (slots.flux_past ≡ min (past + 1) slab.rows)
    × (slots.threshold_first ≡ start - 10) × (slots.threshold_past ≡ min (past + 10 + 1) slab.rows)
names_its_slots slab was start x xs work slots now work' done =
    named slab start x xs (patch_number slab was (patch_of start (x ∷ xs)) (length work)) slots done.answer_is

-- Outside them and the slots that the answer names nothing differs.
pub outside_stays : (slab : Slab) (was : MagnitudeTrack) (patch : Patch) (work : List Float) (slots : Patched) (now : MagnitudeTrack) (work' : List Float)
    → PatchMagnitudesPromise slab was patch work (Ok slots) now work'
    → Kept slab patch slots.flux_first slots.flux_past slots.threshold_first slots.threshold_past was now
outside_stays = repairs.outside_stays

-- An empty patch changes nothing, and a refused one changes nothing.
pub empty_changes_nothing : (slab : Slab) (was : MagnitudeTrack) (start : ℕ) (work : List Float) (answer : Result Patched Refusal) (now : MagnitudeTrack)
    (work' : List Float)
    → PatchMagnitudesPromise slab was (patch_of start []) work answer now work' → (now ≡ was) × (work' ≡ work)
empty_changes_nothing = repairs.empty_changes_nothing

pub refused_changes_nothing : (slab : Slab) (was : MagnitudeTrack) (patch : Patch) (work : List Float) (e : Refusal) (now : MagnitudeTrack) (work' : List Float)
    → PatchMagnitudesPromise slab was patch work (Err e) now work' → (now ≡ was) × (work' ≡ work)
refused_changes_nothing = repairs.refused_changes_nothing

-- ---- any run of patches

-- It ends as one fresh analysis of the last rows, the slots behind the curves as they were lent.
pub any_run_is_one_analysis : (slab : Slab) (lent : MagnitudeTrack) {now : MagnitudeTrack} → Ran slab (analysed slab lent) now
    → now ≡ analysed slab (magnitude_track now.magnitudes lent.flux lent.threshold)
any_run_is_one_analysis slab lent ran = repairs.calls_are_one_analysis slab lent ran

-- A patch that is no one's mistake is accepted at any place of a run: refusing everything is shut out.
pub good_is_accepted : (slab : Slab) (lent : MagnitudeTrack) {now : MagnitudeTrack} (patch : Patch) (room : ℕ)
    → Sound slab lent → Ran slab (analysed slab lent) now → Good slab patch room → patch_number slab now patch room ≡ 0
good_is_accepted = repairs.good_is_accepted_after_calls

-- ---- what is computed from patched curves

-- The curves were those of the rows, and then came any run of patches. Two calls lent the same slices, one on the curves that are left, one on
-- those that demand 2 gives the last rows, have one outcome.
module _ (slab : Slab) (was last : MagnitudeTrack) (fresh : Fresh slab was) (ran : Ran slab was last) where
  flux_is : take slab.rows last.flux ≡ flux_curve slab last.magnitudes
  flux_is = (repairs.calls_end_fresh slab fresh ran).flux

  threshold_is : take slab.rows last.threshold ≡ threshold_curve slab last.magnitudes
  threshold_is = (repairs.calls_end_fresh slab fresh ran).threshold

  -- the onsets
  pub same_onsets : (rate : ℕ) (frames : List ℕ) {a b : Listing} {x y : List ℕ}
      → let flux = take slab.rows last.flux in
      let threshold = take slab.rows last.threshold in
      let full = flux_curve slab last.magnitudes in
      let full_threshold = threshold_curve slab last.magnitudes in
      OnsetsPromise flux threshold rate frames a x → OnsetsPromise full full_threshold rate frames b y
      → (a.number ≡ b.number) × (a.count ≡ b.count) × (x ≡ y)
  same_onsets rate frames p q = pick-onsets _ _ rate frames (rw (flux_is, threshold_is) at p) q

  -- the tempo, with its candidates and lag curves
  pub same-tempo : (onsets rate : ℕ) (o : TempoOpts) (clarity weight work : List Float) {a b : EstimateSaid} {c d w v k l : List Float}
      → EstimatePromise (take slab.rows last.flux) onsets rate o clarity weight work a c w k
      → EstimatePromise (flux_curve slab last.magnitudes) onsets rate o clarity weight work b d v l
      → (a ≡ b) × (c ≡ d) × (w ≡ v) × (k ≡ l)
  same-tempo onsets rate o clarity weight work p q = estimate (rw flux_is at p) q

  -- the stability
  pub same_stability : (rate : ℕ) (o : TempoOpts) (whole : ℕ) (clarity weight work : List Float) {a b : Steadiness} {c d w v k l : List Float}
      → StabilityPromise (take slab.rows last.flux) rate o whole clarity weight work a c w k
      → StabilityPromise (flux_curve slab last.magnitudes) rate o whole clarity weight work b d v l
      → a ≡ b
  same_stability rate o whole clarity weight work p q = (stability_of (rw flux_is at p) q).0

  -- the beat grid, with its scores and links
  pub same-grid : (period : ℕ) (score : List Float) (back beats : List ℕ) {a b : Listing} {s t : List Float} {k l x y : List ℕ}
      → GridPromise (take slab.rows last.flux) period score back beats a s k x
      → GridPromise (flux_curve slab last.magnitudes) period score back beats b t l y
      → (a.number ≡ b.number) × (a.count ≡ b.count) × (s ≡ t) × (k ≡ l) × (x ≡ y)
  same-grid period score back beats p q = beat_grid (rw flux_is at p) q

  -- the downbeats
  pub same_downbeats : (beats : List ℕ) (o : TempoOpts) (frames : List ℕ) {a b : Listing} {x y : List ℕ}
      → DownbeatsPromise (take slab.rows last.flux) beats o frames a x
      → DownbeatsPromise (flux_curve slab last.magnitudes) beats o frames b y
      → (a.number ≡ b.number) × (a.count ≡ b.count) × (x ≡ y)
  same_downbeats beats o frames p q = downbeats _ beats o frames (rw flux_is at p) q

  -- the whole analysis in one call, with the period of the beats taken from the tempo
  pub same_analysis : (rate : ℕ) (o : TempoOpts) (results : Results) (lent : Spare) {a b : AnalysisSaid} {x y : Results} {s t : Spare}
      → EnvelopePromise (take slab.rows last.flux) rate o results lent a x s
      → EnvelopePromise (flux_curve slab last.magnitudes) rate o results lent b y t
      → (a ≡ b) × (x ≡ y)
  same_analysis rate o results lent p q = let one = analysis (rw flux_is at p) q in (one.0, one.1)

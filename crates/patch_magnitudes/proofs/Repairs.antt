-- Demand 3, "Patching equals starting over", for magnitude rows with their flux and threshold curves. `PatchMagnitudesPromise` is what
-- `patch_magnitudes` promises, `after` the track that it leaves. What a theorem asks is written in it; no axiom stands behind one.
use mathlib.Core.Bool.{true}
use mathlib.Core.List.{List, [], ◌∷◌}
use mathlib.Core.Path.{◌≡◌, refl, sym, ap, ◌∙◌}
use Prim.Native.Nat.{ℕ, zero, suc, ◌+◌, ◌*◌, ◌/◌, ◌≤◌, ◌<◌}
use native.Mathlib.Omega.{arith}
use lib.Ieee.{Float, nan}
use lib.ListN.{length, take, drop}
use Rattle.std.specs.Prelude.{Result, Ok, Err}
use Rattle.numbers.proofs.Outcomes.{number-not_0}
use Rattle.numbers.proofs.Slabs.{slab_fits}
use Rattle.numbers.proofs.Overs.{length_over, every-over, patch_fits, row-over, row_over_in, over_none}
use Rattle.numbers.proofs.Tabs.{length-tab, length-filled, filled_outside, filled-first}
use Rattle.numbers.proofs.Tests.{passed_does, and_both, lowest_0}
use Rattle.numbers.specs.Limits.{magnitude_fine, value_fine}
use Rattle.numbers.specs.Lists.{curve, every, filled, row}
use Rattle.numbers.specs.Refusals.{unless_refused}
use Rattle.numbers.specs.declared.Refusal.{Refusal}
use Rattle.numbers.specs.declared.Slab.{Slab}
use Rattle.flux.proofs.Fluxes.{FluxFine, flux_asked}
use Rattle.onsets.proofs.Onsets.{threshold_takes}
use Rattle.flux.specs.Flux.{flux_at, FluxPromise}
use Rattle.threshold.specs.Threshold.{threshold_at, window_room, threshold_refusal, ThresholdPromise}
use Rattle.patches.proofs.Parts.{filled-rest, filled_by}
use Rattle.patches.proofs.Answers.{same_number, same-slots, same_ends, some-slots}
use Rattle.patches.proofs.Wholes.{new_asked}
use Rattle.patches.specs.Patches.{Patch, patch_of, new_rows, edited, unless_empty, returned}
use Rattle.patch_magnitudes.specs.declared.Patched.{Patched}
use Rattle.patch_magnitudes.specs.Tracks.{MagnitudeTrack, magnitude_track, patch_values, patch_number}
use Rattle.patch_magnitudes.specs.Magnitudes.{
  flux_first,
  flux_past,
  threshold_first,
  threshold_past,
  mended_flux,
  mended_threshold,
  mended,
  patched_says,
  rows_named,
  after,
  patch_sorted_in,
  PatchMagnitudesPromise,
}
use Rattle.patch_magnitudes.specs.Runs.{flux_curve, threshold_curve, Fresh, Kept, Sound, Good, analysed, Ran, stays, patches, refuses, empties}
use Rattle.patch_magnitudes.proofs.Asked.{Asked, asked, bounds_asked, lengths_asked, room_asked}
use Rattle.patch_magnitudes.proofs.Mended.{flux_mends, threshold_mends, flux-rest, threshold-rest, fluxes-fine, thresholds-fine}

-- What holds of the track before a patch, and of a mended one, holds after it: it is refused, empty, or mended.
by_outcome : (P : MagnitudeTrack → Type 0) (slab : Slab) (was : MagnitudeTrack) (patch : Patch) (room : ℕ) → P was
    → (Asked slab was patch room → P (mended slab was patch)) → P (after slab was patch room)
unfolding after
by_outcome P slab was patch room kept done = go (patch_number slab was patch room) patch.new refl
  where
    go : (n : ℕ) (new : List Float) → patch_number slab was patch room ≡ n → P (unless_refused n (unless_empty new (mended slab was patch) was) was)
    go (suc n) new e = kept
    go zero [] e = kept
    go zero (x ∷ xs) e = done (asked slab was patch room e)

-- ---- (1) Where the lent curves were those of the rows, they are those of the edited rows afterwards, bit for bit.

mends : (slab : Slab) (was : MagnitudeTrack) (patch : Patch) (room : ℕ) → Fresh slab was → Asked slab was patch room
    → Fresh slab (mended slab was patch)
unfolding mended
mends slab was patch room fresh a =
    record {
      flux = flux_mends slab was patch room a fresh.flux;
      threshold = threshold_mends slab was patch room a fresh;
    }

pub patched_is_fresh : (slab : Slab) (was : MagnitudeTrack) (patch : Patch) (room : ℕ) → Fresh slab was → Fresh slab (after slab was patch room)
patched_is_fresh slab was patch room fresh =
    by_outcome (Fresh slab) slab was patch room fresh (mends slab was patch room fresh)

-- what `patch_magnitudes` promises of one call, whatever it answers
pub call_is_fresh : (slab : Slab) (was : MagnitudeTrack) (patch : Patch) (work : List Float) (answer : Result Patched Refusal) (now : MagnitudeTrack)
    (work' : List Float)
    → Fresh slab was → PatchMagnitudesPromise slab was patch work answer now work' → Fresh slab now
call_is_fresh slab was patch work answer now work' fresh done = rw done.track_is (patched_is_fresh slab was patch (length work) fresh)

-- ---- (2) An accepted patch leaves the edited rows. Outside them and the slots that the answer names nothing differs.

module _ (slab : Slab) (was now : MagnitudeTrack) where
  edited_by : (n start : ℕ) (new : List Float) → n ≡ 0 → now ≡ unless_refused n (unless_empty new (mended slab was (patch_of start new)) was) was
      → now.magnitudes ≡ edited slab.bins was.magnitudes (patch_of start new)
  unfolding mended edited
  edited_by (suc n) start new h k = absurd (omega arith)
  edited_by zero start [] h k = ap (λ (s : MagnitudeTrack). s.magnitudes) k ∙ sym (over_none was.magnitudes (start * slab.bins))
  edited_by zero start (x ∷ xs) h k = ap (λ (s : MagnitudeTrack). s.magnitudes) k

pub accepted_is_edited : (slab : Slab) (was : MagnitudeTrack) (patch : Patch) (work : List Float) (slots : Patched) (now : MagnitudeTrack) (work' : List Float)
    → PatchMagnitudesPromise slab was patch work (Ok slots) now work' → now.magnitudes ≡ edited slab.bins was.magnitudes patch
unfolding after
accepted_is_edited slab was patch work slots now work' done =
    edited_by slab was now (patch_number slab was patch (length work)) patch.start patch.new (sym (same_number done.answer_is)) done.track_is

-- row a + j is then the patch's row j
pub replaced_are_new : (slab : Slab) (was : MagnitudeTrack) (patch : Patch) (work : List Float) (slots : Patched) (now : MagnitudeTrack) (work' : List Float)
    → PatchMagnitudesPromise slab was patch work (Ok slots) now work'
    → (j : ℕ) → j < length patch.new / slab.bins → row now.magnitudes slab.bins (patch.start + j) ≡ row patch.new slab.bins j
unfolding edited
replaced_are_new slab was patch work slots now work' done j h =
    let w = (asked slab was patch (length work) (sym (same_number done.answer_is))).lengths in
    ap (λ (m : List Float). row m slab.bins (patch.start + j)) (accepted_is_edited slab was patch work slots now work' done)
    ∙ row_over_in was.magnitudes patch.new slab.rows slab.bins patch.start (length patch.new / slab.bins) nan w.whole
    w.new-whole w.inside j h

unmoved : (slab : Slab) (patch : Patch) (f g t u : ℕ) (was : MagnitudeTrack) → Kept slab patch f g t u was was
unmoved slab patch f g t u was =
    record {
      magnitudes_length = refl;
      flux_length = refl;
      threshold_length = refl;
      rows_stay = λ i h. refl;
      flux_stays = λ i h. refl;
      threshold_stays = λ i h. refl;
    }

mended_keeps : (slab : Slab) (was : MagnitudeTrack) (patch : Patch) (room : ℕ) → Asked slab was patch room
    → Kept slab patch (flux_first patch) (flux_past slab patch) (threshold_first patch) (threshold_past slab patch) was (mended slab was patch)
unfolding mended mended_flux mended_threshold edited
mended_keeps slab was patch room a =
    let w = a.lengths in
    let r = a.rooms in
    let k = length patch.new / slab.bins in
    record {
      magnitudes_length = length_over _ _ _ (patch_fits was.magnitudes patch.new slab.rows slab.bins patch.start k nan w.whole
          w.new-whole w.inside);
      flux_length = length-filled _ was.flux _ _ (omega arith) (omega arith);
      threshold_length = length-filled _ was.threshold _ _ (omega arith) (omega arith);
      rows_stay = row-over was.magnitudes patch.new slab.rows slab.bins patch.start k nan w.whole w.new-whole w.inside;
      flux_stays = λ i h. filled_outside _ was.flux _ _ (omega arith) (omega arith) i nan h;
      threshold_stays = λ i h. filled_outside _ was.threshold _ _ (omega arith) (omega arith) i nan h;
    }

module _ (slab : Slab) (was : MagnitudeTrack) (room : ℕ) (slots : Patched) (now : MagnitudeTrack) where
  kept_by : (n start : ℕ) (new : List Float) → patch_number slab was (patch_of start new) room ≡ n
      → patched_says (Ok slots) ≡ returned n (rows_named slab (patch_of start new))
      → now ≡ unless_refused n (unless_empty new (mended slab was (patch_of start new)) was) was
      → Kept slab (patch_of start new) slots.flux_first slots.flux_past slots.threshold_first slots.threshold_past was now
  kept_by (suc n) start new e h k = absurd (some-slots (sym (same-slots h)))
  kept_by zero start [] e h k =
      rw k (unmoved slab (patch_of start []) slots.flux_first slots.flux_past slots.threshold_first slots.threshold_past was)
  kept_by zero start (x ∷ xs) e h k =
      let patch = patch_of start (x ∷ xs) in
      let s = same_ends (same-slots h) in
      rw (k, s.0, s.1, s.2, s.3) (mended_keeps slab was patch room (asked slab was patch room e))

pub outside_stays : (slab : Slab) (was : MagnitudeTrack) (patch : Patch) (work : List Float) (slots : Patched) (now : MagnitudeTrack) (work' : List Float)
    → PatchMagnitudesPromise slab was patch work (Ok slots) now work'
    → Kept slab patch slots.flux_first slots.flux_past slots.threshold_first slots.threshold_past was now
unfolding after
outside_stays slab was patch work slots now work' done =
    kept_by slab was (length work) slots now (patch_number slab was patch (length work)) patch.start patch.new refl done.answer_is done.track_is

-- ---- (3) An empty patch changes nothing. (4) A refused one changes nothing.

empty_keeps_all : (n rows start : ℕ) (was now : MagnitudeTrack) (work work' : List Float) → now ≡ unless_refused n was was
    → drop (patch_sorted_in n rows (patch_of start [])) work' ≡ drop (patch_sorted_in n rows (patch_of start [])) work → (now ≡ was) × (work' ≡ work)
unfolding patch_sorted_in
empty_keeps_all zero rows start was now work work' e h = (e, h)
empty_keeps_all (suc n) rows start was now work work' e h = (e, h)

pub empty_changes_nothing : (slab : Slab) (was : MagnitudeTrack) (start : ℕ) (work : List Float) (answer : Result Patched Refusal) (now : MagnitudeTrack)
    (work' : List Float)
    → PatchMagnitudesPromise slab was (patch_of start []) work answer now work' → (now ≡ was) × (work' ≡ work)
unfolding after
empty_changes_nothing slab was start work answer now work' done =
    empty_keeps_all (patch_number slab was (patch_of start []) (length work)) slab.rows start was now work work' done.track_is done.works.kept

module _ (slab : Slab) (was now : MagnitudeTrack) (work work' : List Float) where
  refused_keeps_all : (n start : ℕ) (new : List Float) → (n ≡ 0 → ⊥)
      → now ≡ unless_refused n (unless_empty new (mended slab was (patch_of start new)) was) was
      → drop (patch_sorted_in n slab.rows (patch_of start new)) work' ≡ drop (patch_sorted_in n slab.rows (patch_of start new)) work
      → (now ≡ was) × (work' ≡ work)
  unfolding patch_sorted_in
  refused_keeps_all (suc n) start new e h w = (h, w)
  refused_keeps_all zero start new e h w = absurd (e refl)

pub refused_changes_nothing : (slab : Slab) (was : MagnitudeTrack) (patch : Patch) (work : List Float) (e : Refusal) (now : MagnitudeTrack) (work' : List Float)
    → PatchMagnitudesPromise slab was patch work (Err e) now work' → (now ≡ was) × (work' ≡ work)
unfolding after
refused_changes_nothing slab was patch work e now work' done =
    refused_keeps_all slab was now work work' (patch_number slab was patch (length work)) patch.start patch.new
    (λ z. number-not_0 e (same_number done.answer_is ∙ z)) done.track_is done.works.kept

-- ---- (5) Any run of patches on a fresh analysis, refused ones among them, ends as one fresh analysis of the last rows.

-- what each step keeps: the curves are those of the rows, and what lies behind them is as it was lent
record Going (slab : Slab) (lent st : MagnitudeTrack) : Type 0 where
  fresh : Fresh slab st
  flux-rest : drop slab.rows st.flux ≡ drop slab.rows lent.flux
  threshold-rest : drop slab.rows st.threshold ≡ drop slab.rows lent.threshold

going_on : (slab : Slab) (lent st : MagnitudeTrack) (patch : Patch) (room : ℕ) → Going slab lent st → Asked slab st patch room
    → Going slab lent (mended slab st patch)
unfolding mended
going_on slab lent st patch room h a =
    record {
      fresh = mends slab st patch room h.fresh a;
      flux-rest = flux-rest slab st patch room a ∙ h.flux-rest;
      threshold-rest = threshold-rest slab st patch room a ∙ h.threshold-rest;
    }

-- what a mended patch keeps, calls one after the other keep
calls_keep : (P : MagnitudeTrack → Type 0) (slab : Slab)
    → ((was : MagnitudeTrack) (patch : Patch) (room : ℕ) → P was → Asked slab was patch room → P (mended slab was patch))
    → {was now : MagnitudeTrack} → P was → Ran slab was now → P now
calls_keep P slab keeps h stays = h
calls_keep P slab keeps h (patches p ran) =
    calls_keep P slab keeps (rw p.track_is (by_outcome P slab _ _ _ h (keeps _ _ _ h))) ran
calls_keep P slab keeps h (refuses p ran) = calls_keep P slab keeps (rw (refused_changes_nothing _ _ _ _ _ _ _ p).0 h) ran
calls_keep P slab keeps h (empties p ran) = calls_keep P slab keeps (rw (empty_changes_nothing _ _ _ _ _ _ _ p).0 h) ran

module _ (slab : Slab) (lent : MagnitudeTrack) where
  pub analysed_is_fresh : Fresh slab (analysed slab lent)
  unfolding analysed flux_curve threshold_curve
  analysed_is_fresh = record { flux = filled-first _ lent.flux slab.rows; threshold = filled-first _ lent.threshold slab.rows }

  analysed_going : Going slab lent (analysed slab lent)
  unfolding analysed
  analysed_going = record {
    fresh = analysed_is_fresh;
    flux-rest = filled-rest _ lent.flux slab.rows;
    threshold-rest = filled-rest _
        lent.threshold slab.rows;
  }

  going_is_analysed : (st : MagnitudeTrack) → Going slab lent st → st ≡ analysed slab (magnitude_track st.magnitudes lent.flux lent.threshold)
  unfolding analysed flux_curve threshold_curve
  going_is_analysed st h =
      ap (λ (f : List Float). magnitude_track st.magnitudes f st.threshold)
      (filled_by (flux_at st.magnitudes slab) lent.flux st.flux slab.rows h.fresh.flux h.flux-rest)
      ∙ ap (λ (t : List Float). magnitude_track st.magnitudes (filled (flux_at st.magnitudes slab) lent.flux 0 slab.rows) t)
      (filled_by (threshold_at (flux_curve slab st.magnitudes)) lent.threshold st.threshold slab.rows h.fresh.threshold h.threshold-rest)

  -- calls one after the other, refused and empty ones of any slab among them
  pub calls_are_one_analysis : {now : MagnitudeTrack} → Ran slab (analysed slab lent) now
      → now ≡ analysed slab (magnitude_track now.magnitudes lent.flux lent.threshold)
  calls_are_one_analysis {now} ran = going_is_analysed now (calls_keep (Going slab lent) slab (going_on slab lent) analysed_going ran)

-- the same of curves that were fresh to begin with, wherever they came from
pub calls_end_fresh : (slab : Slab) {was now : MagnitudeTrack} → Fresh slab was → Ran slab was now → Fresh slab now
calls_end_fresh slab fresh ran = calls_keep (Fresh slab) slab (mends slab) fresh ran

-- what the two calls of the analysis write, where neither refuses, is `analysed`
module _ (slab : Slab) (lent : MagnitudeTrack) (flux threshold work work' : List Float) where
  flux-written :
      FluxPromise lent.magnitudes slab lent.flux 0 flux
      → flux ≡ filled (flux_at lent.magnitudes slab) lent.flux 0 slab.rows
  flux-written w = w.slots_are ∙ passed_does _ _ _ (sym w.number_is)

  curve-written : flux ≡ filled (flux_at lent.magnitudes slab) lent.flux 0 slab.rows
      → take slab.rows flux ≡ curve (flux_at lent.magnitudes slab) slab.rows
  curve-written f = ap (take slab.rows) f ∙ filled-first (flux_at lent.magnitudes slab) lent.flux slab.rows

  pub calls_analyse :
      FluxPromise lent.magnitudes slab lent.flux 0 flux
      → ThresholdPromise (take slab.rows flux) lent.threshold work 0 threshold work'
      → magnitude_track lent.magnitudes flux threshold ≡ analysed slab lent
  unfolding analysed flux_curve
  calls_analyse w t =
      let f = flux-written w in
      let c = curve-written f in
      let l : length (take slab.rows flux) ≡ slab.rows = ap length c ∙ length-tab (flux_at lent.magnitudes slab) 0 slab.rows in
      let e : threshold ≡ filled (threshold_at (take slab.rows flux)) lent.threshold 0 (length (take slab.rows flux)) =
      t.curve.slots_are ∙ passed_does _ _ _ (sym t.curve.number_is) in
      ap (λ (x : List Float). magnitude_track lent.magnitudes x threshold) f
      ∙ ap (magnitude_track lent.magnitudes (filled (flux_at lent.magnitudes slab) lent.flux 0 slab.rows))
      (e ∙ ap (filled (threshold_at (take slab.rows flux)) lent.threshold 0) l
      ∙ ap (λ (x : List Float). filled (threshold_at x) lent.threshold 0 slab.rows) c)

  -- and neither refuses a sound track with room to sort in: there is one fresh analysis of it
  pub sound_is_analysed : (n m : ℕ) → Sound slab lent → window_room slab.rows ≤ length work
      → FluxPromise lent.magnitudes slab lent.flux n flux
      → ThresholdPromise (take slab.rows flux) lent.threshold work m threshold work'
      → (n ≡ 0) × (m ≡ 0) × (magnitude_track lent.magnitudes flux threshold ≡ analysed slab lent)
  sound_is_analysed n m s r w t =
      let ok : FluxFine lent.magnitudes slab (length lent.flux) = record {
        shape = s.shape;
        whole = s.whole;
        has_room = s.flux_room;
        fine = s.fine;
      } in
      let z : n ≡ 0 = w.number_is ∙ flux_asked lent.magnitudes slab (length lent.flux) ok in
      let w' = rw z at w in
      let y : m ≡ 0 =
      t.curve.number_is ∙ ap (λ (x : List Float). threshold_refusal x (length lent.threshold) (length work)) (curve-written (flux-written w'))
      ∙ threshold_takes lent.magnitudes slab (length lent.flux) ok (length lent.threshold) (length work) s.threshold_room r in
      (z, y, calls_analyse w' (rw y at t))

-- ---- (6) A good patch on fresh curves is accepted, at any place of a run.

pub good_is_accepted : (slab : Slab) (was : MagnitudeTrack) (patch : Patch) (room : ℕ) → Sound slab was → Fresh slab was → Good slab patch room
    → patch_number slab was patch room ≡ 0
unfolding patch_number patch_values
good_is_accepted slab was patch room sound fresh good =
    let k : patch.start ≤ slab.rows = let h : patch.start + good.count ≤ slab.rows = good.inside in omega arith in
    let fits = slab_fits slab sound.shape in
    let new : new_rows slab.rows slab.bins patch.start (length patch.new) ≡ true =
    rw good.whole (new_asked slab.rows slab.bins patch.start good.count fits.some-bins good.inside) in
    let flux : every value_fine (take slab.rows was.flux) ≡ true =
    rw fresh.flux (fluxes-fine slab was.magnitudes sound.fine fits.bins_fit) in
    let threshold : every value_fine (take slab.rows was.threshold) ≡ true =
    rw fresh.threshold (thresholds-fine slab was.magnitudes sound.fine fits.bins_fit) in
    lowest_0 _ _ _ _
    (bounds_asked slab patch.start (record { shape = sound.shape; starts = k }))
    (lengths_asked slab (length was.magnitudes) patch.start (length patch.new) sound.whole new)
    (room_asked slab.rows (length was.flux) (length was.threshold) room
    (record { flux_room = sound.flux_room; threshold_room = sound.threshold_room; work_room = good.work_room }))
    (and_both (every magnitude_fine was.magnitudes) _ sound.fine
    (and_both (every magnitude_fine patch.new) _ good.fine (and_both (every value_fine (take slab.rows was.flux)) _ flux threshold)))

-- a patch leaves a sound track sound
mended_sound : (slab : Slab) (was : MagnitudeTrack) (patch : Patch) (room : ℕ) → Sound slab was → Asked slab was patch room
    → Sound slab (mended slab was patch)
unfolding mended edited
mended_sound slab was patch room s a =
    let kept = mended_keeps slab was patch room a in
    record {
      shape = s.shape;
      whole = kept.magnitudes_length ∙ s.whole;
      fine = every-over magnitude_fine was.magnitudes (patch.start * slab.bins) patch.new s.fine a.new-fine;
      flux_room = rw kept.flux_length s.flux_room;
      threshold_room = rw kept.threshold_length s.threshold_room;
    }

pub calls_keep_sound : (slab : Slab) {was now : MagnitudeTrack} → Sound slab was → Ran slab was now → Sound slab now
calls_keep_sound slab sound ran = calls_keep (Sound slab) slab (mended_sound slab) sound ran

pub analysed_is_sound : (slab : Slab) (lent : MagnitudeTrack) → Sound slab lent → Sound slab (analysed slab lent)
unfolding analysed
analysed_is_sound slab lent s =
    record {
      shape = s.shape;
      whole = s.whole;
      fine = s.fine;
      flux_room = rw (length-filled (flux_at lent.magnitudes slab) lent.flux 0 slab.rows (omega arith) s.flux_room) s.flux_room;
      threshold_room =
          rw (length-filled (threshold_at (flux_curve slab lent.magnitudes)) lent.threshold 0 slab.rows (omega arith) s.threshold_room)
          s.threshold_room;
    }

pub good_is_accepted_after_calls : (slab : Slab) (lent : MagnitudeTrack) {now : MagnitudeTrack} (patch : Patch) (room : ℕ)
    → Sound slab lent → Ran slab (analysed slab lent) now → Good slab patch room → patch_number slab now patch room ≡ 0
good_is_accepted_after_calls slab lent {now} patch room s ran good =
    good_is_accepted slab now patch room (calls_keep_sound slab (analysed_is_sound slab lent s) ran)
    (calls_end_fresh slab (analysed_is_fresh slab lent) ran) good

-- How much room is enough, and how little is too little: what number 0 says of each slice that is lent, that with at least the room that
-- `room_of` names number 3 is never given, and that with one slot fewer anywhere it is. Assumes nothing.
use mathlib.Core.Path.{◌≡◌, refl, sym, ap, ◌∙◌, subst}
use mathlib.Core.Bool.{Bool, true, false, ◌&&◌}
use mathlib.Core.Logic.{◌⊎◌, inl, inr, ⊎_elim}
use mathlib.Core.List.{List}
use Prim.Native.Nat.{ℕ, ◌≤◌, ◌<◌}
use native.Mathlib.Omega.{arith}
use borrow.Author.Tests.{leb-true, le-leb, lt-leb, eq-eqb}
use lib.Dec.{leb}
use lib.ListN.{length}
use lib.Ieee.{Float}
use Rattle.numbers.specs.Refusals.{lowest}
use Rattle.numbers.specs.Limits.{magnitude_fine, value_fine, slab_fine, slab_slots, slab_whole}
use Rattle.numbers.specs.Lists.{every, curve}
use Rattle.numbers.specs.declared.Slab.{Slab}
use Rattle.numbers.proofs.Slabs.{slab_fits}
use Rattle.numbers.proofs.Tests.{which, true_not_false, and_left, and_right, and_both, and_failed, and-false, lowest-zero, lowest_0, lowest_3}
use Rattle.numbers.proofs.Tabs.{length-tab}
use Rattle.flux.specs.Flux.{flux_at}
use Rattle.flux.proofs.Fluxes.{FluxFine, flux_curve_fine}
use Rattle.options.specs.declared.TempoOpts.{TempoOpts}
use Rattle.lags.specs.Lags.{bounds_fine}
use Rattle.rooms.specs.Rooms.{
  RoomSaid,
  Results,
  Spare,
  frame_slots,
  lag_slots,
  analysis_numbers_fine,
  room_of,
  suffices,
  envelope_refusal,
  magnitudes_refusal,
  envelope_number,
  magnitudes_number,
}
use Rattle.rooms.specs.Enough.{
  Enough,
  Short,
  short_threshold,
  short_onsets,
  short_score,
  short_back,
  short_beats,
  short_downbeats,
  short_clarity,
  short_weight,
  short_window_clarity,
  short_window_weight,
  short_work,
}
use Rattle.rooms.specs.Inner.{Ready}
use Rattle.rooms.proofs.Numbers.{in_bounds, outside, by_bounds, rows_fine, bounds-fine, room-inside, room_outside, flux_asks}

-- ---- enough, and too little

module _ (room : RoomSaid) (r : Results) (s : Spare) where
  abbrev enough? : Bool
  enough? = suffices room (frame_slots r) (lag_slots r s) (length s.work)

  pub enough_suffices : Enough room r s → enough? ≡ true
  unfolding suffices every
  enough_suffices e =
      rw (
        le-leb _ _ e.threshold,
        le-leb _ _ e.onsets,
        le-leb _ _ e.score,
        le-leb _ _ e.back,
        le-leb _ _ e.beats,
        le-leb _ _ e.downbeats,
        le-leb _ _ e.clarity,
        le-leb _ _ e.weight,
        le-leb _ _ e.window_clarity,
        le-leb _ _ e.window_weight,
        le-leb _ _ e.work,
      ) refl

  pub suffices_enough : enough? ≡ true → Enough room r s
  unfolding suffices every
  suffices_enough e =
      let f = and_left (every (leb room.rows) (frame_slots r)) _ e in
      let g = and_right (every (leb room.rows) (frame_slots r)) _ e in
      let l = and_left (every (leb room.lags) (lag_slots r s)) _ g in
      let f1 = and_right (leb room.rows (length r.threshold)) _ f in
      let f2 = and_right (leb room.rows (length r.onsets)) _ f1 in
      let f3 = and_right (leb room.rows (length r.score)) _ f2 in
      let f4 = and_right (leb room.rows (length r.back)) _ f3 in
      let f5 = and_right (leb room.rows (length r.beats)) _ f4 in
      let l1 = and_right (leb room.lags (length r.clarity)) _ l in
      let l2 = and_right (leb room.lags (length r.weight)) _ l1 in
      let l3 = and_right (leb room.lags (length s.window_clarity)) _ l2 in
      record {
        threshold = leb-true _ _ (and_left (leb room.rows (length r.threshold)) _ f);
        onsets = leb-true _ _ (and_left (leb room.rows (length r.onsets)) _ f1);
        score = leb-true _ _ (and_left (leb room.rows (length r.score)) _ f2);
        back = leb-true _ _ (and_left (leb room.rows (length r.back)) _ f3);
        beats = leb-true _ _ (and_left (leb room.rows (length r.beats)) _ f4);
        downbeats = leb-true _ _ (and_left (leb room.rows (length r.downbeats)) _ f5);
        clarity = leb-true _ _ (and_left (leb room.lags (length r.clarity)) _ l);
        weight = leb-true _ _ (and_left (leb room.lags (length r.weight)) _ l1);
        window_clarity = leb-true _ _ (and_left (leb room.lags (length s.window_clarity)) _ l2);
        window_weight = leb-true _ _ (and_left (leb room.lags (length s.window_weight)) _ l3);
        work = leb-true _ _ (and_right (every (leb room.lags) (lag_slots r s)) (leb room.sorting (length s.work)) g);
      }

  enough_not_short : Enough room r s → Short room r s → ⊥
  enough_not_short e (short_threshold h) = omega (arith, e.threshold)
  enough_not_short e (short_onsets h) = omega (arith, e.onsets)
  enough_not_short e (short_score h) = omega (arith, e.score)
  enough_not_short e (short_back h) = omega (arith, e.back)
  enough_not_short e (short_beats h) = omega (arith, e.beats)
  enough_not_short e (short_downbeats h) = omega (arith, e.downbeats)
  enough_not_short e (short_clarity h) = omega (arith, e.clarity)
  enough_not_short e (short_weight h) = omega (arith, e.weight)
  enough_not_short e (short_window_clarity h) = omega (arith, e.window_clarity)
  enough_not_short e (short_window_weight h) = omega (arith, e.window_weight)
  enough_not_short e (short_work h) = omega (arith, e.work)

  pub short_fails : Short room r s → enough? ≡ false
  short_fails w = ⊎_elim (λ e. absurd (enough_not_short (suffices_enough e) w)) (λ e. e) (which enough?)

-- every slice is long enough for no room
none_enough : (r : Results) (s : Spare) → Enough outside r s
none_enough r s =
    record {
      threshold = omega arith;
      onsets = omega arith;
      score = omega arith;
      back = omega arith;
      beats = omega arith;
      downbeats = omega arith;
      clarity = omega arith;
      weight = omega arith;
      window_clarity = omega arith;
      window_weight = omega arith;
      work = omega arith;
    }

-- a room with a slice too short for it has its numbers in bounds
short_bounds : (rows rate : ℕ) (o : TempoOpts) (r : Results) (s : Spare) → Short (room_of rows rate o) r s → analysis_numbers_fine rows rate o ≡ true
short_bounds rows rate o r s w =
    ⊎_elim (λ e. e) (λ e. absurd (enough_not_short outside r s (none_enough r s) (subst (λ (x : RoomSaid). Short x r s) (room_outside rows rate o e) w)))
    (which (analysis_numbers_fine rows rate o))

-- ---- an envelope

never_3 : (b l r v : Bool) → r ≡ true → lowest b l r v ≡ 3 → ⊥
never_3 true true true true e z = omega arith
never_3 true true true false e z = omega arith
never_3 true true false v e z = true_not_false false e refl
never_3 true false r v e z = omega arith
never_3 false l r v e z = omega arith

-- the room that is named for an envelope in bounds is what an analysis asks for
room-ready : (env : List Float) (rate : ℕ) (o : TempoOpts) (r : Results) (s : Spare) → analysis_numbers_fine (length env) rate o ≡ true
    → Enough (in_bounds (length env) rate o) r s → every value_fine env ≡ true → Ready env rate o r s
room-ready env rate o r s b e v =
    record {
      rows = rows_fine (length env) rate o b;
      bounds = bounds-fine (length env) rate o b;
      values = v;
      thresholds = e.threshold;
      onset_lists = e.onsets;
      scores = e.score;
      links = e.back;
      beat_lists = e.beats;
      downbeat_lists = e.downbeats;
      clarities = e.clarity;
      weights = e.weight;
      window_clarities = e.window_clarity;
      window_weights = e.window_weight;
      lag_works = omega (arith, e.work);
      window_works = omega (arith, e.work);
    }

module _ (env : List Float) (rate : ℕ) (o : TempoOpts) (r : Results) (s : Spare) where
  -- with each slice at least what `room_of` names, number 3 is never given
  pub exact_room : Enough (room_of (length env) rate o) r s → envelope_number env rate o r s ≡ 3 → ⊥
  unfolding envelope_refusal
  exact_room e = never_3 (analysis_numbers_fine (length env) rate o) true (enough? (room_of (length env) rate o) r s) (every value_fine env)
      (enough_suffices (room_of (length env) rate o) r s e)

  -- with one slot fewer anywhere it is
  pub one_slot_fewer : Short (room_of (length env) rate o) r s → envelope_number env rate o r s ≡ 3
  unfolding envelope_refusal
  one_slot_fewer w =
      lowest_3 (analysis_numbers_fine (length env) rate o) true (enough? (room_of (length env) rate o) r s) (every value_fine env)
      (short_bounds (length env) rate o r s w)
      refl
      (short_fails (room_of (length env) rate o) r s w)

  -- what number 0 says
  pub ready_of : envelope_number env rate o r s ≡ 0 → Ready env rate o r s
  unfolding envelope_refusal
  ready_of e =
      let p = lowest-zero (analysis_numbers_fine (length env) rate o) true (enough? (room_of (length env) rate o) r s) (every value_fine env) e in
      room-ready env rate o r s p.bounds (suffices_enough (in_bounds (length env) rate o) r s
      (sym (ap (λ (x : RoomSaid). enough? x r s) (room-inside (length env) rate o p.bounds)) ∙ p.room)) p.values

-- ---- magnitudes

-- what number 0 says
pub record MagnitudesTold (m : List Float) (slab : Slab) (rate : ℕ) (o : TempoOpts) (flux : ℕ) (r : Results) (s : Spare) : Type 0 where
  pub flux_takes : FluxFine m slab flux
  pub numbers : analysis_numbers_fine slab.rows rate o ≡ true
  pub room : Enough (in_bounds slab.rows rate o) r s

module _ (m : List Float) (slab : Slab) (rate : ℕ) (o : TempoOpts) (flux : List Float) (r : Results) (s : Spare) where
  abbrev bounds? : Bool
  bounds? = slab_fine slab && bounds_fine rate o

  abbrev wide? : Bool
  wide? = leb slab.rows (length flux) && enough? (room_of slab.rows rate o) r s

  pub told : magnitudes_number m slab rate o flux r s ≡ 0 → MagnitudesTold m slab rate o (length flux) r s
  unfolding magnitudes_refusal
  told e =
      let f = flux_asks m slab rate o (length flux) (frame_slots r) (lag_slots r s) (length s.work) e in
      let p = lowest-zero bounds? (slab_whole slab (length m)) wide? (every magnitude_fine m) e in
      let n : analysis_numbers_fine slab.rows rate o ≡ true =
      by_bounds slab.rows rate o (slab_fits slab f.shape).rows_fit ∙ and_right (slab_fine slab) (bounds_fine rate o) p.bounds in
      let w = and_right (leb slab.rows (length flux)) (enough? (room_of slab.rows rate o) r s) p.room in
      record {
        flux_takes = f;
        numbers = n;
        room = suffices_enough (in_bounds slab.rows rate o) r s (sym (ap (λ (x : RoomSaid). enough? x r s) (room-inside slab.rows rate o n)) ∙ w);
      }

  -- with each slice at least what `room_of` names, number 3 is never given
  pub exact_room_of_magnitudes : slab.rows ≤ length flux → Enough (room_of slab.rows rate o) r s → magnitudes_number m slab rate o flux r s ≡ 3 → ⊥
  unfolding magnitudes_refusal
  exact_room_of_magnitudes f e =
      never_3 bounds? (slab_whole slab (length m)) wide? (every magnitude_fine m)
      (and_both (leb slab.rows (length flux)) (enough? (room_of slab.rows rate o) r s) (le-leb _ _ f) (enough_suffices (room_of slab.rows rate o) r s e))

  -- with one slot fewer anywhere it is, where neither number 1 nor number 2 applies
  pub one_slot_fewer_of_magnitudes : slab_fine slab ≡ true → bounds_fine rate o ≡ true → length m ≡ slab_slots slab
      → (length flux < slab.rows) ⊎ Short (room_of slab.rows rate o) r s → magnitudes_number m slab rate o flux r s ≡ 3
  unfolding magnitudes_refusal
  one_slot_fewer_of_magnitudes shape b w short =
      lowest_3 bounds? (slab_whole slab (length m)) wide? (every magnitude_fine m)
      (and_both (slab_fine slab) (bounds_fine rate o) shape b)
      (eq-eqb _ _ w)
      (fails short)
    where
      fails : (length flux < slab.rows) ⊎ Short (room_of slab.rows rate o) r s → wide? ≡ false
      fails (inl f) =
          let e = lt-leb slab.rows (length flux) f in
          sym (and_failed (leb slab.rows (length flux)) (enough? (room_of slab.rows rate o) r s) e) ∙ e
      fails (inr f) = rw (short_fails (room_of slab.rows rate o) r s f) (and-false (leb slab.rows (length flux)))

  -- the flux of magnitudes that are not refused is an envelope that isn't either
  abbrev envelope : List Float
  envelope = curve (flux_at m slab) slab.rows

  flux_long : length envelope ≡ slab.rows
  flux_long = length-tab (flux_at m slab) 0 slab.rows

  flux_loud : MagnitudesTold m slab rate o (length flux) r s → every value_fine envelope ≡ true
  flux_loud t = flux_curve_fine m slab t.flux_takes.fine (slab_fits slab t.flux_takes.shape).bins_fit

  pub flux-ready : MagnitudesTold m slab rate o (length flux) r s → Ready envelope rate o r s
  flux-ready t = room-ready envelope rate o r s (rw flux_long t.numbers) (rw flux_long t.room) (flux_loud t)

  pub flux-taken : magnitudes_number m slab rate o flux r s ≡ 0 → envelope_number envelope rate o r s ≡ 0
  unfolding envelope_refusal
  flux-taken e =
      let t = told e in
      let n : analysis_numbers_fine (length envelope) rate o ≡ true = rw flux_long t.numbers in
      let q : enough? (room_of (length envelope) rate o) r s ≡ true =
      ap (λ (j : ℕ). enough? (room_of j rate o) r s) flux_long ∙ ap (λ (x : RoomSaid). enough? x r s) (room-inside slab.rows rate o t.numbers)
      ∙ enough_suffices (in_bounds slab.rows rate o) r s t.room in
      lowest_0 (analysis_numbers_fine (length envelope) rate o) true (enough? (room_of (length envelope) rate o) r s) (every value_fine envelope) n refl q
      (flux_loud t)

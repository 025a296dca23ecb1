-- The numbers of the calls: what the room is where the numbers are in bounds, and each row of the table. Assumes nothing.
use mathlib.Core.Path.{◌≡◌, refl, sym, ap, ◌∙◌}
use mathlib.Core.Bool.{Bool, true, false, ◌&&◌}
use mathlib.Core.List.{List}
use mathlib.Core.Logic.{⊎_elim}
use Prim.Native.Nat.{ℕ, ◌≤◌, ◌<◌, max}
use native.Mathlib.Omega.{arith}
use borrow.Author.Tests.{leb-true, le-leb, lt-leb, eqb-true}
use lib.Dec.{leb}
use lib.ListN.{length}
use lib.Ieee.{Float}
use Rattle.numbers.specs.Limits.{most_rows, magnitude_fine, value_fine, slab_fine, slab_whole}
use Rattle.numbers.specs.Lists.{every}
use Rattle.numbers.specs.declared.Slab.{Slab}
use Rattle.numbers.proofs.Slabs.{slab_fits}
use Rattle.numbers.proofs.Tests.{
  which,
  and_left,
  and_right,
  and_both,
  and-held,
  and_failed,
  pick_true,
  pick-false,
  lowest-zero,
  lowest_0,
  lowest_1,
  lowest_2,
  lowest_3,
  lowest_4,
}
use Rattle.flux.proofs.Fluxes.{FluxFine}
use Rattle.threshold.specs.Threshold.{window_room}
use Rattle.options.specs.declared.TempoOpts.{TempoOpts}
use Rattle.lags.specs.Lags.{bounds_fine}
use Rattle.rooms.specs.Rooms.{RoomSaid, lags_of, sorting_of, analysis_numbers_fine, room_of, suffices, envelope_refusal, magnitudes_refusal}

-- the room that is named where the numbers are in bounds, and where they are not
abbrev pub in_bounds : (rows rate : ℕ) → TempoOpts → RoomSaid
in_bounds rows rate o = record { number = 0; rows = rows; lags = lags_of rate o; sorting = sorting_of rows (lags_of rate o) }

abbrev pub outside : RoomSaid
outside = record { number = 1; rows = 0; lags = 0; sorting = 0 }

module _ (rows rate : ℕ) (o : TempoOpts) where
  pub too_long : most_rows < rows → analysis_numbers_fine rows rate o ≡ false
  unfolding analysis_numbers_fine
  too_long h = let e = lt-leb rows most_rows h in sym (and_failed (leb rows most_rows) (bounds_fine rate o) e) ∙ e

  pub by_bounds : rows ≤ most_rows → analysis_numbers_fine rows rate o ≡ bounds_fine rate o
  unfolding analysis_numbers_fine
  by_bounds h = sym (and-held (leb rows most_rows) (bounds_fine rate o) (le-leb rows most_rows h))

  pub rows_fine : analysis_numbers_fine rows rate o ≡ true → rows ≤ most_rows
  unfolding analysis_numbers_fine
  rows_fine e = leb-true rows most_rows (and_left (leb rows most_rows) (bounds_fine rate o) e)

  pub bounds-fine : analysis_numbers_fine rows rate o ≡ true → bounds_fine rate o ≡ true
  unfolding analysis_numbers_fine
  bounds-fine e = and_right (leb rows most_rows) (bounds_fine rate o) e

  pub room-inside : analysis_numbers_fine rows rate o ≡ true → room_of rows rate o ≡ in_bounds rows rate o
  unfolding room_of
  room-inside e = pick_true (analysis_numbers_fine rows rate o) (in_bounds rows rate o) outside e

  pub room_outside : analysis_numbers_fine rows rate o ≡ false → room_of rows rate o ≡ outside
  unfolding room_of
  room_outside e = pick-false (analysis_numbers_fine rows rate o) (in_bounds rows rate o) outside e

  -- the room that is computed
  pub named_room : (lags sorting least : ℕ) → rows ≤ most_rows → bounds_fine rate o ≡ true → lags ≡ lags_of rate o → least ≡ window_room rows
      → sorting ≡ max lags least
      → ◌≡◌ {A = RoomSaid} (record { number = 0; rows = rows; lags = lags; sorting = sorting }) (room_of rows rate o)
  named_room lags sorting least h fine l m s =
      ap (λ (k : ℕ). record { number = 0; rows = rows; lags = lags; sorting = k }) (s ∙ ap (max lags) m)
      ∙ ap (λ (k : ℕ). record { number = 0; rows = rows; lags = k; sorting = sorting_of rows k }) l
      ∙ sym (room-inside (by_bounds h ∙ fine))

-- ---- number 3

module _ (room : RoomSaid) (frames lags : List ℕ) (work : ℕ) where
  pub frames_short : every (leb room.rows) frames ≡ false → every (leb room.rows) frames ≡ suffices room frames lags work
  unfolding suffices
  frames_short e = and_failed (every (leb room.rows) frames) (every (leb room.lags) lags && leb room.sorting work) e

  module _ (f : every (leb room.rows) frames ≡ true) where
    pub lags_short : every (leb room.lags) lags ≡ false → every (leb room.lags) lags ≡ suffices room frames lags work
    unfolding suffices
    lags_short e =
        and_failed (every (leb room.lags) lags) (leb room.sorting work) e
        ∙ and-held (every (leb room.rows) frames) (every (leb room.lags) lags && leb room.sorting work) f

    pub by_work : every (leb room.lags) lags ≡ true → leb room.sorting work ≡ suffices room frames lags work
    unfolding suffices
    by_work e =
        and-held (every (leb room.lags) lags) (leb room.sorting work) e
        ∙ and-held (every (leb room.rows) frames) (every (leb room.lags) lags && leb room.sorting work) f

-- ---- each row of the table

-- the numbers are in bounds where the room was named
module _ (rows rate : ℕ) (o : TempoOpts) (room : RoomSaid) (is : room ≡ room_of rows rate o) where
  pub named : room.number ≡ 0 → analysis_numbers_fine rows rate o ≡ true
  named z = ⊎_elim (λ e. e) (λ e. let n : room.number ≡ 1 = ap (λ (r : RoomSaid). r.number) (is ∙ room_outside rows rate o e) in absurd (omega arith))
      (which (analysis_numbers_fine rows rate o))

  pub unnamed : (room.number ≡ 0 → ⊥) → analysis_numbers_fine rows rate o ≡ false
  unnamed h = ⊎_elim (λ e. absurd (h (ap (λ (r : RoomSaid). r.number) (is ∙ room-inside rows rate o e)))) (λ e. e) (which (analysis_numbers_fine rows rate o))

  pub unnamed_is : (room.number ≡ 0 → ⊥) → room.number ≡ 1
  unnamed_is h = ap (λ (r : RoomSaid). r.number) (is ∙ room_outside rows rate o (unnamed h))

module _ (env : List Float) (rate : ℕ) (o : TempoOpts) (frames lags : List ℕ) (work : ℕ) (room : RoomSaid) (is : room ≡ room_of (length env) rate o) where
  abbrev fine : Bool
  fine = analysis_numbers_fine (length env) rate o

  abbrev roomy : Bool
  roomy = suffices (room_of (length env) rate o) frames lags work

  abbrev valued : Bool
  valued = every value_fine env

  pub envelope_1 : (room.number ≡ 0 → ⊥) → room.number ≡ envelope_refusal env rate o frames lags work
  unfolding envelope_refusal
  envelope_1 h = unnamed_is (length env) rate o room is h ∙ sym (lowest_1 fine true roomy valued (unnamed (length env) rate o room is h))

  module _ (z : room.number ≡ 0) (b : Bool) (asked : b ≡ suffices room frames lags work) where
    room_is : roomy ≡ b
    room_is = sym (asked ∙ ap (λ (r : RoomSaid). suffices r frames lags work) is)

    pub envelope_3 : b ≡ false → 3 ≡ envelope_refusal env rate o frames lags work
    unfolding envelope_refusal
    envelope_3 e = sym (lowest_3 fine true roomy valued (named (length env) rate o room is z) refl (room_is ∙ e))

    pub envelope_4 : b ≡ true → valued ≡ false → 4 ≡ envelope_refusal env rate o frames lags work
    unfolding envelope_refusal
    envelope_4 e v = sym (lowest_4 fine true roomy valued (named (length env) rate o room is z) refl (room_is ∙ e) v)

    pub envelope_0 : b ≡ true → valued ≡ true → 0 ≡ envelope_refusal env rate o frames lags work
    unfolding envelope_refusal
    envelope_0 e v = sym (lowest_0 fine true roomy valued (named (length env) rate o room is z) refl (room_is ∙ e) v)

module _ (magnitudes : List Float) (slab : Slab) (rate : ℕ) (o : TempoOpts) (flux : ℕ) (frames lags : List ℕ) (work : ℕ) where
  abbrev bounds : Bool
  bounds = slab_fine slab && bounds_fine rate o

  abbrev whole : Bool
  whole = slab_whole slab (length magnitudes)

  abbrev wide : Bool
  wide = leb slab.rows flux && suffices (room_of slab.rows rate o) frames lags work

  abbrev loud : Bool
  loud = every magnitude_fine magnitudes

  -- outside the bounds
  refused_1 : bounds ≡ false → 1 ≡ magnitudes_refusal magnitudes slab rate o flux frames lags work
  unfolding magnitudes_refusal
  refused_1 e = sym (lowest_1 bounds whole wide loud e)

  pub shapeless : slab_fine slab ≡ false → 1 ≡ magnitudes_refusal magnitudes slab rate o flux frames lags work
  shapeless e = refused_1 (sym (and_failed (slab_fine slab) (bounds_fine rate o) e) ∙ e)

  module _ (shape : slab_fine slab ≡ true) (room : RoomSaid) (is : room ≡ room_of slab.rows rate o) where
    pub magnitudes_1 : (room.number ≡ 0 → ⊥) → room.number ≡ magnitudes_refusal magnitudes slab rate o flux frames lags work
    magnitudes_1 h =
        unnamed_is slab.rows rate o room is h ∙ refused_1 (
        sym (and-held (slab_fine slab) (bounds_fine rate o) shape)
        ∙ sym (by_bounds slab.rows rate o (slab_fits slab shape).rows_fit)
        ∙ unnamed slab.rows rate o room is h
        )

    module _ (z : room.number ≡ 0) where
      inside : bounds ≡ true
      inside = and_both (slab_fine slab) (bounds_fine rate o) shape (bounds-fine slab.rows rate o (named slab.rows rate o room is z))

      pub magnitudes_2 : whole ≡ false → 2 ≡ magnitudes_refusal magnitudes slab rate o flux frames lags work
      unfolding magnitudes_refusal
      magnitudes_2 h = sym (lowest_2 bounds whole wide loud inside h)

      module _ (w : whole ≡ true) where
        refused_3 : wide ≡ false → 3 ≡ magnitudes_refusal magnitudes slab rate o flux frames lags work
        unfolding magnitudes_refusal
        refused_3 e = sym (lowest_3 bounds whole wide loud inside w e)

        pub flux_short : flux < slab.rows → 3 ≡ magnitudes_refusal magnitudes slab rate o flux frames lags work
        flux_short h =
            let e = lt-leb slab.rows flux h in
            refused_3 (sym (and_failed (leb slab.rows flux) (suffices (room_of slab.rows rate o) frames lags work) e) ∙ e)

        module _ (f : slab.rows ≤ flux) (b : Bool) (asked : b ≡ suffices room frames lags work) where
          wide_is : wide ≡ b
          wide_is =
              sym (
              asked ∙ ap (λ (r : RoomSaid). suffices r frames lags work) is
              ∙ and-held (leb slab.rows flux) (suffices (room_of slab.rows rate o) frames lags work) (le-leb slab.rows flux f)
              )

          pub magnitudes_3 : b ≡ false → 3 ≡ magnitudes_refusal magnitudes slab rate o flux frames lags work
          magnitudes_3 e = refused_3 (wide_is ∙ e)

          pub magnitudes_4 : b ≡ true → loud ≡ false → 4 ≡ magnitudes_refusal magnitudes slab rate o flux frames lags work
          unfolding magnitudes_refusal
          magnitudes_4 e v = sym (lowest_4 bounds whole wide loud inside w (wide_is ∙ e) v)

          pub magnitudes_0 : b ≡ true → loud ≡ true → 0 ≡ magnitudes_refusal magnitudes slab rate o flux frames lags work
          unfolding magnitudes_refusal
          magnitudes_0 e v = sym (lowest_0 bounds whole wide loud inside w (wide_is ∙ e) v)

  -- number 0 tells that `spectral_flux` takes them too
  pub flux_asks : magnitudes_refusal magnitudes slab rate o flux frames lags work ≡ 0 → FluxFine magnitudes slab flux
  unfolding magnitudes_refusal
  flux_asks e =
      let p = lowest-zero bounds whole wide loud e in
      record {
        shape = and_left (slab_fine slab) (bounds_fine rate o) p.bounds;
        whole = eqb-true _ _ p.lengths;
        has_room = leb-true slab.rows flux (and_left (leb slab.rows flux) (suffices (room_of slab.rows rate o) frames lags work) p.room);
        fine = p.values;
      }

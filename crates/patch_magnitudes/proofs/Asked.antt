-- What number 0 says of a patch of magnitudes, row by row of the table, and what it asks for.
use mathlib.Core.Bool.{true}
use mathlib.Core.Path.{◌≡◌}
use Prim.Native.Nat.{ℕ, ◌≤◌}
use borrow.Author.Tests.{leb-true, le-leb, eqb-true, eq-eqb}
use lib.Dec.{leb}
use lib.ListN.{length}
use Rattle.numbers.proofs.Slabs.{SlabFits, slab_fits}
use Rattle.numbers.proofs.Tests.{and_left, and_right, and_both, lowest-zero}
use Rattle.numbers.specs.Limits.{magnitude_fine, slab_fine, slab_slots, slab_whole}
use Rattle.numbers.specs.Lists.{every}
use Rattle.numbers.specs.declared.Slab.{Slab}
use Rattle.threshold.specs.Threshold.{window_room}
use Rattle.patches.proofs.Wholes.{Whole, new_told}
use Rattle.patches.specs.Patches.{Patch, new_rows}
use Rattle.patch_magnitudes.specs.Tracks.{MagnitudeTrack, patch_bounds, patch_lengths, patch_room, patch_values, patch_number}

pub record Bounds (slab : Slab) (start : ℕ) : Type 0 where
  pub shape : slab_fine slab ≡ true
  pub starts : start ≤ slab.rows

pub bounds-told : (slab : Slab) (start : ℕ) → patch_bounds slab start ≡ true → Bounds slab start
unfolding patch_bounds
bounds-told slab start e = record { shape = and_left (slab_fine slab) _ e; starts = leb-true start slab.rows (and_right (slab_fine slab) _ e) }

pub bounds_asked : (slab : Slab) (start : ℕ) → Bounds slab start → patch_bounds slab start ≡ true
unfolding patch_bounds
bounds_asked slab start b = and_both (slab_fine slab) _ b.shape (le-leb start slab.rows b.starts)

pub lengths_told : (slab : Slab) (slots start added : ℕ) → patch_lengths slab slots start added ≡ true → Whole slots slab.rows slab.bins start added
unfolding patch_lengths
lengths_told slab slots start added e =
    let t = new_told slab.rows slab.bins start added (and_right (slab_whole slab slots) _ e) in
    record { whole = eqb-true slots (slab_slots slab) (and_left (slab_whole slab slots) _ e); new-whole = t.new-whole; inside = t.inside }

pub lengths_asked : (slab : Slab) (slots start added : ℕ) → slots ≡ slab_slots slab → new_rows slab.rows slab.bins start added ≡ true
    → patch_lengths slab slots start added ≡ true
unfolding patch_lengths
lengths_asked slab slots start added e n = and_both (slab_whole slab slots) _ (eq-eqb slots (slab_slots slab) e) n

pub record Room (rows flux threshold room : ℕ) : Type 0 where
  pub flux_room : rows ≤ flux
  pub threshold_room : rows ≤ threshold
  pub work_room : window_room rows ≤ room

pub room-told : (rows flux threshold room : ℕ) → patch_room rows flux threshold room ≡ true → Room rows flux threshold room
unfolding patch_room
room-told rows flux threshold room e =
    let t = and_right (leb rows flux) _ e in
    record {
      flux_room = leb-true rows flux (and_left (leb rows flux) _ e);
      threshold_room = leb-true rows threshold (and_left (leb rows threshold) _ t);
      work_room = leb-true (window_room rows) room (and_right (leb rows threshold) _ t);
    }

pub room_asked : (rows flux threshold room : ℕ) → Room rows flux threshold room → patch_room rows flux threshold room ≡ true
unfolding patch_room
room_asked rows flux threshold room r =
    and_both (leb rows flux) _ (le-leb rows flux r.flux_room)
    (and_both (leb rows threshold) _ (le-leb rows threshold r.threshold_room) (le-leb (window_room rows) room r.work_room))

-- what number 0 says
pub record Asked (slab : Slab) (was : MagnitudeTrack) (patch : Patch) (room : ℕ) : Type 0 where
  pub bounds : Bounds slab patch.start
  pub fits : SlabFits slab
  pub lengths : Whole (length was.magnitudes) slab.rows slab.bins patch.start (length patch.new)
  pub rooms : Room slab.rows (length was.flux) (length was.threshold) room
  pub fine : every magnitude_fine was.magnitudes ≡ true
  pub new-fine : every magnitude_fine patch.new ≡ true

pub asked : (slab : Slab) (was : MagnitudeTrack) (patch : Patch) (room : ℕ) → patch_number slab was patch room ≡ 0 → Asked slab was patch room
unfolding patch_number patch_values
asked slab was patch room e =
    let p =
    lowest-zero (patch_bounds slab patch.start) (patch_lengths slab (length was.magnitudes) patch.start (length patch.new))
    (patch_room slab.rows (length was.flux) (length was.threshold) room) (patch_values slab.rows was patch.new) e in
    let b = bounds-told slab patch.start p.bounds in
    record {
      bounds = b;
      fits = slab_fits slab b.shape;
      lengths = lengths_told slab _ _ _ p.lengths;
      rooms = room-told _ _ _ _ p.room;
      fine = and_left (every magnitude_fine was.magnitudes) _ p.values;
      new-fine = and_left (every magnitude_fine patch.new) _ (and_right (every magnitude_fine was.magnitudes) _ p.values);
    }

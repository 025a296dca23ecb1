-- Boundaries: they ascend strictly, from row 1 to the last but one, and are at most as many as are asked for, so that `boundary_times`
-- refuses none; and what number 0 says of each call. Assumes nothing.
use Rattle.std.proofs.Common.{◌≡◌, ℕ, ◌-◌, ◌≤◌, Bool, true, false, ◌&&◌, ltb, leb, List, length, refl, zero-le, arith, ltb-true, lt-ltb, le-leb, leb-true}
use lib.Ieee.{Float}
use Rattle.numbers.proofs.Tests.{and_left, and_right, and_both, lowest-zero, lowest_0, pick_both}
use Rattle.numbers.specs.Limits.{most_features, most_listed_row, value_fine, row_fine}
use Rattle.numbers.specs.Lists.{every, ascending}
use Rattle.numbers.specs.Rounded.{pick}
use Rattle.onsets.proofs.Onsets.{every_weaken}
use Rattle.onsets.proofs.Picks.{
  those-length,
  those-every,
  those-ascending,
  peaks_ascend,
  peaks-inside,
  peaks-length,
  suppressed-ascends,
  suppressed-every,
  suppressed-length,
}
use Rattle.onsets.specs.Peaks.{peaks_of, point_into}
use Rattle.section_peaks.specs.Greatest.{place_of, kept_greatest}
use Rattle.sections.specs.Boundaries.{least_rows, section_gap, section_level, section_peaks, most_boundaries, boundaries_of, grid_fine, boundaries_refusal}
use Rattle.sections.specs.Times.{row_times_refusal}
use Rattle.section_peaks.proofs.Cuts.{greatest-most}

-- ---- the greatest of a list

module _ (novelty : List Float) (most : ℕ) (rows : List ℕ) where
  abbrev test : ℕ → Bool
  test y = ltb (place_of novelty rows y) most

  pub greatest-length : length (kept_greatest novelty most rows) ≤ length rows
  unfolding kept_greatest
  greatest-length = pick_both (λ (r : List ℕ). length r ≤ length rows) (leb (length rows) most) (omega arith) (those-length test rows)

  pub greatest-every : (q : ℕ → Bool) → every q rows ≡ true → every q (kept_greatest novelty most rows) ≡ true
  unfolding kept_greatest
  greatest-every q e = pick_both (λ (r : List ℕ). every q r ≡ true) (leb (length rows) most) e (those-every test q rows e)

  pub greatest-ascends : (low : ℕ) → ascending low rows ≡ true → ascending low (kept_greatest novelty most rows) ≡ true
  unfolding kept_greatest
  greatest-ascends low e = pick_both (λ (r : List ℕ). ascending low r ≡ true) (leb (length rows) most) e (those-ascending test low rows e)

-- ---- candidates, and boundaries

module _ (novelty : List Float) (gap : ℕ) where
  abbrev peaks : List ℕ
  peaks = peaks_of novelty (λ _. section_level novelty)

  pub candidates_ascend : ascending 1 (section_peaks novelty gap) ≡ true
  unfolding section_peaks
  candidates_ascend = suppressed-ascends novelty gap 1 peaks (peaks_ascend novelty (λ _. section_level novelty))

  pub candidates_inside : point_into (length novelty - 1) (section_peaks novelty gap) ≡ true
  unfolding section_peaks
  candidates_inside = suppressed-every novelty gap (λ x. ltb x (length novelty - 1)) peaks (peaks-inside novelty (λ _. section_level novelty))

  pub candidates_length : length (section_peaks novelty gap) ≤ length novelty - 2
  unfolding section_peaks
  candidates_length = omega (arith, suppressed-length novelty gap peaks, peaks-length novelty (λ _. section_level novelty))

  -- the greatest of them point into the curve, and are no more than its slots
  pub picked-inside : (most : ℕ) → point_into (length novelty) (kept_greatest novelty most (section_peaks novelty gap)) ≡ true
  picked-inside most =
      greatest-every novelty most (section_peaks novelty gap) (λ x. ltb x (length novelty))
      (every_weaken (λ x. ltb x (length novelty - 1)) (λ x. ltb x (length novelty))
      (λ x e. lt-ltb x (length novelty) (omega (arith, ltb-true x (length novelty - 1) e)))
      (section_peaks novelty gap) candidates_inside)

  pub picked-length : (most : ℕ) → length (kept_greatest novelty most (section_peaks novelty gap)) ≤ length novelty - 2
  picked-length most = omega (arith, greatest-length novelty most (section_peaks novelty gap), candidates_length)

module _ (novelty : List Float) (samples rate max_sections : ℕ) where
  abbrev bounds : List ℕ
  bounds = boundaries_of novelty samples rate max_sections

  abbrev rows : List ℕ
  rows = section_peaks novelty (section_gap samples rate)

  -- the listed rows ascend strictly, from row 1
  pub boundaries_ascend : ascending 1 bounds ≡ true
  unfolding boundaries_of ascending
  boundaries_ascend =
      pick_both (λ (r : List ℕ). ascending 1 r ≡ true) (ltb (length novelty) least_rows) refl
      (greatest-ascends novelty (most_boundaries max_sections) rows 1 (candidates_ascend novelty (section_gap samples rate)))

  -- to the last but one
  pub boundaries_inside : point_into (length novelty - 1) bounds ≡ true
  unfolding boundaries_of every
  boundaries_inside =
      pick_both (λ (r : List ℕ). point_into (length novelty - 1) r ≡ true) (ltb (length novelty) least_rows) refl
      (greatest-every novelty (most_boundaries max_sections) rows (λ x. ltb x (length novelty - 1)) (candidates_inside novelty (section_gap samples rate)))

  -- no more than the curve has room for, and no more than were asked for
  pub boundaries_length : length bounds ≤ length novelty - 2
  unfolding boundaries_of
  boundaries_length =
      pick_both (λ (r : List ℕ). length r ≤ length novelty - 2) (ltb (length novelty) least_rows) zero-le
      (picked-length novelty (section_gap samples rate) (most_boundaries max_sections))

  pub boundaries_most : length bounds ≤ most_boundaries max_sections
  unfolding boundaries_of
  boundaries_most =
      pick_both (λ (r : List ℕ). length r ≤ most_boundaries max_sections) (ltb (length novelty) least_rows) zero-le
      (greatest-most novelty (most_boundaries max_sections) 1 rows (candidates_ascend novelty (section_gap samples rate)))

  -- so `boundary_times` takes them
  pub boundaries_timed : (room : ℕ) → length novelty ≤ most_features → grid_fine samples rate ≡ true → length bounds ≤ room
      → row_times_refusal bounds samples rate room ≡ 0
  unfolding row_times_refusal
  boundaries_timed room f g h =
      lowest_0 (grid_fine samples rate && every row_fine bounds) true (leb (length bounds) room) true
      (and_both (grid_fine samples rate) (every row_fine bounds) g
      (every_weaken (λ x. ltb x (length novelty - 1)) row_fine
      (λ x e. le-leb x most_listed_row (omega (arith, ltb-true x (length novelty - 1) e))) bounds boundaries_inside))
      refl (le-leb (length bounds) room h) refl

-- ---- refusal

pub record BoundariesFine (novelty : List Float) (samples rate room work : ℕ) : Type 0 where
  pub slots-fit : length novelty ≤ most_features
  pub grid-fits : grid_fine samples rate ≡ true
  pub has_room : length novelty ≤ room
  pub has_work : length novelty ≤ work
  pub fine : every value_fine novelty ≡ true

pub boundaries_told : (novelty : List Float) (samples rate room work : ℕ) → boundaries_refusal novelty samples rate room work ≡ 0
    → BoundariesFine novelty samples rate room work
unfolding boundaries_refusal
boundaries_told novelty samples rate room work e =
    let p =
    lowest-zero (leb (length novelty) most_features && grid_fine samples rate) true (leb (length novelty) room && leb (length novelty) work)
    (every value_fine novelty) e in
    record {
      slots-fit = leb-true _ _ (and_left (leb (length novelty) most_features) _ p.bounds);
      grid-fits = and_right (leb (length novelty) most_features) _ p.bounds;
      has_room = leb-true _ _ (and_left (leb (length novelty) room) _ p.room);
      has_work = leb-true _ _ (and_right (leb (length novelty) room) _ p.room);
      fine = p.values;
    }

pub record TimesFine (rows : List ℕ) (samples rate room : ℕ) : Type 0 where
  pub grid-fits : grid_fine samples rate ≡ true
  pub rows_fit : every row_fine rows ≡ true
  pub has_room : length rows ≤ room

pub times_told : (rows : List ℕ) (samples rate room : ℕ) → row_times_refusal rows samples rate room ≡ 0 → TimesFine rows samples rate room
unfolding row_times_refusal
times_told rows samples rate room e =
    let p = lowest-zero (grid_fine samples rate && every row_fine rows) true (leb (length rows) room) true e in
    record {
      grid-fits = and_left (grid_fine samples rate) _ p.bounds;
      rows_fit = and_right (grid_fine samples rate) _ p.bounds;
      has_room = leb-true _ _ p.room;
    }

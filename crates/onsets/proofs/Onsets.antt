-- Onsets: what is listed ascends strictly, from frame 1 to the last but one, so that no call after it refuses it; and what number
-- 0 says of each call.
use mathlib.Core.Bool.{Bool, true, ◌&&◌}
use mathlib.Core.List.{List, [], ◌∷◌, map}
use mathlib.Core.Path.{◌≡◌, refl, sym, ap, ◌∙◌}
use Prim.Native.Nat.{ℕ, ◌-◌, ◌≤◌, ◌<◌}
use native.Mathlib.Omega.{arith}
use borrow.Author.Tests.{leb-true, le-leb, eqb-true, eq-eqb, ltb-true, lt-ltb}
use lib.Dec.{leb, ltb, eqb}
use lib.Ieee.{Float}
use lib.ListN.{length, get_or, length-map, get_or-map}
use lib.Seq.{ext_get_or}
use Rattle.numbers.proofs.Everys.{every-at}
use Rattle.numbers.proofs.Tabs.{length-tab, get_or-curve, filled-whole}
use Rattle.numbers.proofs.Slabs.{slab_fits}
use Rattle.numbers.proofs.Ascents.{ascending-from}
use Rattle.numbers.proofs.Tests.{and_left, and_right, and_both, lowest-zero, lowest_0}
use Rattle.numbers.specs.Limits.{most_rows, most_frame, rate_fine, value_fine, frame_fine}
use Rattle.numbers.specs.Lists.{every, curve, filled, listed, ascending}
use Rattle.numbers.specs.declared.Slab.{Slab}
use Rattle.flux.proofs.Fluxes.{FluxFine, flux_curve_within, flux_curve_fine}
use Rattle.flux.specs.Flux.{flux_at}
use Rattle.threshold.proofs.Thresholds.{threshold_curve_fine}
use Rattle.threshold.specs.Threshold.{threshold_at, window_room, threshold_refusal}
use Rattle.onsets.specs.Onsets.{gap_of, onsets_of, onsets_refusal, times_refusal}
use Rattle.onsets.specs.Peaks.{at, peaks_of, point_into}
use Rattle.onsets.proofs.Picks.{peaks_ascend, peaks-inside, peaks-length, suppressed-ascends, suppressed-every, suppressed-length}

-- a test that follows from another
pub every_weaken : (p q : ℕ → Bool) → ((x : ℕ) → p x ≡ true → q x ≡ true) → (xs : List ℕ) → every p xs ≡ true → every q xs ≡ true
unfolding every
every_weaken p q h [] e = refl
every_weaken p q h (x ∷ xs) e = and_both (q x) _ (h x (and_left (p x) _ e)) (every_weaken p q h xs (and_right (p x) _ e))

module _ (flux threshold : List Float) (rate : ℕ) where
  pub onsets_ascend : ascending 1 (onsets_of flux threshold rate) ≡ true
  unfolding onsets_of
  onsets_ascend = suppressed-ascends flux (gap_of rate) 1 _ (peaks_ascend flux (at threshold))

  pub onsets-inside : point_into (length flux - 1) (onsets_of flux threshold rate) ≡ true
  unfolding onsets_of
  onsets-inside = suppressed-every flux (gap_of rate) (λ x. ltb x (length flux - 1)) _ (peaks-inside flux (at threshold))

  pub onsets-length : length (onsets_of flux threshold rate) ≤ length flux - 2
  unfolding onsets_of
  onsets-length = omega (arith, suppressed-length flux (gap_of rate) (peaks_of flux (at threshold)), peaks-length flux (at threshold))

  -- so no call after it refuses them
  pub onsets_point_into : point_into (length flux) (onsets_of flux threshold rate) ≡ true
  onsets_point_into =
      every_weaken (λ x. ltb x (length flux - 1)) (λ x. ltb x (length flux))
      (λ x e. lt-ltb x (length flux) (omega (arith, ltb-true x (length flux - 1) e))) (onsets_of flux threshold rate) onsets-inside

  pub onsets_listable : length flux ≤ most_rows → every frame_fine (onsets_of flux threshold rate) ≡ true
  onsets_listable h =
      every_weaken (λ x. ltb x (length flux - 1)) frame_fine
      (λ x e. le-leb x most_frame (omega (arith, ltb-true x (length flux - 1) e))) (onsets_of flux threshold rate) onsets-inside

  -- onset i is a frame from 1 to the last but one
  pub onset_at : (i : ℕ) → i < length (onsets_of flux threshold rate)
      → (1 ≤ get_or (onsets_of flux threshold rate) i 0) × (get_or (onsets_of flux threshold rate) i 0 < length flux - 1)
  onset_at i h = (
    ascending-from 1 (onsets_of flux threshold rate) i h onsets_ascend,
    ltb-true _ _ (every-at (λ x. ltb x (length flux - 1)) (onsets_of flux threshold rate) i 0 onsets-inside h),
  )

-- ---- times

-- a list made slot by slot of the entries of another
pub filled-map : {A B : Type 0} (f : A → B) (xs : List A) (z : A) (d : List B) → filled (λ (k : ℕ). f (get_or xs k z)) d 0 (length xs) ≡ listed (map f xs) d
unfolding listed
filled-map f xs z d =
    let n = length xs in
    let e : curve (λ (k : ℕ). f (get_or xs k z)) n ≡ map f xs =
    ext_get_or (f z) _ _ (length-tab _ 0 n ∙ sym (length-map xs f))
    (λ i h. get_or-curve _ n i (f z) (omega (arith, length-tab (λ (k : ℕ). f (get_or xs k z)) 0 n)) ∙ sym (get_or-map f xs i z)) in
    filled-whole _ d n ∙ rw (e, length-map xs f)

-- ---- refusal

pub record OnsetsFine (flux threshold : List Float) (rate room : ℕ) : Type 0 where
  pub slots-fit : length flux ≤ most_rows
  pub rate_fits : rate_fine rate ≡ true
  pub same_length : length threshold ≡ length flux
  pub has_room : length flux ≤ room
  pub flux-fine : every value_fine flux ≡ true
  pub threshold-fine : every value_fine threshold ≡ true

pub onsets-told : (flux threshold : List Float) (rate room : ℕ) → onsets_refusal flux threshold rate room ≡ 0 → OnsetsFine flux threshold rate room
unfolding onsets_refusal
onsets-told flux threshold rate room e =
    let p =
    lowest-zero (leb (length flux) most_rows && rate_fine rate) (eqb (length threshold) (length flux)) (leb (length flux) room)
    (every value_fine flux && every value_fine threshold) e in
    record {
      slots-fit = leb-true _ _ (and_left (leb (length flux) most_rows) _ p.bounds);
      rate_fits = and_right (leb (length flux) most_rows) _ p.bounds;
      same_length = eqb-true _ _ p.lengths;
      has_room = leb-true _ _ p.room;
      flux-fine = and_left (every value_fine flux) _ p.values;
      threshold-fine = and_right (every value_fine flux) _ p.values;
    }

pub record TimesFine (frames : List ℕ) (rate room : ℕ) : Type 0 where
  pub rate_fits : rate_fine rate ≡ true
  pub frames_fit : every frame_fine frames ≡ true
  pub has_room : length frames ≤ room

pub times_told : (frames : List ℕ) (rate room : ℕ) → times_refusal frames rate room ≡ 0 → TimesFine frames rate room
unfolding times_refusal
times_told frames rate room e =
    let p = lowest-zero (rate_fine rate && every frame_fine frames) true (leb (length frames) room) true e in
    record {
      rate_fits = and_left (rate_fine rate) _ p.bounds;
      frames_fit = and_right (rate_fine rate) _ p.bounds;
      has_room = leb-true _ _ p.room;
    }

-- ---- what one call writes the next one takes

-- the flux of magnitudes that `spectral_flux` took
module _ (s : List Float) (slab : Slab) (had : ℕ) (f : FluxFine s slab had) where
  pub threshold_takes : (room work : ℕ) → slab.rows ≤ room → window_room slab.rows ≤ work
      → threshold_refusal (curve (flux_at s slab) slab.rows) room work ≡ 0
  unfolding threshold_refusal
  threshold_takes room work r w =
      let l : length (curve (flux_at s slab) slab.rows) ≡ slab.rows = length-tab (flux_at s slab) 0 slab.rows in
      let n : length (curve (flux_at s slab) slab.rows) ≤ most_rows = omega (arith, (slab_fits slab f.shape).rows_fit) in
      let r' : length (curve (flux_at s slab) slab.rows) ≤ room = omega arith in
      let w' : window_room (length (curve (flux_at s slab) slab.rows)) ≤ work = rw l w in
      lowest_0 _ _ _ _ (le-leb _ _ n) refl (and_both _ _ (le-leb _ _ r') (le-leb _ _ w'))
      (flux_curve_fine s slab f.fine (slab_fits slab f.shape).bins_fit)

  -- and its threshold
  pub onsets-take : (rate room : ℕ) → rate_fine rate ≡ true → slab.rows ≤ room
      → onsets_refusal (curve (flux_at s slab) slab.rows) (curve (threshold_at (curve (flux_at s slab) slab.rows)) slab.rows) rate room ≡ 0
  unfolding onsets_refusal
  onsets-take rate room ok r =
      let c = curve (flux_at s slab) slab.rows in
      let l : length (curve (flux_at s slab) slab.rows) ≡ slab.rows = length-tab (flux_at s slab) 0 slab.rows in
      let m : length (curve (threshold_at c) slab.rows) ≡ length (curve (flux_at s slab) slab.rows) = length-tab (threshold_at c) 0 slab.rows ∙ sym l in
      let n : length (curve (flux_at s slab) slab.rows) ≤ most_rows = omega (arith, (slab_fits slab f.shape).rows_fit) in
      let r' : length (curve (flux_at s slab) slab.rows) ≤ room = omega arith in
      let t : every value_fine (curve (threshold_at c) slab.rows) ≡ true =
      ap (λ (k : ℕ). every value_fine (curve (threshold_at c) k)) (sym l)
      ∙ threshold_curve_fine c (flux_curve_within s slab f.fine (slab_fits slab f.shape).bins_fit) in
      lowest_0 _ _ _ _ (and_both _ _ (le-leb _ _ n) ok) (eq-eqb _ _ m) (le-leb _ _ r')
      (and_both _ _ (flux_curve_fine s slab f.fine (slab_fits slab f.shape).bins_fit) t)

-- onsets that `pick_onsets` listed
pub times_take : (flux threshold : List Float) (rate room : ℕ) → length flux ≤ most_rows → rate_fine rate ≡ true
    → length (onsets_of flux threshold rate) ≤ room → times_refusal (onsets_of flux threshold rate) rate room ≡ 0
unfolding times_refusal
times_take flux threshold rate room h ok r =
    lowest_0 _ _ _ _ (and_both _ _ ok (onsets_listable flux threshold rate h)) refl (le-leb _ _ r) refl

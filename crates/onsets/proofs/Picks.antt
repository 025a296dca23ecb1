-- Peaks and suppression: what is kept ascends strictly and points into the curve, and no more is kept than there are peaks.
use mathlib.Core.Bool.{Bool, true, ◌&&◌}
use mathlib.Core.List.{List, [], ◌∷◌}
use mathlib.Core.Path.{◌≡◌, refl}
use Prim.Native.Nat.{ℕ, zero, suc, ◌+◌, ◌-◌, ◌≤◌}
use native.Mathlib.Nat.{le_refl}
use native.Mathlib.Numerals.{add-one}
use native.Mathlib.Omega.{arith}
use borrow.Author.Tests.{leb-true, le-leb, lt-ltb}
use lib.Dec.{leb, ltb}
use lib.Ieee.{Float, lt}
use lib.ListN.{length}
use Rattle.numbers.proofs.Ascents.{ascending_weaken}
use Rattle.numbers.proofs.Everys.{every-tab}
use Rattle.numbers.proofs.Tabs.{length-tab}
use Rattle.numbers.proofs.Tests.{and_left, and_right, and_both, lowest-zero, pick_both}
use Rattle.numbers.specs.Limits.{most_rows, value_fine}
use Rattle.numbers.specs.Lists.{tab, every, ascending}
use Rattle.onsets.specs.Peaks.{at, is_peak, those, peaks_of, joins, better, bests, suppressed, point_into, suppression_refusal}

-- ---- the entries that pass a test

pub those-length : (p : ℕ → Bool) (xs : List ℕ) → length (those p xs) ≤ length xs
unfolding those
those-length p [] = le_refl 0
those-length p (x ∷ xs) =
    pick_both (λ (r : List ℕ). length r ≤ length (x ∷ xs)) (p x) (omega (arith, those-length p xs)) (omega (arith, those-length p xs))

pub those-every : (p q : ℕ → Bool) (xs : List ℕ) → every q xs ≡ true → every q (those p xs) ≡ true
unfolding those every
those-every p q [] e = refl
those-every p q (x ∷ xs) e =
    let rest = those-every p q xs (and_right (q x) _ e) in
    pick_both (λ (r : List ℕ). every q r ≡ true) (p x) (and_both (q x) _ (and_left (q x) _ e) rest) rest

pub those-ascending : (p : ℕ → Bool) (low : ℕ) (xs : List ℕ) → ascending low xs ≡ true → ascending low (those p xs) ≡ true
unfolding those ascending
those-ascending p low [] e = refl
those-ascending p low (x ∷ xs) e =
    let here = and_left (leb low x) _ e in
    let rest = those-ascending p (x + 1) xs (and_right (leb low x) _ e) in
    pick_both (λ (r : List ℕ). ascending low r ≡ true) (p x)
    (and_both (leb low x) _ here rest)
    (ascending_weaken (x + 1) low (those p xs) (omega (arith, leb-true low x here)) rest)

-- ---- peaks

counting_ascends : (s n : ℕ) → ascending s (tab (λ t. t) s n) ≡ true
unfolding ascending
counting_ascends s zero = refl
counting_ascends s (suc n) = and_both (leb s s) _ (le-leb s s (le_refl s)) (rw (add-one s) (counting_ascends (suc s) n))

module _ (curve : List Float) (threshold : ℕ → Float) where
  pub peaks_ascend : ascending 1 (peaks_of curve threshold) ≡ true
  unfolding peaks_of
  peaks_ascend = those-ascending _ 1 _ (counting_ascends 1 (length curve - 2))

  -- the last slot is no peak
  pub peaks-inside : point_into (length curve - 1) (peaks_of curve threshold) ≡ true
  unfolding peaks_of
  peaks-inside =
      those-every _ (λ x. ltb x (length curve - 1)) _
      (every-tab (λ x. ltb x (length curve - 1)) (λ t. t) 1 (length curve - 2) (λ i a b. lt-ltb i (length curve - 1) (omega arith)))

  pub peaks-length : length (peaks_of curve threshold) ≤ length curve - 2
  unfolding peaks_of
  peaks-length = omega (
    arith,
    those-length (λ t. is_peak curve (threshold t) t) (tab (λ t. t) 1 (length curve - 2)),
    length-tab (λ (t : ℕ). t) 1
        (length curve - 2),
  )

-- ---- suppression

module _ (curve : List Float) (gap : ℕ) where
  bests-length : (best : ℕ) (ps : List ℕ) → length (bests curve gap best ps) ≤ length ps + 1
  unfolding bests
  bests-length best [] = omega arith
  bests-length best (p ∷ ps) =
      pick_both (λ (r : List ℕ). length r ≤ length (p ∷ ps) + 1) (joins gap best p)
      (omega (arith, bests-length (better curve best p) ps)) (omega (arith, bests-length p ps))

  pub suppressed-length : (ps : List ℕ) → length (suppressed curve gap ps) ≤ length ps
  unfolding suppressed
  suppressed-length [] = le_refl 0
  suppressed-length (p ∷ ps) = omega (arith, bests-length p ps)

  bests-every : (q : ℕ → Bool) (best : ℕ) (ps : List ℕ) → q best ≡ true → every q ps ≡ true → every q (bests curve gap best ps) ≡ true
  unfolding bests every
  bests-every q best [] e f = and_both (q best) true e refl
  bests-every q best (p ∷ ps) e f =
      let here = and_left (q p) _ f in
      let rest = and_right (q p) _ f in
      pick_both (λ (r : List ℕ). every q r ≡ true) (joins gap best p)
      (bests-every q (better curve best p) ps (pick_both (λ (b : ℕ). q b ≡ true) (lt (at curve best) (at curve p)) here e) rest)
      (and_both (q best) _ e (bests-every q p ps here rest))

  -- what holds of every peak holds of those that are kept
  pub suppressed-every : (q : ℕ → Bool) (ps : List ℕ) → every q ps ≡ true → every q (suppressed curve gap ps) ≡ true
  unfolding suppressed every
  suppressed-every q [] e = refl
  suppressed-every q (p ∷ ps) e = bests-every q p ps (and_left (q p) _ e) (and_right (q p) _ e)

  -- the better of a best and a peak past it lies between the two
  better-between : (best p : ℕ) → best ≤ p → (best ≤ better curve best p) × (better curve best p ≤ p)
  better-between best p h = pick_both (λ (b : ℕ). (best ≤ b) × (b ≤ p)) (lt (at curve best) (at curve p)) (h, le_refl p) (le_refl best, h)

  bests_ascend : (low best : ℕ) (ps : List ℕ) → low ≤ best → ascending (best + 1) ps ≡ true → ascending low (bests curve gap best ps) ≡ true
  unfolding bests ascending
  bests_ascend low best [] h e = and_both (leb low best) true (le-leb low best h) refl
  bests_ascend low best (p ∷ ps) h e =
      let above = leb-true (best + 1) p (and_left (leb (best + 1) p) _ e) in
      let rest = and_right (leb (best + 1) p) _ e in
      let m = better-between best p (omega (arith, above)) in
      pick_both (λ (r : List ℕ). ascending low r ≡ true) (joins gap best p)
      (bests_ascend low (better curve best p) ps (omega (arith, m.0))
      (ascending_weaken (p + 1) (better curve best p + 1) ps (omega (arith, m.1)) rest))
      (and_both (leb low best) _ (le-leb low best h) (bests_ascend (best + 1) p ps above rest))

  pub suppressed-ascends : (low : ℕ) (ps : List ℕ) → ascending low ps ≡ true → ascending low (suppressed curve gap ps) ≡ true
  unfolding suppressed ascending
  suppressed-ascends low [] e = refl
  suppressed-ascends low (p ∷ ps) e = bests_ascend low p ps (leb-true low p (and_left (leb low p) _ e)) (and_right (leb low p) _ e)

-- ---- refusal

-- what number 0 says
pub record SuppressionFine (peaks : List ℕ) (curve : List Float) (room : ℕ) : Type 0 where
  pub slots-fit : length curve ≤ most_rows
  pub ascends : ascending 0 peaks ≡ true
  pub inside : point_into (length curve) peaks ≡ true
  pub has_room : length peaks ≤ room
  pub fine : every value_fine curve ≡ true

pub suppression_told : (peaks : List ℕ) (curve : List Float) (room : ℕ) → suppression_refusal peaks curve room ≡ 0 → SuppressionFine peaks curve room
unfolding suppression_refusal
suppression_told peaks curve room e =
    let p =
    lowest-zero (leb (length curve) most_rows && (ascending 0 peaks && point_into (length curve) peaks)) true (leb (length peaks) room)
    (every value_fine curve) e in
    let b = and_right (leb (length curve) most_rows) _ p.bounds in
    record {
      slots-fit = leb-true _ _ (and_left (leb (length curve) most_rows) _ p.bounds);
      ascends = and_left (ascending 0 peaks) _ b;
      inside = and_right (ascending 0 peaks) _ b;
      has_room = leb-true _ _ p.room;
      fine = p.values;
    }

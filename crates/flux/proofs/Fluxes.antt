-- Flux: a part of a row more of a slot's sum, the rows that a slot is made of, what number 0 says, and that a slot depends on no other row.
use mathlib.Core.Bool.{true}
use mathlib.Core.List.{List, [], ◌∷◌}
use mathlib.Core.Logic.{◌⊎◌, inl, inr, ⊎_elim}
use mathlib.Core.Path.{◌≡◌, refl, sym, ap, ◌∙◌}
use Prim.Native.Nat.{ℕ, zero, suc, ◌+◌, ◌-◌, ◌*◌, ◌≤◌, ◌<◌, min}
use native.Mathlib.Nat.{le_refl, min-le_left}
use native.Mathlib.Omega.{arith}
use borrow.Author.Tests.{leb-true, le-leb, eqb-true, eq-eqb}
use lib.Dec.{leb, lit≤}
use lib.Ieee.{Float, nan, binary64}
use lib.ListN.{length, drop, length-take}
use Rattle.numbers.proofs.Everys.{every-tab}
use Rattle.numbers.proofs.Overs.{row-over, length-row}
use Rattle.numbers.proofs.Tabs.{local_curve}
use Rattle.numbers.proofs.Tests.{lowest-zero, lowest_0}
use Rattle.numbers.specs.Limits.{most_bins, magnitude_fine, value_fine, slab_fine, slab_slots, slab_whole}
use Rattle.numbers.specs.Lists.{row, every, over, curve, filled}
use Rattle.numbers.specs.Rounded.{sum_from, sum_of}
use Rattle.numbers.specs.declared.Slab.{Slab}
use Rattle.sizes.proofs.Lists.{each_row, each_tab, magnitudes-within}
use Rattle.sizes.proofs.Sizes.{within_weaken, sub_within, positive_part-most, nought-most}
use Rattle.sizes.proofs.Sums.{sum-within}
use Rattle.sizes.proofs.Tests.{within-value}
use Rattle.sizes.specs.Sizes.{Within, Each, none, more}
use Rattle.flux_rows.proofs.Rises.{part_more}
use Rattle.flux_rows.specs.Rises.{slab_row, rises, part_bins, rise_part, rise_rest}
use Rattle.flux.specs.Flux.{flux_at, flux_refusal}

-- ---- a slot

module _ (s : List Float) (slab : Slab) where
  -- slot u is row u over row t before it
  pub flux-from : (t u : ℕ) → u ≡ t + 1 → flux_at s slab u ≡ sum_of (rises (slab_row s slab t) (slab_row s slab u))
  unfolding flux_at
  flux-from t zero e = absurd (omega arith)
  flux-from t (suc u) e =
      let k : u ≡ t = omega arith in
      ap (λ (r : ℕ). sum_of (rises (slab_row s slab r) (slab_row s slab (suc u)))) k

  pub flux-first : flux_at s slab 0 ≡ sum_of []
  unfolding flux_at sum_from
  flux-first = refl

  -- slot t is the sum of all its row's bins, and a part of them more takes it on
  pub rest_all : (t : ℕ) → 1 ≤ t → sum_of (rise_rest s slab t 0) ≡ flux_at s slab t
  rest_all t h = sym (flux-from (t - 1) t (omega arith))

  pub rest_more : (t i : ℕ) (acc next : Float) {whole : Float} → length s ≡ slab_slots slab → 1 ≤ t → t < slab.rows → i + part_bins ≤ slab.bins
      → next ≡ sum_from acc (rise_part s slab t i) → sum_from acc (rise_rest s slab t i) ≡ whole → sum_from next (rise_rest s slab t (i + part_bins)) ≡ whole
  rest_more t i acc next l h k m e r =
      part_more acc next (slab_row s slab (t - 1)) (slab_row s slab t) (rise_part s slab t i) i part_bins
      (omega (arith, length-row s slab.rows slab.bins (t - 1) l (omega arith))) (omega (arith, length-row s slab.rows slab.bins t l k)) refl e r

-- a slot whose row, and the row before it, are the same in both slabs is the same
pub flux-same : (s s' : List Float) (slab : Slab) (t : ℕ)
    → slab_row s' slab (t - 1) ≡ slab_row s slab (t - 1) → slab_row s' slab t ≡ slab_row s slab t → flux_at s' slab t ≡ flux_at s slab t
unfolding flux_at
flux-same s s' slab zero e f = refl
flux-same s s' slab (suc t) e f =
    let b = slab.bins in
    let k : suc t - 1 ≡ t = omega arith in
    let e' : row s' b t ≡ row s b t = sym (ap (row s' b) k) ∙ e ∙ ap (row s b) k in
    ap (λ (r : List Float). sum_of (rises r (row s' b (suc t)))) e' ∙ ap (λ (r : List Float). sum_of (rises (row s b t) r)) f

-- k rows from row a on are replaced: a slot outside a up to and with a + k stays
module _ (s new : List Float) (slab : Slab) (a k : ℕ) (whole : length s ≡ slab_slots slab) (rows : length new ≡ k * slab.bins)
    (inside : a + k ≤ slab.rows) where
  other_row : (t : ℕ) → (t < a) ⊎ (a + k ≤ t) → slab_row (over s (a * slab.bins) new) slab t ≡ slab_row s slab t
  other_row t h = row-over s new slab.rows slab.bins a k nan whole rows inside t h

  pub flux-over : (t : ℕ) → (t < a) ⊎ (a + k < t) → flux_at (over s (a * slab.bins) new) slab t ≡ flux_at s slab t
  flux-over t (inl u) = flux-same s _ slab t (other_row (t - 1) (inl (omega arith))) (other_row t (inl u))
  flux-over t (inr u) = flux-same s _ slab t (other_row (t - 1) (inr (omega arith))) (other_row t (inr (omega arith)))

  -- the flux curve of the old rows with slots a up to and with a + k written again is the curve of the new rows
  pub flux_local : filled (flux_at (over s (a * slab.bins) new) slab) (curve (flux_at s slab) slab.rows) a (min (a + k + 1) slab.rows)
      ≡ curve (flux_at (over s (a * slab.bins) new) slab) slab.rows
  flux_local =
      let n = slab.rows in
      local_curve (flux_at s slab) (flux_at (over s (a * slab.bins) new) slab) n a (min (a + k + 1) n) nan (omega arith) (omega arith)
      (λ t h. ⊎_elim
      (λ (u : t < a). flux-over t (inl u))
      (λ (u : min (a + k + 1) n ≤ t). flux-over t (inr (omega arith))))

-- ---- size

row-most : (s : List Float) (b t : ℕ) → length (row s b t) ≤ b
unfolding row
row-most s b t = simp length-take (min-le_left b (length (drop (t * b) s)))

rises-length : (p q : List Float) → length (rises p q) ≤ length p
unfolding rises
rises-length [] q = le_refl 0
rises-length (x ∷ p) [] = omega arith
rises-length (x ∷ p) (y ∷ q) = omega (arith, rises-length p q)

rises-within : {p q : List Float} → Each (Within 126) p → Each (Within 126) q → Each (Within 127) (rises p q)
unfolding rises
rises-within none h = none
rises-within (more x xs) none = none
rises-within (more x xs) (more y ys) = more (positive_part-most (sub_within binary64 126 (lit≤ tt) y x)) (rises-within xs ys)

module _ (s : List Float) (slab : Slab) where
  -- each slot of accepted magnitudes is of size at most 2 ^ 139
  pub flux-within : (t : ℕ) → every magnitude_fine s ≡ true → slab.bins ≤ most_bins → Within 139 (flux_at s slab t)
  unfolding flux_at
  flux-within zero h l = nought-most
  flux-within (suc t) h l =
      let b = slab.bins in
      let w : (u : ℕ) → Each (Within 126) (row s b u) = λ u. each_row b u (magnitudes-within s h) in
      let n : length (row s b t) ≤ b = row-most s b t in
      sum-within 12 127 (lit≤ tt) (lit≤ tt) (omega (arith, rises-length (row s b t) (row s b (suc t)))) (rises-within (w t) (w (suc t)))

  pub flux_curve_within : every magnitude_fine s ≡ true → slab.bins ≤ most_bins → Each (Within 139) (curve (flux_at s slab) slab.rows)
  flux_curve_within h l = each_tab (flux_at s slab) 0 slab.rows (λ t p q. flux-within t h l)

  -- so the flux that `spectral_flux` writes is never refused by the calls after it
  pub flux-fine : (t : ℕ) → every magnitude_fine s ≡ true → slab.bins ≤ most_bins → value_fine (flux_at s slab t) ≡ true
  flux-fine t h l = within-value (within_weaken 139 150 (lit≤ tt) (flux-within t h l))

  pub flux_curve_fine : every magnitude_fine s ≡ true → slab.bins ≤ most_bins → every value_fine (curve (flux_at s slab) slab.rows) ≡ true
  flux_curve_fine h l = every-tab value_fine (flux_at s slab) 0 slab.rows (λ t p q. flux-fine t h l)

-- ---- refusal

-- what number 0 says
pub record FluxFine (s : List Float) (slab : Slab) (room : ℕ) : Type 0 where
  pub shape : slab_fine slab ≡ true
  pub whole : length s ≡ slab_slots slab
  pub has_room : slab.rows ≤ room
  pub fine : every magnitude_fine s ≡ true

pub flux-told : (s : List Float) (slab : Slab) (room : ℕ) → flux_refusal s slab room ≡ 0 → FluxFine s slab room
unfolding flux_refusal
flux-told s slab room e =
    let p = lowest-zero (slab_fine slab) (slab_whole slab (length s)) (leb slab.rows room) (every magnitude_fine s) e in
    record { shape = p.bounds; whole = eqb-true _ _ p.lengths; has_room = leb-true _ _ p.room; fine = p.values }

-- and what it asks for
pub flux_asked : (s : List Float) (slab : Slab) (room : ℕ) → FluxFine s slab room → flux_refusal s slab room ≡ 0
unfolding flux_refusal
flux_asked s slab room f = lowest_0 _ _ _ _ f.shape (eq-eqb _ _ f.whole) (le-leb _ _ f.has_room) f.fine

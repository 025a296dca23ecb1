-- The sorted windows of a curve's slots, with +0 for either zero. The window of the slot before is the value that leaves and the rest, the slot's own is
-- the rest and the value that comes; and the threshold over the sorted window is the slot's. Assumes nothing.
use Prim.Native.Nat.{ℕ, suc, ◌+◌, ◌-◌, ◌≤◌, ◌<◌, min}
use mathlib.Core.Path.{◌≡◌, refl, sym, ap, ◌∙◌, subst}
use mathlib.Core.Bool.{true}
use mathlib.Core.List.{List, [], ◌∷◌, ◌++◌, map}
use native.Mathlib.Omega.{arith}
use lib.ListN.{length, get_or, take, drop, length-map, length-drop}
use lib.Seq.{get_or-drop, get_or-take, drop-cons, take-suc, drop-append-le, length-take-le}
use lib.Ieee.{Float, nan, binary64, eq, of_bits}
use Rattle.numbers.specs.Limits.{value_fine}
use Rattle.numbers.specs.Lists.{around, every}
use Rattle.numbers.specs.Rounded.{◌⊕◌, ◌⊗◌}
use Rattle.numbers.proofs.Everys.{every_by}
use Rattle.numbers.proofs.Windows.{length-around}
use Rattle.sizes.specs.Sizes.{Plus, Each, is_plus}
use Rattle.sizes.proofs.Lists.{each_at, each_by, each_head, each_tail}
use Rattle.sizes.proofs.Signs.{mul_plus}
use Rattle.sizes.proofs.Sizes.{most-finite}
use Rattle.sizes.proofs.Tests.{value-finite}
use Rattle.median.specs.Median.{sort, median_of, mad_of}
use Rattle.median.proofs.Medians.{median-among, median-fine, mad_sized}
use Rattle.median.proofs.Ranks.{AllFit, same-sort, sort_each, sort_ordered}
use Rattle.windows.specs.Windows.{one_zero, slid, Window}
use Rattle.windows.proofs.Distances.{mad_plain, plain_plus}
use Rattle.windows.proofs.Plains.{Proper, Plain, plain-is, plains, each_fits, equal_same, median-plain}
use Rattle.windows.proofs.Slides.{sort-turned, next_sorted}
use Rattle.windows.proofs.Spreads.{mad_sorted}
use Rattle.threshold.specs.Threshold.{reach, mad_scale, least_excess, threshold_of, threshold_at}
use Rattle.threshold.specs.Sliding.{FinePart, sorted_threshold}
use Rattle.threshold.proofs.Thresholds.{window-is, scale_within}

map_join : (xs : List Float) (v : Float) → map one_zero (xs ++ (v ∷ [])) ≡ map one_zero xs ++ (one_zero v ∷ [])
map_join [] v = refl
map_join (x ∷ xs) v = ap (λ (z : List Float). one_zero x ∷ z) (map_join xs v)

middle-is : (xs : List Float) → length xs ≡ 21 → get_or (sort xs) 10 nan ≡ median_of xs
unfolding median_of
middle-is xs e = rw e refl

scale_plus : Plus mad_scale
unfolding of_bits is_plus
scale_plus = record { sign = tt }

-- the window of the slot before `from`, as code takes it
pub before-is : (flux : List Float) (from : ℕ) → 11 ≤ from → from + 10 ≤ length flux
    → take (from + 10 - (from - 10 - 1)) (drop (from - 10 - 1) flux) ≡ around reach flux (from - 1)
before-is flux from a b = window-is flux (from - 1) (from - 10 - 1) (from + 10) (omega arith) (omega arith)

module _ (flux : List Float) (f : AllFit flux) where
  -- the window of slot t, sorted
  abbrev pub sorted_at : ℕ → List Float
  sorted_at t = sort (map one_zero (around reach flux t))

  module _ (t : ℕ) (a : 10 ≤ t) (b : t + 11 ≤ length flux) where
    whole : around reach flux t ≡ drop (t - 10) (take (t + 11) flux)
    unfolding around
    whole = let e : min (t + 10 + 1) (length flux) ≡ t + 11 = omega arith in rw e

    length_whole : length (around reach flux t) ≡ 21
    length_whole = length-around reach flux t ∙ omega arith

    whole-at : (i : ℕ) → i < 21 → get_or (around reach flux t) i nan ≡ get_or flux (t - 10 + i) nan
    whole-at i l = rw whole (get_or-drop (t - 10) (take (t + 11) flux) i nan ∙ get_or-take (t + 11) flux (t - 10 + i) nan (omega arith))

    module _ (p : FinePart flux (t - 10) (t + 11)) where
      held : Each Proper (around reach flux t)
      held = each_by (around reach flux t) nan (λ j m.
          let l : j < 21 = omega (arith, length_whole) in
          subst Proper (sym (whole-at j l))
          (record { fit = f (t - 10 + j); ends = value-finite (get_or flux (t - 10 + j) nan) (p (t - 10 + j) (omega arith) (omega arith)) }))

      fine : every value_fine (around reach flux t) ≡ true
      fine = every_by value_fine (around reach flux t) nan (λ j m.
          let l : j < 21 = omega (arith, length_whole) in
          ap value_fine (whole-at j l) ∙ p (t - 10 + j) (omega arith) (omega arith))

      plain_sorted : Each Plain (sorted_at t)
      plain_sorted = sort_each (plains held)

      length_sorted : length (sorted_at t) ≡ 21
      length_sorted = (same-sort (map one_zero (around reach flux t))).len ∙ length-map (around reach flux t) one_zero ∙ length_whole

      pub window_of : Window (sorted_at t)
      window_of = record {
        room = length_sorted;
        order = sort_ordered (map one_zero (around reach flux t));
        fit = each_fits plain_sorted;
        finites = λ i l. (each_at {P = Plain} i nan plain_sorted (omega (arith, length_sorted))).proper.ends;
      }

      -- the threshold over it is that of the slot
      pub sorted_threshold_lem : sorted_threshold (sorted_at t) ≡ threshold_at flux t
      unfolding sorted_threshold threshold_at threshold_of
      sorted_threshold_lem =
          let w = around reach flux t in
          let s = sort (map one_zero w) in
          let m = median_of w in
          let some : 0 < length w = omega (arith, length_whole) in
          let h : Proper m = median-among Proper w some held in
          let mid : get_or s 10 nan ≡ one_zero m = middle-is (map one_zero w) (length-map w one_zero ∙ length_whole) ∙ median-plain w some held in
          let mad : mad_of s (one_zero m) ≡ mad_of w m =
          mad_sorted (map one_zero w) (one_zero m) (omega (arith, length-map w one_zero)) ∙ sym (mad_plain w m h held) in
          let sized = mad_sized w m some fine (median-fine w some fine) in
          let scaled : Plus (mad_scale ⊗ mad_of w m) = mul_plus binary64 (most-finite scale_within) (most-finite sized.0) scale_plus sized.1 in
          rw (mid, mad) (ap (λ (x : Float). x ⊕ least_excess) (sym (plain_plus m (mad_scale ⊗ mad_of w m) h.fit scaled)))

  -- from the window of the slot before t to that of t
  module _ (t : ℕ) (a : 11 ≤ t) (b : t + 11 ≤ length flux) (p : FinePart flux (t - 11) (t + 11)) where
    abbrev rest : List Float
    rest = drop (t - 10) (take (t + 10) flux)

    abbrev leaves : Float
    leaves = get_or flux (t - 10 - 1) nan

    abbrev comes : Float
    comes = get_or flux (t + 10) nan

    length_taken : length (take (t + 10) flux) ≡ t + 10
    length_taken = length-take-le (t + 10) flux (omega arith)

    earlier : around reach flux (t - 1) ≡ leaves ∷ rest
    earlier =
        let d : t - 1 - 10 ≡ t - 10 - 1 = omega arith in
        let e : t - 1 + 11 ≡ t + 10 = omega arith in
        let s : suc (t - 10 - 1) ≡ t - 10 = omega arith in
        whole (t - 1) (omega arith) (omega arith) ∙ ap (λ (k : ℕ). drop k (take (t - 1 + 11) flux)) d ∙ ap (λ (k : ℕ). drop (t - 10 - 1) (take k flux)) e
        ∙ drop-cons (take (t + 10) flux) (t - 10 - 1) nan (omega (arith, length_taken))
        ∙ ap (λ (x : Float). x ∷ drop (suc (t - 10 - 1)) (take (t + 10) flux)) (get_or-take (t + 10) flux (t - 10 - 1) nan (omega arith))
        ∙ ap (λ (k : ℕ). leaves ∷ drop k (take (t + 10) flux)) s

    own : around reach flux t ≡ rest ++ (comes ∷ [])
    own =
        let e : t + 11 ≡ suc (t + 10) = omega arith in
        whole t (omega arith) b ∙ ap (λ (k : ℕ). drop (t - 10) (take k flux)) e ∙ ap (drop (t - 10)) (take-suc flux (t + 10) nan (omega arith))
        ∙ drop-append-le (t - 10) (take (t + 10) flux) (comes ∷ []) (omega (arith, length_taken))

    held_earlier : Each Proper (leaves ∷ rest)
    held_earlier = subst (Each Proper) earlier (held (t - 1) (omega arith) (omega arith) (λ i c d. p i (omega arith) (omega arith)))

    plain-rest : Each Plain (map one_zero rest)
    plain-rest = plains (each_tail held_earlier)

    plain_leaves : Plain (one_zero leaves)
    plain_leaves = plain-is leaves (each_head held_earlier)

    plain_comes : Plain (one_zero comes)
    plain_comes = plain-is comes (record { fit = f (t + 10); ends = value-finite comes (p (t + 10) (omega arith) (omega arith)) })

    length_rest : length (map one_zero rest) ≡ 20
    length_rest = length-map rest one_zero ∙ length-drop (t - 10) (take (t + 10) flux) ∙ ap (λ (n : ℕ). n - (t - 10)) length_taken ∙ omega arith

    turned : sort (map one_zero rest ++ (one_zero comes ∷ [])) ≡ sorted_at t
    turned = ap sort (sym (map_join rest comes)) ∙ ap (λ (w : List Float). sort (map one_zero w)) (sym own)

    module _ {x y : Float} (ex : x ≡ one_zero leaves) (ey : y ≡ one_zero comes) where
      pub next_window : (s : List Float) → s ≡ sorted_at (t - 1) → slid s x y ≡ sorted_at t
      next_window s e =
          ap (λ (w : List Float). slid w x y) (e ∙ ap (λ (w : List Float). sort (map one_zero w)) earlier) ∙ rw (ex, ey) refl
          ∙ next_sorted plain-rest plain_leaves plain_comes length_rest ∙ turned

      -- where the value that comes is the one that leaves nothing moves
      pub same-window : eq x y ≡ true → sorted_at (t - 1) ≡ sorted_at t
      same-window e =
          ap (λ (w : List Float). sort (map one_zero w)) earlier
          ∙ ap (λ (z : Float). sort (z ∷ map one_zero rest)) (equal_same plain_leaves plain_comes (subst (λ (z : Float). eq (one_zero leaves) z ≡ true) ey
          (subst (λ (z : Float). eq z y ≡ true) ex e)))
          ∙ sort-turned plain-rest plain_leaves plain_comes ∙ turned

      pub same_threshold : eq x y ≡ true → threshold_at flux (t - 1) ≡ threshold_at flux t
      same_threshold e =
          sym (sorted_threshold_lem (t - 1) (omega arith) (omega arith) (λ i c d. p i (omega arith) (omega arith)))
          ∙ ap sorted_threshold (same-window e) ∙ sorted_threshold_lem t (omega arith) b (λ i c d. p i (omega arith) d)

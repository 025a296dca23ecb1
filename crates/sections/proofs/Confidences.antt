-- The confidence: its folds entry by entry, and that it lies within 0 to 1. The sum of prominences has the sign plus and is finite, so
-- the quotient by a range above 0 is no NaN, and what is held to a range lies in it. Assumes nothing.
use Rattle.std.proofs.Common.{◌≡◌, ℕ, zero, suc, ◌+◌, ◌*◌, ◌^◌, ◌<◌, ◌≤◌, Bool, true, false, not, T, eqb, ltb, List, [], ◌∷◌, map, length, get_or, drop, sym, refl, subst, ⊎_elim, le_refl, add-one, arith, drop_of_length-le, drop-cons, ltb-true, ne_eqb}
use lib.Ieee.{Float, nan, binary64, is_nan, lt, le, neg, of_bits}
use lib.Ieee.Scale.{finite}
use lib.ListN.{length-map}
use borrow.Author.Tests.{eqb-false}
use Rattle.lists.proofs.Means.{mean_of_mapped}
use Rattle.median.proofs.Medians.{median-within}
use Rattle.median.specs.Median.{median_of}
use Rattle.numbers.proofs.Tests.{which, and_left}
use Rattle.numbers.specs.Limits.{most_features, value_top, value_fine}
use Rattle.numbers.specs.Lists.{every}
use Rattle.numbers.specs.Rounded.{◌⊕◌, ◌⊖◌, ◌⊘◌, real, nought, pick, sum_from, sum_of, held, one}
use Rattle.onsets.specs.Peaks.{at, point_into}
use Rattle.sizes.proofs.Least.{real-least, least_above}
use Rattle.sizes.proofs.Lists.{each_head, each_tail, each_at, each_image, every_each, values-within}
use Rattle.sizes.proofs.Order.{not_le, lt_then_le, le_self}
use Rattle.sizes.proofs.Ranges.{held_low, held_high}
use Rattle.sizes.proofs.Signs.{nought_plus, plus_not_nan, positive_part_plus, sum_plus, real_plus, div_plus}
use Rattle.sizes.proofs.Sizes.{most-finite, most_not_nan, pick-most, positive_part-most, sub_within, div-within}
use Rattle.sizes.proofs.Sums.{sum-within}
use Rattle.sizes.specs.Sizes.{Within, AtLeast, Plus, Each, none, more}
use Rattle.sections.specs.Confidence.{lowest_float, greatest_from, range_of, prominence, mean_prominence, confidence_of}

pub greatest_step : (top : Float) (xs : List Float) (i : ℕ) → i < length xs
    → greatest_from top (drop i xs) ≡ greatest_from (pick (lt top (get_or xs i nan)) (get_or xs i nan) top) (drop (i + 1) xs)
unfolding greatest_from
greatest_step top xs i h = rw (add-one i, drop-cons xs i nan h)

pub greatest_end : (top : Float) (xs : List Float) (i : ℕ) → length xs ≤ i → greatest_from top (drop i xs) ≡ top
unfolding greatest_from
greatest_end top xs i h = rw drop_of_length-le

pub map_sum_step : (g : ℕ → Float) (acc : Float) (xs : List ℕ) (i : ℕ) → i < length xs
    → sum_from acc (map g (drop i xs)) ≡ sum_from (acc ⊕ g (get_or xs i 0)) (map g (drop (i + 1) xs))
unfolding sum_from
map_sum_step g acc xs i h = rw (add-one i, drop-cons xs i 0 h)

pub map_sum_end : (g : ℕ → Float) (acc : Float) (xs : List ℕ) (i : ℕ) → length xs ≤ i → sum_from acc (map g (drop i xs)) ≡ acc
unfolding sum_from
map_sum_end g acc xs i h = rw drop_of_length-le

pub zero_one : le nought one ≡ true
unfolding le of_bits
zero_one = refl

-- ---- what the code has found

pub range_is : (novelty : List Float) (top med : Float) → top ≡ greatest_from lowest_float novelty → med ≡ median_of novelty → top ⊖ med ≡ range_of novelty
unfolding range_of
range_is novelty top med e h = rw (e, h)

pub mean_is : (novelty : List Float) (rows : List ℕ) (sum med n : Float) → sum ≡ sum_of (map (prominence novelty med) rows) → med ≡ median_of novelty
    → n ≡ real (length rows) → sum ⊘ n ≡ mean_prominence novelty rows
unfolding mean_prominence
mean_is novelty rows sum med n e h k = rw (e, k, h) (sym (mean_of_mapped (prominence novelty (median_of novelty)) rows))

module _ (novelty : List Float) (rows : List ℕ) (some : length rows ≡ 0 → ⊥) where
  pub confidence-flat : le (range_of novelty) nought ≡ true → confidence_of novelty rows ≡ nought
  unfolding confidence_of
  confidence-flat e = rw (ne_eqb (length rows) 0 some, e)

  pub confidence-some : le (range_of novelty) nought ≡ false → confidence_of novelty rows ≡ held nought one (mean_prominence novelty rows ⊘ range_of novelty)
  unfolding confidence_of
  confidence-some e = rw (ne_eqb (length rows) 0 some, e)

-- ---- within 0 to 1

greatest-within : {xs : List Float} (top : Float) → Within 150 top → Each (Within 150) xs → Within 150 (greatest_from top xs)
unfolding greatest_from
greatest-within top h none = h
greatest-within top h (more {x = x} a b) = greatest-within (pick (lt top x) x top) (pick-most (lt top x) a h) b

lowest-below : lt lowest_float (neg value_top) ≡ true
unfolding lt neg of_bits
lowest-below = refl

module _ (novelty : List Float) (some : 0 < length novelty) (fine : every value_fine novelty ≡ true) where
  values : Each (Within 150) novelty
  values = values-within novelty fine

  -- the greatest of a curve is one of its values, not the lowest float
  top_within : (xs : List Float) → 0 < length xs → every value_fine xs ≡ true → Each (Within 150) xs → Within 150 (greatest_from lowest_float xs)
  unfolding greatest_from every value_fine
  top_within [] h e v = absurd (omega arith)
  top_within (x ∷ xs) h e (more a b) =
      let above : lt lowest_float x ≡ true = lt_then_le lowest_float (neg value_top) x lowest-below
      (and_left (le (neg value_top) x) (le x value_top) (and_left (value_fine x) (every value_fine xs) e)) in
      rw above (greatest-within x a b)

  med_within : Within 150 (median_of novelty)
  med_within = median-within 150 novelty some values

  range_within : Within 151 (range_of novelty)
  unfolding range_of
  range_within = sub_within binary64 150 (omega arith) (top_within novelty some fine values) med_within

  prominence-within : (row : ℕ) → row < length novelty → Within 151 (prominence novelty (median_of novelty) row)
  unfolding prominence
  prominence-within row h = positive_part-most (sub_within binary64 150 (omega arith) (each_at row nan values h) med_within)

  prominence_plus : (row : ℕ) → Plus (prominence novelty (median_of novelty) row)
  unfolding prominence
  prominence_plus row = positive_part_plus (at novelty row ⊖ median_of novelty)

  module _ (rows : List ℕ) (inside : point_into (length novelty) rows ≡ true) (few : length rows ≤ most_features) (any : length rows ≡ 0 → ⊥) where
    abbrev terms : List Float
    terms = map (prominence novelty (median_of novelty)) rows

    rows_inside : Each (λ row. row < length novelty) rows
    rows_inside = every_each (λ x. ltb x (length novelty)) (λ row. row < length novelty) (λ x e. ltb-true x (length novelty) e) rows inside

    sum-bounded : Within 167 (sum_of terms)
    sum-bounded = sum-within 16 151 (omega arith) (omega arith) (omega (arith, length-map rows (prominence novelty (median_of novelty))))
        (each_image (prominence novelty (median_of novelty)) prominence-within rows_inside)

    sum_is_plus : Plus (sum_of terms)
    sum_is_plus = sum_plus (each_image {P = λ row. row < length novelty} (prominence novelty (median_of novelty)) (λ row h. prominence_plus row) rows_inside)

    count-least : AtLeast 1 (2 ^ 0) (real (length rows))
    count-least = real-least (length rows) (omega arith) (omega arith)

    count-above : lt nought (real (length rows)) ≡ true
    count-above = least_above (omega arith) (real_plus (length rows)) count-least

    mean_by_rows : mean_prominence novelty rows ≡ sum_of terms ⊘ real (length rows)
    unfolding mean_prominence
    mean_by_rows = mean_of_mapped (prominence novelty (median_of novelty)) rows

    mean_finite : T (finite (mean_prominence novelty rows))
    mean_finite = most-finite (subst (Within 167) (sym mean_by_rows) (div-within binary64 167 0 (omega arith) sum-bounded count-least))

    mean_plus : Plus (mean_prominence novelty rows)
    mean_plus = subst Plus (sym mean_by_rows) (div_plus binary64 (real (length rows)) (most-finite sum-bounded) sum_is_plus count-above)

    part_not_nan : le (range_of novelty) nought ≡ false → T (not (is_nan (mean_prominence novelty rows ⊘ range_of novelty)))
    part_not_nan e =
        plus_not_nan (div_plus binary64 (range_of novelty) mean_finite mean_plus
        (not_le (range_of novelty) nought (most_not_nan range_within) (plus_not_nan nought_plus) e))

zero-zero : le nought nought ≡ true
zero-zero = le_self nought (plus_not_nan nought_plus)

-- the confidence of boundaries that point into a fine curve lies within 0 to 1
pub confidence_unit : (novelty : List Float) (rows : List ℕ) → 0 < length novelty → every value_fine novelty ≡ true → point_into (length novelty) rows ≡ true
    → length rows ≤ most_features → (le nought (confidence_of novelty rows) ≡ true) × (le (confidence_of novelty rows) one ≡ true)
unfolding confidence_of
confidence_unit novelty rows some fine inside few = go (eqb (length rows) 0) refl (le (range_of novelty) nought) refl
  where
    go : (b : Bool) → eqb (length rows) 0 ≡ b → (d : Bool) → le (range_of novelty) nought ≡ d
        → (le nought (pick b nought (pick d nought (held nought one (mean_prominence novelty rows ⊘ range_of novelty)))) ≡ true)
        × (le (pick b nought (pick d nought (held nought one (mean_prominence novelty rows ⊘ range_of novelty)))) one ≡ true)
    go true e d h = (zero-zero, zero_one)
    go false e true h = (zero-zero, zero_one)
    go false e false h =
        let n = part_not_nan novelty some fine rows inside few (eqb-false (length rows) 0 e) h in (
          held_low nought one (mean_prominence novelty rows ⊘ range_of novelty) n zero_one,
          held_high nought one
              (mean_prominence novelty rows ⊘ range_of novelty) n zero_one,
        )

-- No clarity is a NaN: each lies within 0..1. Values of size at most 2 ^ 150, up to 2 ^ row_bits of them, have a mean of at most 2 ^ 150, products
-- about it of at most 2 ^ 302 and sums of at most 2 ^ row_bits times that; the energy is above 2 ^ -52, so each quotient is finite, and held to
-- 0..1. What is said here of clarity alone, crate tempo's FirstGreatest says of the weights. Assumes nothing.
use mathlib.Core.Path.{◌≡◌, refl, sym, ◌∙◌}
use mathlib.Core.Bool.{true}
use mathlib.Core.List.{List}
use Prim.Native.Nat.{ℕ, ◌+◌, ◌-◌, ◌*◌, ◌^◌, ◌≤◌, ◌<◌}
use native.Mathlib.Nat.{le_of_eq, le_trans, mul_comm, mul-one, one-mul}
use native.Mathlib.Omega.{arith}
use lib.Dec.{lit<, lit≤}
use lib.Ieee.{Float, nan, binary64, lt, le, of_bits}
use lib.ListN.{length}
use Rattle.numbers.specs.Rounded.{◌⊗◌, ◌⊘◌, real, nought, epsilon, one}
use Rattle.numbers.specs.Limits.{most_rows, value_fine}
use Rattle.numbers.specs.Lists.{curve, every}
use Rattle.numbers.proofs.Tabs.{length-tab}
use Rattle.lists.specs.Means.{mean_of}
use Rattle.sizes.specs.Sizes.{Within, AtLeast, is_plus, Plus}
use Rattle.sizes.proofs.Numbers.{held_power, held_multiple, held_part}
use Rattle.sizes.proofs.Sizes.{most_not_nan, sub_within, mul-within, div_most, div-within, real-most}
use Rattle.sizes.proofs.Least.{real-least, mul-least}
use Rattle.sizes.proofs.Lists.{each_at, each_tab, values-within}
use Rattle.sizes.proofs.Sums.{sum-most, sum-within}
use Rattle.sizes.proofs.Order.{lt_is_le}
use Rattle.sizes.proofs.Ranges.{le_least, held_low, held_high}
use Rattle.lag_sums.specs.Sums.{centred, product_at, lag_sum, energy_of}
use Rattle.lag_curves.specs.Curves.{clarity_at}

least_size : Plus epsilon × AtLeast 1 (2 ^ 52) epsilon
unfolding of_bits is_plus
least_size = (record { sign = tt }, record { size = lit≤ tt })

-- an envelope has no more rows than this power of two: another limit changes this number alone
abbrev pub row_bits : ℕ
row_bits = 20

pub most-rows : most_rows ≤ 2 ^ row_bits
most-rows = lit≤ tt

zero_one : le nought one ≡ true
unfolding le of_bits
zero_one = refl

module _ (env : List Float) (fine : every value_fine env ≡ true) (few : length env ≤ most_rows) where
  short : length env ≤ 2 ^ 53
  short = omega arith

  rows : length env ≤ 2 ^ row_bits
  rows = le_trans few most-rows

  pub mean_within : 1 ≤ length env → Within 150 (mean_of env)
  unfolding mean_of
  mean_within some =
      div_most {N = length env * 2 ^ 150} {p = length env} {q = 1} {R = 2 ^ 150} some (held_power 150 (lit≤ tt))
      (le_of_eq (mul-one (length env * 2 ^ 150) ∙ mul_comm (length env) (2 ^ 150)))
      (sum-most (λ i l. held_multiple row_bits 150 i (lit≤ tt) (lit≤ tt) (le_trans l rows)) (values-within env fine))
      (real-least (length env) short (le_of_eq (sym (one-mul (length env)))))

  module _ (mean : Float) (about : Within 150 mean) where
    pub centred-within : (t : ℕ) → t < length env → Within 151 (centred env mean t)
    centred-within t h = sub_within binary64 150 (lit≤ tt) (each_at t nan (values-within env fine) h) about

    pub lag_sum_within : (lag : ℕ) → Within (row_bits + 302) (lag_sum env mean lag)
    unfolding lag_sum
    lag_sum_within lag =
        let n = length env - lag in
        let l : length (curve (product_at env mean lag) n) ≤ 2 ^ row_bits = le_trans (le_of_eq (length-tab (product_at env mean lag) 0 n)) (omega (arith, rows)) in
        sum-within row_bits 302 (lit≤ tt) (lit≤ tt) l (each_tab (product_at env mean lag) 0 n (λ t a b. product t (omega arith)))
      where
        product : (t : ℕ) → t + lag < length env → Within 302 (product_at env mean lag t)
        product t h = unfold product_at in mul-within binary64 151 151 (lit≤ tt) (centred-within t (omega arith)) (centred-within (t + lag) h)

    pub energy_within : Within (row_bits + 302) (energy_of env mean)
    unfolding energy_of
    energy_within = lag_sum_within 0

    -- clarity lies within 0..1
    module _ (ac0 : Float) (enough : lt epsilon ac0 ≡ true) (lag : ℕ) (inside : lag < length env) where
      energy_least : AtLeast 1 (2 ^ 52) ac0
      energy_least = le_least ac0 least_size.0 least_size.1 (lt_is_le epsilon ac0 enough)

      quotient_within : Within (row_bits + 302 + row_bits + 52) (lag_sum env mean lag ⊗ real (length env) ⊘ (ac0 ⊗ real (length env - lag)))
      quotient_within =
          let l : length env - lag ≤ 2 ^ 53 = omega (arith, short) in
          let k : 1 ≤ 1 * (length env - lag) = omega arith in
          div-within binary64 (row_bits + 302 + row_bits) 52 (lit≤ tt)
          (mul-within binary64 (row_bits + 302) row_bits (lit≤ tt) (lag_sum_within lag) (real-most (length env) short rows))
          (mul-least {p = 1} {q = 2 ^ 52} {p' = 1} {q' = 1} {r = 1} {w = 2 ^ 52} (lit< tt) (lit< tt) (lit< tt) (held_part 52 (lit≤ tt))
          (lit≤ tt) energy_least (real-least (length env - lag) l k))

      pub clarity-low : le nought (clarity_at env mean ac0 lag) ≡ true
      unfolding clarity_at
      clarity-low = held_low nought one _ (most_not_nan quotient_within) zero_one

      pub clarity-high : le (clarity_at env mean ac0 lag) one ≡ true
      unfolding clarity_at
      clarity-high = held_high nought one _ (most_not_nan quotient_within) zero_one

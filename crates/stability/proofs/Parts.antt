-- Windows: where they lie, what the search of one finds, and one more of them counted. Assumes nothing.
use mathlib.Core.Path.{◌≡◌, refl, sym, ap, ◌∙◌}
use mathlib.Core.Bool.{Bool, true, false}
use mathlib.Core.List.{List}
use Prim.Native.Nat.{ℕ, ◌+◌, ◌-◌, ◌*◌, ◌/◌, ◌≤◌, ◌<◌}
use native.Mathlib.Nat.{mul_comm, div-mul-le_self, le-div_iff_mul-le, add-zero}
use native.Mathlib.Numerals.{add-one}
use native.Mathlib.Omega.{arith}
use borrow.Author.Tests.{eq-eqb, ne_eqb}
use lib.Dec.{eqb}
use lib.ListN.{length, take, drop, length-drop}
use lib.Seq.{length-take-le}
use lib.Ieee.{Float, le}
use Rattle.numbers.specs.Rounded.{pick, epsilon}
use Rattle.numbers.specs.Lists.{filled, one_if}
use Rattle.numbers.proofs.Tests.{pick_true, pick-false}
use Rattle.numbers.proofs.Overs.{row_end}
use Rattle.numbers.proofs.Outcomes.{open_same, open_filled}
use Rattle.lists.specs.Means.{mean_of}
use Rattle.lags.specs.Lags.{lag_room}
use Rattle.lags.specs.Pairs.{agrees}
use Rattle.lag_sums.specs.Sums.{energy_of}
use Rattle.lag_curves.specs.Curves.{clarity_from, weighted_by}
use Rattle.lag_curves.proofs.Weights.{weighted_by_is}
use Rattle.lag_search.specs.Search.{winner_lag, winning_lag}
use Rattle.lag_search.proofs.Searches.{searched_flat, searched_written}
use Rattle.stability.specs.Windows.{window_at, window_agrees, agreeing_to}
use Rattle.stability.specs.Inner.{WindowSearched}

-- ---- where they lie

-- w windows of n slots, each longer than each lag
module _ (n w m : ℕ) (some : 1 ≤ w) (fit : w * (m + 2) ≤ n) where
  pub slots_enough : m + 2 ≤ n / w
  slots_enough = (le-div_iff_mul-le {k = w} {x = m + 2} {y = n} some).1 (omega (arith, mul_comm w (m + 2)))

  pub window-ends : (i : ℕ) → i < w → i * (n / w) + n / w ≤ n
  window-ends i h = omega (arith, row_end i w (n / w) h, mul_comm w (n / w), div-mul-le_self n w)

-- window i of w, as it is lent
abbrev pub lent_part : List Float → (w i : ℕ) → List Float
lent_part env w i = let s = length env / w in take (i * s + s - i * s) (drop (i * s) env)

module _ (env : List Float) (w i : ℕ) where
  pub part_is : lent_part env w i ≡ window_at env w i
  unfolding window_at
  part_is =
      let s = length env / w in
      let e : i * s + s - i * s ≡ s = omega arith in
      ap (λ (k : ℕ). take k (drop (i * s) env)) e

  module _ (m : ℕ) (some : 1 ≤ w) (fit : w * (m + 2) ≤ length env) (h : i < w) where
    pub window-length : length (window_at env w i) ≡ length env / w
    unfolding window_at
    window-length =
        let s = length env / w in
        let t : i * s + s ≤ length env = window-ends (length env) w m some fit i h in
        length-take-le s (drop (i * s) env) (simp length-drop (omega arith))

    pub window_long : m < length (window_at env w i)
    window_long = omega (arith, window-length, slots_enough (length env) w m some fit)

    pub part_long : m < length (lent_part env w i)
    part_long = omega (arith, ap length part_is, window_long)

-- ---- what the search of one finds

module _ (window priors : List Float) (min_lag max_lag : ℕ) (mean ac0 : Float) (m : mean ≡ mean_of window) (a : ac0 ≡ energy_of window mean)
    (clarity weight : List Float) where
  pub window-flat : le ac0 epsilon ≡ true → WindowSearched window priors min_lag max_lag clarity weight 0 clarity weight
  window-flat e =
      record {
        winner = λ rate was h p. (searched_flat window rate min_lag max_lag mean ac0 m a clarity weight e).winner;
        clarities = open_same _ clarity;
        weights = open_same _ weight;
      }

  pub window-written : (clarity' weight' : List Float) (room lag : ℕ) → le ac0 epsilon ≡ false → room ≡ lag_room min_lag max_lag
      → lag_room min_lag max_lag ≤ length clarity → lag_room min_lag max_lag ≤ length weight
      → clarity' ≡ filled (clarity_from window mean ac0 min_lag) clarity 0 (lag_room min_lag max_lag)
      → weight' ≡ filled (weighted_by clarity' priors) weight 0 room
      → lag ≡ winner_lag min_lag (take (room - 0) (drop 0 weight'))
      → WindowSearched window priors min_lag max_lag clarity weight lag clarity' weight'
  window-written clarity' weight' room lag e r hc hw c w l =
      let w₁ : weight' ≡ filled (weighted_by clarity' priors) weight 0 (lag_room min_lag max_lag) = w ∙ ap (filled (weighted_by clarity' priors) weight 0) r in
      record {
        winner =
            λ rate was h p.
            (searched_written window rate min_lag max_lag mean ac0 m a clarity weight clarity' weight' lag e c
            (w₁ ∙ weighted_by_is window mean ac0 rate min_lag (lag_room min_lag max_lag) clarity' clarity weight hc c priors was h p)
            room
            r
            l
            ).winner;
        clarities = open_filled _ _ clarity clarity' hc c;
        weights = open_filled _ _ weight weight' hw w₁;
      }

-- ---- one more of them

module _ (env : List Float) (rate min_lag max_lag whole w i : ℕ) where
  abbrev counted : ℕ → ℕ
  counted k = agreeing_to env rate min_lag max_lag whole w k

  step : counted (i + 1) ≡ counted i + one_if (window_agrees (window_at env w i) rate min_lag max_lag whole)
  unfolding agreeing_to
  step = rw add-one refl

  next : (b : Bool) (a : ℕ) → a ≡ counted i → window_agrees (window_at env w i) rate min_lag max_lag whole ≡ b → a + one_if b ≡ counted (i + 1)
  next b a e f = sym (step ∙ ap (λ (x : Bool). counted i + one_if x) f ∙ ap (λ (x : ℕ). x + one_if b) (sym e))

  module _ (a lag : ℕ) (is : a ≡ counted i) (found : lag ≡ winning_lag (window_at env w i) rate min_lag max_lag) where
    answers : window_agrees (window_at env w i) rate min_lag max_lag whole ≡ pick (eqb lag 0) false (agrees whole lag)
    unfolding window_agrees
    answers = ap (λ (l : ℕ). pick (eqb l 0) false (agrees whole l)) (sym found)

    uncounted : window_agrees (window_at env w i) rate min_lag max_lag whole ≡ false → a ≡ counted (i + 1)
    uncounted e = sym (add-zero a) ∙ next false a is e

    -- it has no tempo
    pub next_without : lag ≡ 0 → a ≡ counted (i + 1)
    next_without z = uncounted (answers ∙ pick_true _ _ _ (eq-eqb lag 0 z))

    -- it has one, which agrees or doesn't
    module _ (some : lag ≡ 0 → ⊥) where
      pub next_agrees : agrees whole lag ≡ true → a + 1 ≡ counted (i + 1)
      next_agrees e = next true a is (answers ∙ pick-false _ _ _ (ne_eqb lag 0 some) ∙ e)

      pub next_differs : agrees whole lag ≡ false → a ≡ counted (i + 1)
      next_differs e = uncounted (answers ∙ pick-false _ _ _ (ne_eqb lag 0 some) ∙ e)

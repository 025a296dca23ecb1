-- Which earlier frames the best extension may pass over by their scores alone. A penalty is never above 0: it is -400 times a number, times
-- the same number, and rounding keeps a product's sign. So an extension is no more than the score that it extends, and where the score is not
-- above the best so far, or does not reach what the answer reaches, no penalty is needed. Assumes nothing.
use mathlib.Core.Path.{◌≡◌, refl, sym, ap, ◌∙◌, subst}
use mathlib.Core.Bool.{Bool, true, false, not, cond}
use mathlib.Core.List.{List}
use mathlib.Core.Logic.{⊎_elim}
use Prim.Native.Nat.{ℕ, ◌+◌, ◌-◌, ◌*◌, ◌^◌, ◌≤◌, ◌<◌}
use native.Mathlib.Nat.{mul-pos, zero-lt-suc}
use native.Mathlib.Omega.{arith}
use lib.IntN.{ℤ, pos}
use lib.Dec.{T, eqb}
use lib.ListN.{get_or}
use lib.Ieee.{Float, nan, inf, fin, Format, binary64, up, down, round, neg, sum, add, mul, lt, le, is_nan, of_bits, fits}
use lib.Ieee.Fits.{down_pos}
use Rattle.numbers.specs.Rounded.{◌⊕◌, ◌⊗◌, ◌⊘◌, real, nought}
use Rattle.numbers.proofs.Tests.{which, true_not_false}
use Rattle.sizes.specs.Sizes.{is_plus}
use Rattle.sizes.proofs.Rounds.{round_neg, round_plus}
use Rattle.sizes.proofs.Order.{le_self, le_right, lt_right, lt_is_le, not_lt, le_then_le, lt_then_le, lt_then_lt}
use Rattle.sizes.proofs.Signs.{nought-is, nought_plus, plus_from_nought, plus_not_nan}
use Rattle.sizes.proofs.Monotone.{add_mono_right}
use Rattle.sizes.proofs.Exact.{round_value}
use Rattle.floats.specs.Logs.{log_of}
use Rattle.lists.specs.declared.Best.{Best}
use Rattle.lists.specs.Greatest.{greatest}
use Rattle.beat_links.specs.Extensions.{four_hundred, penalty, extended, unlinked}
use Rattle.beat_links.specs.Inner.{larger}
use Rattle.lists.proofs.Greatest.{best, Outcome, kept, found, outcome, no_lt, no_le, greatest_step, greatest-is}
use Rattle.beat_links.proofs.Eights.{larger_by}

-- ---- the sign of a penalty

-- what is not above 0: a NaN is not
abbrev Under : Float → Type 0
Under x = lt (fin false 0 (pos 0)) x ≡ false

neg_under : (x : Float) → T (is_plus x) → Under (neg x)
unfolding is_plus neg lt
neg_under nan h = absurd h
neg_under (inf true) h = absurd h
neg_under (inf false) h = refl
neg_under (fin true m e) h = absurd h
neg_under (fin false m e) h = refl

round_under : (f : Format) (a c : ℕ) → Under (round f true a c)
round_under f a c = subst Under (sym (round_neg f a c)) (neg_under (round f false a c) (round_plus f a c).sign)

cond-under : (b : Bool) → Under (cond b nan (inf true))
unfolding lt
cond-under true = refl
cond-under false = refl

-- a product of unlike signs, x having a plus sign
left_minus : (f : Format) (x : Float) (m : ℕ) (e : ℤ) → T (is_plus x) → Under (mul f (neg x) (fin false m e))
unfolding is_plus neg mul
left_minus f nan m e h = absurd h
left_minus f (inf true) m e h = absurd h
left_minus f (inf false) m e h = cond-under (eqb m 0)
left_minus f (fin true n d) m e h = absurd h
left_minus f (fin false n d) m e h = round_under f (n * up d * (m * up e)) (down d * down e)

right_minus : (f : Format) (x : Float) (m : ℕ) (e : ℤ) → T (is_plus x) → Under (mul f x (fin true m e))
unfolding is_plus mul
right_minus f nan m e h = absurd h
right_minus f (inf true) m e h = absurd h
right_minus f (inf false) m e h = cond-under (eqb m 0)
right_minus f (fin true n d) m e h = absurd h
right_minus f (fin false n d) m e h = round_under f (n * up d * (m * up e)) (down d * down e)

-- -400
minus_is : neg four_hundred ≡ fin true 25 (pos 4)
unfolding of_bits neg
minus_is = refl

-- times x it has the sign that x has not, so times x again it has a minus sign
twice_under : (x : Float) → Under (fin true 25 (pos 4) ⊗ x ⊗ x)
unfolding mul lt
twice_under nan = refl
twice_under (inf true) = refl
twice_under (inf false) = refl
twice_under (fin false m e) =
    subst (λ (y : Float). Under (y ⊗ fin false m e)) (sym (round_neg binary64 (25 * 2 ^ 4 * (m * up e)) (1 * down e)))
    (left_minus binary64 (round binary64 false (25 * 2 ^ 4 * (m * up e)) (1 * down e)) m e (round_plus binary64 (25 * 2 ^ 4 * (m * up e)) (1 * down e)).sign)
twice_under (fin true m e) =
    right_minus binary64 (round binary64 false (25 * 2 ^ 4 * (m * up e)) (1 * down e)) m e (round_plus binary64 (25 * 2 ^ 4 * (m * up e)) (1 * down e)).sign

-- no penalty is above 0
pub penalty-under : (period interval : ℕ) → lt nought (penalty period interval) ≡ false
unfolding penalty
penalty-under period interval =
    let ln = log_of (real interval ⊘ real period) in
    ap (λ (z : Float). lt z (neg four_hundred ⊗ ln ⊗ ln)) nought-is
    ∙ ap (λ (z : Float). lt (fin false 0 (pos 0)) (z ⊗ ln ⊗ ln)) minus_is ∙ twice_under ln

-- ---- a sum with what is not above 0

-- a value and the zero of its sign
with_zero : (s : Bool) (m : ℕ) (e : ℤ) → T (fits binary64 (fin s m e)) → fin s m e ⊕ fin s 0 (pos 0) ≡ fin s m e
with_zero s m e t =
    both s
    ∙ round_value binary64 (fin s m e) s (m * up e * 1 + 0 * 1 * down e) (down e * 1) (mul-pos (down_pos e) (zero-lt-suc 0)) t (refl, alone (m * up e) (down e))
  where
    both : (s : Bool) → fin s m e ⊕ fin s 0 (pos 0) ≡ round binary64 s (m * up e * 1 + 0 * 1 * down e) (down e * 1)
    both true = unfold add in unfold sum in refl
    both false = unfold add in unfold sum in refl

    alone : (x d : ℕ) → x * (d * 1) ≡ (x * 1 + 0 * 1 * d) * d
    alone x d = omega arith

from_zero : (s : Bool) → le nought (fin s 0 (pos 0)) ≡ true
unfolding of_bits le
from_zero true = refl
from_zero false = refl

-- with an infinity
inf_sum : (s : Bool) (p : Float) → T (not (is_nan (inf s ⊕ p))) → inf s ⊕ p ≡ inf s
unfolding add is_nan
inf_sum s nan h = absurd h
inf_sum true (inf true) h = refl
inf_sum true (inf false) h = absurd h
inf_sum false (inf true) h = absurd h
inf_sum false (inf false) h = refl
inf_sum s (fin t n d) h = refl

term_not_nan : (s : Bool) (m : ℕ) (e : ℤ) (p : Float) → T (not (is_nan (fin s m e ⊕ p))) → T (not (is_nan p))
unfolding add is_nan
term_not_nan s m e nan h = h
term_not_nan s m e (inf t) h = tt
term_not_nan s m e (fin t n d) h = tt

-- a sum with what is not above 0 is no more than the other term, where the format holds that
sum-under : (x p : Float) → T (fits binary64 x) → lt nought p ≡ false → T (not (is_nan (x ⊕ p))) → le (x ⊕ p) x ≡ true
sum-under nan p t h k = absurd (unfold add in unfold is_nan in k)
sum-under (inf s) p t h k = subst (λ (z : Float). le z (inf s) ≡ true) (sym (inf_sum s p k)) (le_self (inf s) (unfold is_nan in tt))
sum-under (fin s m e) p t h k =
    let under : le p nought ≡ true = not_lt nought p (plus_not_nan nought_plus) (term_not_nan s m e p k) h in
    subst (λ (z : Float). le (fin s m e ⊕ p) z ≡ true) (with_zero s m e t)
    (add_mono_right binary64 (fin s m e) p (fin s 0 (pos 0)) tt (le_then_le p nought (fin s 0 (pos 0)) under (from_zero s)))

-- ---- the score alone

-- the format holds the score, as it does every entry of a slice
module _ (period : ℕ) (ss : List Float) (t u : ℕ) (v : Float) (holds : T (fits binary64 (get_or ss u nan))) where
  no_more : T (not (is_nan (extended period ss t u))) → le (extended period ss t u) (get_or ss u nan) ≡ true
  unfolding extended
  no_more = sum-under (get_or ss u nan) (penalty period (t - u)) holds (penalty-under period (t - u))

  -- where the score is not above v the extension is not
  pub not-above : lt v (get_or ss u nan) ≡ false → lt v (extended period ss t u) ≡ false
  not-above h =
      no_lt v (extended period ss t u)
      (λ k. true_not_false (lt v (get_or ss u nan)) (lt_then_le v (extended period ss t u) (get_or ss u nan) k (no_more (lt_right v (extended period ss t u) k))) h)

  -- and where it does not reach v the extension does not
  pub not_reached : le v (get_or ss u nan) ≡ false → le v (extended period ss t u) ≡ false
  not_reached h =
      no_le v (extended period ss t u)
      (λ k. true_not_false (le v (get_or ss u nan)) (le_then_le v (extended period ss t u) (get_or ss u nan) k (no_more (le_right v (extended period ss t u) k))) h)

-- ---- what the greatest reaches

module _ (f : ℕ → Float) where
  -- 0, and each of the values
  pub greatest-reaches : (u n k : ℕ) → u ≤ k → k < u + n → le (larger nought (f k)) (greatest f u n unlinked).value ≡ true
  greatest-reaches u n k h g = by (outcome f u n unlinked)
    where
      by : Outcome f u n unlinked (greatest f u n unlinked) → le (larger nought (f k)) (greatest f u n unlinked).value ≡ true
      by (kept e none) =
          subst (λ (y : Best). le (larger nought (f k)) y.value ≡ true) (sym e)
          (subst (λ (z : Float). le z nought ≡ true) (sym (larger_by nought (f k) false (none k h g))) (plus_from_nought nought_plus))
      by (found j e t) =
          subst (λ (y : Best). le (larger nought (f k)) y.value ≡ true) (sym e)
          (⊎_elim
          (λ b. subst (λ (z : Float). le z (f j) ≡ true) (sym (larger_by nought (f k) true b))
          (not_lt (f j) (f k) (lt_right nought (f j) t.above) (lt_right nought (f k) b) (t.most k h g)))
          (λ b. subst (λ (z : Float). le z (f j) ≡ true) (sym (larger_by nought (f k) false b)) (lt_is_le nought (f j) t.above))
          (which (lt nought (f k))))

  -- so a value that does not reach what the greatest reaches is passed over: it is not the greatest, nor is it in the way of it
  pub greatest_skip : (u end : ℕ) (v w : Float) (a : ℕ) → u < end → le w (greatest f u (end - u) (best v a)).value ≡ true → le w (f u) ≡ false
      → greatest f (u + 1) (end - (u + 1)) (best v a) ≡ greatest f u (end - u) (best v a)
  greatest_skip u end v w a h r under =
      ⊎_elim
      (λ b.
      let step = greatest_step f u end v (f u) (f u) a u true h refl b refl refl in
      by b step (outcome f (u + 1) (end - (u + 1)) (best (f u) u)))
      (λ b. greatest_step f u end v v (f u) a a false h refl b refl refl)
      (which (lt v (f u)))
    where
      by : lt v (f u) ≡ true → greatest f (u + 1) (end - (u + 1)) (best (f u) u) ≡ greatest f u (end - u) (best v a)
          → Outcome f (u + 1) (end - (u + 1)) (best (f u) u) (greatest f (u + 1) (end - (u + 1)) (best (f u) u))
          → greatest f (u + 1) (end - (u + 1)) (best v a) ≡ greatest f u (end - u) (best v a)
      by b step (kept e none) = true_not_false (le w (f u)) (subst (λ (y : Best). le w y.value ≡ true) (sym step ∙ e) r) under
      by b step (found k e t) =
          sym (greatest-is f (u + 1) (end - (u + 1)) (best v a) k
          (record { from = t.from; to = t.to; above = lt_then_lt v (f u) (f k) b t.above; most = t.most; first = t.first }))
          ∙ sym e ∙ step

-- Eight lag sums side by side: one time more, two times more, a run of times from lists of centred values, and one of the eight taken
-- out. Each is its own lag's sum throughout. Assumes nothing.
use mathlib.Core.Path.{◌≡◌, refl, sym, ap, ◌∙◌}
use mathlib.Core.List.{List, [], ◌∷◌}
use Prim.Native.Nat.{ℕ, zero, suc, ◌+◌, ◌≤◌, ◌<◌}
use native.Mathlib.Nat.{add-zero, zero-add}
use native.Mathlib.Numerals.{add-one}
use native.Mathlib.Omega.{arith}
use lib.Dec.{lit≤}
use lib.ListN.{length, get_or, drop, drop_of_length-le}
use lib.Seq.{drop-cons}
use lib.Ieee.{Float, nan}
use Rattle.numbers.specs.Rounded.{nought, sum_from}
use Rattle.numbers.specs.Lists.{tab, curve}
use Rattle.numbers.proofs.Tabs.{get_or-curve}
use Rattle.lag_sums.specs.declared.abreast.Eight.{Eight}
use Rattle.lag_sums.specs.declared.abreast.ThirtyTwo.{ThirtyTwo}
use Rattle.lag_sums.specs.Sums.{centred}
use Rattle.lag_sums.specs.Lanes.{eight_by, eight_sums, thirty_two_sums, eight_more, centred_from, entry, eight_run, thirty_two_run}
use Rattle.lag_sums.proofs.Products.{sum_to, product_next}

-- rules that agree on eight entries
eight_ext : (r q : ℕ → Float) (i k : ℕ) → ((j : ℕ) → j < 8 → r (i + j) ≡ q (k + j)) → r i ≡ q k → eight_by r i ≡ eight_by q k
eight_ext r q i k h z =
    rw (
      z,
      h 1 (omega arith),
      h 2 (omega arith),
      h 3 (omega arith),
      h 4 (omega arith),
      h 5 (omega arith),
      h 6 (omega arith),
      h 7 (omega arith),
    )

-- ---- a run

run_step : (s : Eight) (vs later : List Float) (t i : ℕ) → t < length vs
    → eight_run s (drop t vs) later i ≡ eight_run (eight_more s (get_or vs t nan) (eight_by (entry later) i)) (drop (t + 1) vs) later (i + 1)
unfolding eight_run
run_step s vs later t i h = rw (add-one t, drop-cons vs t nan)

-- two times a turn
pub run_two : (s q : Eight) (vs later : List Float) (at t : ℕ) → t + 1 < length vs
    → q ≡ eight_more (eight_more s (get_or vs t nan) (eight_by (entry later) (at + t))) (get_or vs (t + 1) nan) (eight_by (entry later) (at + t + 1))
    → eight_run s (drop t vs) later (at + t) ≡ eight_run q (drop (t + 2) vs) later (at + (t + 2))
run_two s q vs later at t h e =
    let two : t + 1 + 1 ≡ t + 2 = omega arith in
    let on : at + t + 1 + 1 ≡ at + (t + 2) = omega arith in
    run_step s vs later t (at + t) (omega arith)
    ∙ run_step _ vs later (t + 1) (at + t + 1) h
    ∙ ap (λ (x : Eight). eight_run x (drop (t + 1 + 1) vs) later (at + t + 1 + 1)) (sym e)
    ∙ ap (λ (n : ℕ). eight_run q (drop n vs) later (at + t + 1 + 1)) two
    ∙ ap (eight_run q (drop (t + 2) vs) later) on

pub run_end : (s : Eight) (vs later : List Float) (t i : ℕ) → length vs ≤ t → eight_run s (drop t vs) later i ≡ s
unfolding eight_run
run_end s vs later t i h = rw drop_of_length-le

-- ---- the sums

module _ (env : List Float) (mean : Float) where
  pub eight_none : (lag : ℕ) → eight_by (λ i. nought) 0 ≡ eight_sums env mean lag 0
  unfolding eight_sums sum_from
  eight_none lag = refl

  pub thirty_two_none : (lag : ℕ) (z : Eight) → z ≡ eight_by (λ i. nought) 0 → record { a = z; b = z; c = z; d = z } ≡ thirty_two_sums env mean lag 0
  unfolding thirty_two_sums sum_from
  thirty_two_none lag z e = rw e

  pub eight_next : (lag t : ℕ) → eight_more (eight_sums env mean lag t) (centred env mean t) (eight_by (centred env mean) (t + lag)) ≡ eight_sums env mean
      lag (t + 1)
  unfolding eight_sums
  eight_next lag t =
      rw (
        product_next env mean lag t (t + lag) refl,
        product_next env mean (lag + 1) t (t + lag + 1) (omega arith),
        product_next env mean (lag + 2) t (t + lag + 2) (omega arith),
        product_next env mean (lag + 3) t (t + lag + 3) (omega arith),
        product_next env mean (lag + 4) t (t + lag + 4) (omega arith),
        product_next env mean (lag + 5) t (t + lag + 5) (omega arith),
        product_next env mean (lag + 6) t (t + lag + 6) (omega arith),
        product_next env mean (lag + 7) t (t + lag + 7) (omega arith),
      )

  -- two times a turn
  pub eight_two : (lag t : ℕ) (s r q : Eight) → s ≡ eight_sums env mean lag t → r ≡ eight_more s (centred env mean t) (eight_by (centred env mean) (t + lag))
      → q ≡ eight_more r (centred env mean (t + 1)) (eight_by (centred env mean) (t + 1 + lag)) → q ≡ eight_sums env mean lag (t + 2)
  eight_two lag t s r q e h k =
      let two : t + 1 + 1 ≡ t + 2 = omega arith in
      let one : r ≡ eight_sums env mean lag (t + 1) = h ∙ ap (λ (x : Eight). eight_more x (centred env mean t) (eight_by (centred env mean) (t + lag))) e
      ∙ eight_next lag t in
      k ∙ ap (λ (x : Eight). eight_more x (centred env mean (t + 1)) (eight_by (centred env mean) (t + 1 + lag))) one ∙ eight_next lag (t + 1)
      ∙ ap (eight_sums env mean lag) two

  -- entry j of the eight
  pub eight_at : (lag t : ℕ) (s : Eight) → s ≡ eight_sums env mean lag t → (j : ℕ) → j < 8
      → get_or (s.a ∷ s.b ∷ s.c ∷ s.d ∷ s.e ∷ s.f ∷ s.g ∷ s.h ∷ []) j nan ≡ sum_to env mean (lag + j) t
  unfolding eight_sums
  eight_at lag t s e j h = rw e (go j h)
    where
      r : ℕ → Float
      r l = sum_to env mean l t

      go : (j : ℕ) → j < 8 → get_or (r lag ∷ r (lag + 1) ∷ r (lag + 2) ∷ r (lag + 3) ∷ r (lag + 4) ∷ r (lag + 5) ∷ r (lag + 6) ∷ r (lag + 7) ∷ []) j
          nan ≡ r (lag + j)
      go zero h = ap r (sym (add-zero lag))
      go (suc zero) h = refl
      go (suc (suc zero)) h = refl
      go (suc (suc (suc zero))) h = refl
      go (suc (suc (suc (suc zero)))) h = refl
      go (suc (suc (suc (suc (suc zero))))) h = refl
      go (suc (suc (suc (suc (suc (suc zero)))))) h = refl
      go (suc (suc (suc (suc (suc (suc (suc zero))))))) h = refl
      go (suc (suc (suc (suc (suc (suc (suc (suc j)))))))) h = absurd (omega arith)

  -- a run over m centred times from t + k on, where `later` has the w centred slots from t + lag on: the sums at the lags from lag + g on
  module _ (lag t w g : ℕ) where
    abbrev later : List Float
    later = curve (centred_from env mean (t + lag)) w

    -- eight entries of `later` are the centred slots that stand `lag + g` behind the time t + k
    later_eight : (k : ℕ) → g + k + 8 ≤ w → eight_by (entry later) (g + k) ≡ eight_by (centred env mean) (t + k + (lag + g))
    later_eight k h = eight_ext (entry later) (centred env mean) (g + k) (t + k + (lag + g)) (λ j l. at j l) (first ∙ ap (centred env mean) none)
      where
        at : (j : ℕ) → j < 8 → entry later (g + k + j) ≡ centred env mean (t + k + (lag + g) + j)
        at j l =
            let e : t + lag + (g + k + j) ≡ t + k + (lag + g) + j = omega arith in
            get_or-curve (centred_from env mean (t + lag)) w (g + k + j) nan (omega arith) ∙ ap (centred env mean) e

        first : entry later (g + k) ≡ centred env mean (t + lag + (g + k))
        first = get_or-curve (centred_from env mean (t + lag)) w (g + k) nan (omega arith)

        none : t + lag + (g + k) ≡ t + k + (lag + g)
        none = omega arith

    run_from : (m k : ℕ) → g + k + m + 7 ≤ w
        → eight_run (eight_sums env mean (lag + g) (t + k)) (tab (centred_from env mean t) k m) later (g + k) ≡ eight_sums env mean (lag + g) (t + (k + m))
    unfolding eight_run
    run_from zero k h = ap (λ (n : ℕ). eight_sums env mean (lag + g) (t + n)) (sym (add-zero k))
    run_from (suc m) k h =
        let e : t + k + 1 ≡ t + suc k = omega arith in
        let i : g + k + 1 ≡ g + suc k = omega arith in
        let n : t + (suc k + m) ≡ t + (k + suc m) = omega arith in
        let one : eight_more (eight_sums env mean (lag + g) (t + k)) (centred env mean (t + k)) (eight_by (entry later) (g + k)) ≡ eight_sums env mean
        (lag + g) (t + suc k) =
        ap (eight_more (eight_sums env mean (lag + g) (t + k)) (centred env mean (t + k))) (later_eight k (omega arith))
        ∙ eight_next (lag + g) (t + k) ∙ ap (eight_sums env mean (lag + g)) e in
        ap (λ (s : Eight). eight_run s (tab (centred_from env mean t) (suc k) m) later (g + k + 1)) one
        ∙ ap (eight_run (eight_sums env mean (lag + g) (t + suc k)) (tab (centred_from env mean t) (suc k) m) later) i
        ∙ run_from m (suc k) (omega arith) ∙ ap (eight_sums env mean (lag + g)) n

  -- a run over the m times from t on: from sums over the times below t to those below t + m
  pub run_is : (lag t w m g l : ℕ) (s : Eight) (times later : List Float) → g + m + 7 ≤ w → l ≡ lag + g → s ≡ eight_sums env mean l t
      → times ≡ curve (centred_from env mean t) m → later ≡ curve (centred_from env mean (t + lag)) w
      → eight_run s times later g ≡ eight_sums env mean l (t + m)
  run_is lag t w m g l s times later h e a p q = rw (a, e, p, q) (simp (add-zero, zero-add) at (run_from lag t w g m 0 (omega arith)))

  -- a block of 128 times
  pub block_is : (lag t : ℕ) (s : ThirtyTwo) (times later : List Float) → s ≡ thirty_two_sums env mean lag t
      → times ≡ curve (centred_from env mean t) 128 → later ≡ curve (centred_from env mean (t + lag)) 160
      → thirty_two_run s times later ≡ thirty_two_sums env mean lag (t + 128)
  unfolding thirty_two_sums thirty_two_run
  block_is lag t s times later e p q =
      rw (
        run_is lag t 160 128 0 lag s.a times later (lit≤ tt) (sym (add-zero lag)) (ap (λ (x : ThirtyTwo). x.a) e) p q,
        run_is lag t 160 128 8 (lag + 8) s.b times later (lit≤ tt) refl (ap (λ (x : ThirtyTwo). x.b) e) p q,
        run_is lag t 160 128 16 (lag + 16) s.c times later (lit≤ tt) refl (ap (λ (x : ThirtyTwo). x.c) e) p q,
        run_is lag t 160 128 24 (lag + 24) s.d times later (lit≤ tt) refl (ap (λ (x : ThirtyTwo). x.d) e) p q,
      )

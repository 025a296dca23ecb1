-- The scan of the ranked maxima without a list: it takes first the first that stands apart from the winner, and then the first that
-- stands apart from both. What it passed before the second fails the third's test too, and the second stands not apart from itself.
-- Assumes nothing.
use mathlib.Core.Path.{◌≡◌, refl, sym, ap, ◌∙◌}
use mathlib.Core.Bool.{Bool, true, false, ◌&&◌}
use mathlib.Core.List.{List, [], ◌∷◌}
use Prim.Native.Nat.{ℕ, ◌+◌, ◌*◌, ◌≤◌, ◌<◌}
use native.Mathlib.Omega.{arith}
use borrow.Author.Tests.{eq-eqb, ne_eqb, le-ltb}
use lib.Dec.{eqb}
use lib.ListN.{length}
use lib.Ieee.{Float}
use Rattle.numbers.specs.Rounded.{pick}
use Rattle.numbers.specs.Limits.{most_period}
use Rattle.numbers.proofs.Tests.{pick_true, pick-false}
use Rattle.sizes.specs.Sizes.{Each, none, more}
use Rattle.lags.specs.Pairs.{apart}
use Rattle.lags.proofs.Tenth.{gap, apart-is}
use Rattle.lag_candidates.specs.Candidates.{winner_of, ranked, stands_apart, accepted_of, candidates_of, first_passing}
use Rattle.lag_candidates.proofs.Rankings.{ranked-below}

apart_self : (l : ℕ) → 1 ≤ l → l ≤ most_period → apart l l ≡ false
apart_self l h k = apart-is l l h k k ∙ le-ltb l (10 * gap l l) (omega arith)

-- ---- the scan

module _ (min_lag : ℕ) where
  third : (a b c : ℕ) (is : List ℕ) → accepted_of min_lag (a ∷ b ∷ c ∷ []) is ≡ a ∷ b ∷ c ∷ []
  unfolding accepted_of
  third a b c [] = refl
  third a b c (i ∷ is) = third a b c is

  module _ (n w : ℕ) where
    -- the candidates that follow from the second and the third, each n where there is none
    abbrev ending : ℕ → ℕ → List ℕ
    ending b c = pick (eqb c n) (w ∷ b ∷ []) (w ∷ b ∷ c ∷ [])

    abbrev chosen : ℕ → ℕ → List ℕ
    chosen b c = pick (eqb b n) (w ∷ []) (ending b c)

    abbrev test : ℕ → ℕ → Bool
    test b i = stands_apart min_lag (w ∷ b ∷ []) i

    second : (b : ℕ) (is : List ℕ) → Each (λ i. i < n) is → accepted_of min_lag (w ∷ b ∷ []) is ≡ ending b (first_passing (test b) is n)
    unfolding accepted_of first_passing
    second b [] none = sym (pick_true _ _ _ (eq-eqb n n refl))
    second b (i ∷ is) (more h e) = go (test b i) (first_passing (test b) is n) (second b is e)
      where
        go : (q : Bool) (c : ℕ) → accepted_of min_lag (w ∷ b ∷ []) is ≡ ending b c
            → pick q (accepted_of min_lag (w ∷ b ∷ i ∷ []) is) (accepted_of min_lag (w ∷ b ∷ []) is) ≡ ending b (pick q i c)
        go true c k = third w b i is ∙ sym (pick-false _ _ _ (ne_eqb i n (λ u. omega arith)))
        go false c k = k

    module _ (from : 1 ≤ min_lag) (to : min_lag + n ≤ most_period + 1) where
      self : (i : ℕ) → i < n → apart (min_lag + i) (min_lag + i) ≡ false
      self i h = apart_self (min_lag + i) (omega arith) (omega arith)

      scanned : (is : List ℕ) → Each (λ i. i < n) is
          → accepted_of min_lag (w ∷ []) is ≡ chosen (first_passing (test w) is n) (first_passing (test (first_passing (test w) is n)) is n)
      unfolding accepted_of first_passing stands_apart
      scanned [] none = sym (pick_true _ _ _ (eq-eqb n n refl))
      scanned (i ∷ is) (more h e) = go (apart (min_lag + i) (min_lag + w)) (first_passing (test w) is n) (scanned is e)
        where
          -- q: slot i stands apart from the winner, and then is the second
          go : (q : Bool) (f : ℕ) → accepted_of min_lag (w ∷ []) is ≡ chosen f (first_passing (test f) is n)
              → pick (q && true) (accepted_of min_lag (w ∷ i ∷ []) is) (accepted_of min_lag (w ∷ []) is)
              ≡ chosen (pick (q && (q && true)) i f)
              (pick (q && (apart (min_lag + i) (min_lag + pick (q && (q && true)) i f) && true)) i
              (first_passing (test (pick (q && (q && true)) i f)) is n))
          go true f k = rw (self i h) (second i is e ∙ sym (pick-false _ _ _ (ne_eqb i n (λ u. omega arith))))
          go false f k = k

-- ---- the candidates, by how many there are

module _ (min_lag : ℕ) (ws : List Float) (w : ℕ) (is-w : w ≡ winner_of ws) (from : 1 ≤ min_lag) (to : min_lag + length ws ≤ most_period + 1) where
  -- the first ranked maximum that stands apart from the winner and from slot b
  abbrev apart_from : ℕ → ℕ
  apart_from b = first_passing (stands_apart min_lag (w ∷ b ∷ [])) (ranked ws) (length ws)

  both : candidates_of min_lag ws ≡ chosen min_lag (length ws) w (apart_from w) (apart_from (apart_from w))
  unfolding candidates_of ranked
  both =
      ap (λ (k : ℕ). accepted_of min_lag (k ∷ []) (ranked ws)) (sym is-w)
      ∙ scanned min_lag (length ws) w from to (ranked ws) (ranked-below ws (length ws))

  module _ (b : ℕ) (is_b : b ≡ apart_from w) where
    pub one_candidate : b ≡ length ws → candidates_of min_lag ws ≡ w ∷ []
    one_candidate e = both ∙ pick_true _ _ _ (eq-eqb _ _ (sym is_b ∙ e))

    module _ (some : b ≡ length ws → ⊥) (c : ℕ) (is_c : c ≡ apart_from b) where
      later : candidates_of min_lag ws ≡ ending min_lag (length ws) w b c
      later =
          both
          ∙ ap (λ (k : ℕ). chosen min_lag (length ws) w k (apart_from k)) (sym is_b)
          ∙ ap (chosen min_lag (length ws) w b) (sym is_c)
          ∙ pick-false _ _ _ (ne_eqb _ _ some)

      pub two_candidates : c ≡ length ws → candidates_of min_lag ws ≡ w ∷ b ∷ []
      two_candidates e = later ∙ pick_true _ _ _ (eq-eqb _ _ e)

      pub three_candidates : (c ≡ length ws → ⊥) → candidates_of min_lag ws ≡ w ∷ b ∷ c ∷ []
      three_candidates e = later ∙ pick-false _ _ _ (ne_eqb _ _ e)

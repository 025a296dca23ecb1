-- The gaps of a grid: how many they are, that they join the times of its beats and that none is 0. Assumes nothing.
use mathlib.Core.Path.{◌≡◌, sym, ap, ◌∙◌}
use mathlib.Core.Bool.{Bool, true, false, ◌&&◌}
use mathlib.Core.List.{List}
use Prim.Native.Nat.{ℕ, ◌+◌, ◌-◌, ◌≤◌, ◌<◌}
use native.Mathlib.Omega.{arith}
use lib.ListN.{length, get_or, drop}
use borrow.Author.Tests.{leb-true}
use Rattle.numbers.specs.Limits.{at_most}
use Rattle.numbers.specs.Lists.{every, ascending}
use Rattle.numbers.proofs.Ascents.{ascending_less}
use Rattle.numbers.proofs.Tabs.{length-tab, get_or-curve}
use Rattle.numbers.proofs.Everys.{every-at, every_step}
use Rattle.times.proofs.Times.{rising}
use Rattle.midi_gaps.specs.Gaps.{time_at, gap_at, gaps_of, most_tempo, gaps_fit}

module _ (rate : ℕ) (beats : List ℕ) where
  pub gaps-length : length (gaps_of rate beats) ≡ length beats - 1
  unfolding gaps_of
  gaps-length = length-tab (gap_at rate beats) 0 (length beats - 1)

  pub gap_in_list : (i : ℕ) → i < length beats - 1 → get_or (gaps_of rate beats) i 0 ≡ gap_at rate beats i
  unfolding gaps_of
  gap_in_list i h = get_or-curve (gap_at rate beats) (length beats - 1) i 0 h

  -- a gap of a grid whose gaps all fit
  pub gap_most : gaps_fit rate beats ≡ true → (i : ℕ) → i < length beats - 1 → gap_at rate beats i ≤ most_tempo
  unfolding gaps_fit
  gap_most e i h =
      leb-true (gap_at rate beats i) most_tempo
      (ap (at_most most_tempo) (sym (gap_in_list i h)) ∙ every-at (at_most most_tempo) (gaps_of rate beats) i 0 e (omega (arith, gaps-length)))

module _ (rate : ℕ) (h : 0 < rate) (k : rate ≤ 192000) (beats : List ℕ) (up : ascending 0 beats ≡ true) where
  -- no gap of a grid is 0: two frames lie 1,333 microseconds apart or more
  pub gap_least : (i : ℕ) → i + 1 < length beats → 1333 ≤ gap_at rate beats i
  unfolding gap_at
  gap_least i l =
      let r = rising rate h k (get_or beats i 0) (get_or beats (i + 1) 0) (ascending_less 0 beats i (i + 1) (omega arith) l up) in
      omega arith

  -- the time of a beat and the gap behind it make the time of the next
  pub gap_joins : (i : ℕ) → i + 1 < length beats → time_at rate beats i + gap_at rate beats i ≡ time_at rate beats (i + 1)
  unfolding gap_at
  gap_joins i l =
      let r = rising rate h k (get_or beats i 0) (get_or beats (i + 1) 0) (ascending_less 0 beats i (i + 1) (omega arith) l up) in
      omega arith

-- ---- the test of the gaps that are left, from gap i on
module _ (rate : ℕ) (beats : List ℕ) (i : ℕ) (h : i < length beats - 1) where
  step : every (at_most most_tempo) (drop i (gaps_of rate beats))
      ≡ (at_most most_tempo (gap_at rate beats i) && every (at_most most_tempo) (drop (i + 1) (gaps_of rate beats)))
  step =
      every_step (at_most most_tempo) (gaps_of rate beats) i 0 (omega (arith, gaps-length rate beats))
      ∙ ap (λ (g : ℕ). at_most most_tempo g && every (at_most most_tempo) (drop (i + 1) (gaps_of rate beats))) (gap_in_list rate beats i h)

  pub fit_pass : at_most most_tempo (gap_at rate beats i) ≡ true
      → every (at_most most_tempo) (drop i (gaps_of rate beats)) ≡ every (at_most most_tempo) (drop (i + 1) (gaps_of rate beats))
  fit_pass e = step ∙ ap (λ (t : Bool). t && every (at_most most_tempo) (drop (i + 1) (gaps_of rate beats))) e

  pub fit_fail : at_most most_tempo (gap_at rate beats i) ≡ false → every (at_most most_tempo) (drop i (gaps_of rate beats)) ≡ false
  fit_fail e = step ∙ ap (λ (t : Bool). t && every (at_most most_tempo) (drop (i + 1) (gaps_of rate beats))) e

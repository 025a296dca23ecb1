-- Every chain of an envelope that isn't refused and has beats scores a finite number: up to frame t at most 2 t + 2 times a size that bounds a scaled flux
-- and a penalty alike, as a score slot is. Assumes nothing.
use mathlib.Core.List.{List}
use Prim.Native.Nat.{ℕ, zero, suc, ◌+◌, ◌-◌, ◌*◌, ◌^◌, ◌≤◌, ◌<◌}
use native.Mathlib.Nat.{mul-le-mul_right}
use native.Mathlib.Omega.{arith}
use lib.Dec.{T, lit≤}
use lib.ListN.{length}
use lib.Ieee.{Float, binary64}
use lib.Ieee.Scale.{finite}
use Rattle.numbers.specs.Rounded.{◌⊕◌, nought}
use Rattle.numbers.specs.Limits.{most_rows}
use Rattle.sizes.specs.Sizes.{AtMost, Held}
use Rattle.sizes.proofs.Numbers.{held_multiple}
use Rattle.sizes.proofs.Sizes.{most_weaken, most-finite, nought-most, within_weaken}
use Rattle.beat_links.specs.Extensions.{penalty, Follows}
use Rattle.beats.specs.Envelopes.{scaled}
use Rattle.beats.proofs.ScoreSizes.{flux-within, plus_one, one_plus}
use Rattle.chains.specs.Chains.{frame_at, Chain, score_to, chain_score}
use Rattle.chains.proofs.Slots.{Beating, live, step_within}

module _ (K : ℕ) (held : (i : ℕ) → i ≤ 2 ^ 32 → Held binary64 (i * K)) (period : ℕ) (flux : ℕ → Float) (n : ℕ) (rows : n ≤ most_rows)
    (flux-most : (t : ℕ) → t < n → AtMost K (flux t)) (step-most : (t s : ℕ) → Follows period t s → AtMost K (penalty period (t - s)))
    (frames : List ℕ) (c : Chain period n frames) where
  to-most : (i : ℕ) → i < length frames → AtMost ((2 * frame_at frames i + 2) * K) (score_to period flux frames i)
  unfolding score_to
  to-most zero h =
      let t = frame_at frames 0 in
      most_weaken (mul-le-mul_right K (omega arith)) (one_plus K held 1 (flux t) nought (lit≤ tt) (flux-most t (c.inside 0 h)) nought-most)
  to-most (suc i) h =
      let s = frame_at frames i in
      let t = frame_at frames (suc i) in
      let x = score_to period flux frames i in
      let p = penalty period (t - s) in
      let below = c.inside (suc i) h in
      let rises = c.ascends i h in
      let sum : AtMost (suc (2 * s + 2) * K) (x ⊕ p) =
      plus_one K held (2 * s + 2) x p (omega arith) (to-most i (omega arith)) (step-most t s (c.allowed i h)) in
      most_weaken (mul-le-mul_right K (omega arith)) (one_plus K held (suc (2 * s + 2)) (flux t) (x ⊕ p) (omega arith) (flux-most t below) sum)

pub chain_finite : (envelope : List Float) (period : ℕ) → Beating envelope period → (frames : List ℕ) → Chain period (length envelope) frames
    → T (finite (chain_score period (scaled envelope) frames))
unfolding chain_score
chain_finite envelope period b frames c =
    most-finite
    (to-most (2 ^ 176) (λ i j. held_multiple 32 176 i (lit≤ tt) (lit≤ tt) j) period (scaled envelope) (length envelope) b.rows
    (flux-within envelope period b.fine b.rows (live envelope period b))
    (λ t s w. within_weaken 29 176 (lit≤ tt) (step_within envelope period b t s w))
    frames c (length frames - 1) (omega (arith, c.some)))

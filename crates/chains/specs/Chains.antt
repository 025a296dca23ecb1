-- Request No. 5: what a chain of beats is, what it scores, and what the best of all chains has. `flux` is the scaled flux of a frame, n the number of
-- frames. Of beats and beat_links only the scaled flux, the penalty and the window of a step are named: no link, and nothing of how scores are written or a
-- grid is found.
use Rattle.std.specs.Prelude.{◌≡◌, true, ◌⊎◌, List, ℕ, zero, suc, ◌-◌, ◌*◌, ◌≤◌, ◌<◌, T, length, get_or, Float}
use Rattle.std.specs.Float.{nan}
use Rattle.std.specs.Float.Ieee.{le}
use Rattle.std.specs.Float.Ieee.Scale.{finite}
use Rattle.numbers.specs.Rounded.{◌⊕◌, nought}
use Rattle.beat_links.specs.Extensions.{penalty, half_of, Follows}
use Rattle.beats.specs.Envelopes.{scaled}

-- frame i of a list of frames, counted from 0
abbrev pub frame_at : List ℕ → ℕ → ℕ
frame_at frames i = get_or frames i 0

-- the last of them
abbrev pub last_of : List ℕ → ℕ
last_of frames = frame_at frames (length frames - 1)

-- "A chain is any ascending run of frames whose steps the beat rule allows": one frame or more, each below n and later than the one before, which is
-- an earlier beat of it by document 01's window, "from max(0, t-2P) to max(0, t-half)"
pub record Chain (period n : ℕ) (frames : List ℕ) : Type 0 where
  pub some : 1 ≤ length frames
  pub inside : (i : ℕ) → i < length frames → frame_at frames i < n
  pub ascends : (i : ℕ) → suc i < length frames → frame_at frames i < frame_at frames (suc i)
  pub allowed : (i : ℕ) → suc i < length frames → Follows period (frame_at frames (suc i)) (frame_at frames i)

-- what a chain scores up to its frame i: "a one-frame chain scores its scaled flux plus 0; each further frame scores scaled flux plus the rounded sum
-- of the score before and the penalty, in source order"
unfoldable pub score_to : (period : ℕ) → (ℕ → Float) → List ℕ → ℕ → Float
unfolding penalty
score_to period flux frames zero = flux (frame_at frames 0) ⊕ nought
score_to period flux frames (suc i) =
    let s = frame_at frames i in
    let t = frame_at frames (suc i) in
    flux t ⊕ (score_to period flux frames i ⊕ penalty period (t - s))

-- and all of it
unfoldable pub chain_score : (period : ℕ) → (ℕ → Float) → List ℕ → Float
unfolding score_to
chain_score period flux frames = score_to period flux frames (length frames - 1)

-- "gaps are at least half and at most two periods, except a shorter first gap from frame 0": of gap i, from frame s to frame t, where half is document
-- 01's, (P+1) div 2
pub record GapWithin (period i s t : ℕ) : Type 0 where
  pub most : t - s ≤ 2 * period
  pub least : (half_of period ≤ t - s) ⊎ ((i ≡ 0) × (s ≡ 0))

-- Of an envelope, a period and the score slots that were written: these beats are a chain, their score is the score slot of their last frame, no chain's
-- score exceeds it, no chain that scores as much ends earlier, and their gaps are within half and two periods. Every chain's score is finite, so that no
-- comparison is of a NaN or an infinity.
pub record BestChain (envelope : List Float) (period : ℕ) (score : List Float) (beats : List ℕ) : Type 0 where
  pub is_a_chain : Chain period (length envelope) beats
  pub scores_slot : chain_score period (scaled envelope) beats ≡ get_or score (last_of beats) nan
  pub no_better : (frames : List ℕ) → Chain period (length envelope) frames
      → le (chain_score period (scaled envelope) frames) (chain_score period (scaled envelope) beats) ≡ true
  pub ends_first : (frames : List ℕ) → Chain period (length envelope) frames
      → le (chain_score period (scaled envelope) beats) (chain_score period (scaled envelope) frames) ≡ true → last_of beats ≤ last_of frames
  pub all_finite : (frames : List ℕ) → Chain period (length envelope) frames → T (finite (chain_score period (scaled envelope) frames))
  pub gaps : (i : ℕ) → suc i < length beats → GapWithin period i (frame_at beats i) (frame_at beats (suc i))

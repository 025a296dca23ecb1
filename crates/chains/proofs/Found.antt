-- The grid of an envelope that isn't refused and has beats is the best chain: it is a chain, since each beat's link lies in its window; its score is the slot
-- of its last frame, since each link's extension is what the slot adds; and that slot is the first greatest, above which no chain comes (`chain_below`).
-- Assumes nothing.
use mathlib.Core.Path.{◌≡◌, refl, sym, ap, subst, ◌∙◌}
use mathlib.Core.Bool.{true}
use mathlib.Core.Logic.{inl, inr, ⊎_elim}
use mathlib.Core.List.{List}
use Prim.Native.Nat.{ℕ, zero, suc, ◌-◌, ◌≤◌, ◌<◌}
use native.Mathlib.Omega.{arith}
use lib.ListN.{length}
use lib.Ieee.{Float, le}
use Rattle.numbers.specs.Rounded.{◌⊕◌, nought}
use Rattle.numbers.proofs.Tests.{lt_or_le, true_not_false}
use Rattle.sizes.proofs.Sizes.{most_not_nan}
use Rattle.sizes.proofs.Order.{lt_back, le_then_le}
use Rattle.lists.specs.declared.Best.{Best}
use Rattle.lists.specs.Greatest.{value_at}
use Rattle.lists.proofs.Greatest.{First, first_is}
use Rattle.beat_links.specs.Extensions.{penalty, half_of, Follows, extended, extension}
use Rattle.beat_links.proofs.Extensions.{Linked, unlinks, links-to, linked, follows_below}
use Rattle.beats.specs.Envelopes.{scaled}
use Rattle.beats.specs.Grids.{scores_of, grid_of}
use Rattle.beats.proofs.Steps.{beats_begin, beats_linked, beats_end, beats_rise, beats-below}
use Rattle.chains.specs.Chains.{frame_at, last_of, Chain, score_to, chain_score, GapWithin, BestChain}
use Rattle.chains.proofs.Slots.{Beating, live, slot_is, link_is, slot_within, chain_below}
use Rattle.chains.proofs.Finite.{chain_finite}

-- ---- any chain

-- frame 0 can only be the first
at_zero : (period n : ℕ) (frames : List ℕ) → Chain period n frames → (i : ℕ) → i < length frames → frame_at frames i ≡ 0 → i ≡ 0
at_zero period n frames c zero h e = refl
at_zero period n frames c (suc i) h e = absurd (omega (arith, c.ascends i h))

-- so its window is shorter than half for a first gap alone
pub chain_gaps : (period n : ℕ) (frames : List ℕ) → Chain period n frames → (i : ℕ) → suc i < length frames
    → GapWithin period i (frame_at frames i) (frame_at frames (suc i))
chain_gaps period n frames c i h =
    let s = frame_at frames i in
    let t = frame_at frames (suc i) in
    let w = c.allowed i h in
    record {
      most = omega (arith, w.from);
      least = ⊎_elim
          (λ (k : t < half_of period). let z : s ≡ 0 = omega (arith, w.to) in inr (at_zero period n frames c i (omega arith) z, z))
          (λ (k : half_of period ≤ t). inl (omega (arith, w.to)))
          (lt_or_le t (half_of period));
    }

last-inside : (period n : ℕ) (frames : List ℕ) → Chain period n frames → last_of frames < n
last-inside period n frames c = c.inside (length frames - 1) (omega (arith, c.some))

-- ---- the grid

module _ (envelope : List Float) (period : ℕ) (b : Beating envelope period) where
  abbrev n : ℕ
  n = length envelope

  abbrev flux : ℕ → Float
  flux = scaled envelope

  abbrev slots : List Float
  slots = scores_of envelope period

  abbrev beats : List ℕ
  beats = grid_of envelope period

  abbrev extra : ℕ → Best
  extra t = extension period slots t

  -- the first beat has no link, and so nothing is added
  begins : (extra (frame_at beats 0)).value ≡ nought
  begins = by (linked period slots (frame_at beats 0))
    where
      t : ℕ
      t = frame_at beats 0

      by : Linked period slots t (extra t) → (extra t).value ≡ nought
      by (unlinks e none) = ap (λ (x : Best). x.value) e
      by (links-to u e w above most first) =
          let d = follows_below period t u (live envelope period b).periods w in
          let h = beats-below envelope period 0 b.some in
          absurd (omega (arith, b.rows, h, d, ap (λ (x : Best). x.at) e, link_is envelope period b t h, beats_begin envelope period b.some))

  -- each other beat follows the one before by its link, whose extension is added
  module _ (i : ℕ) (h : suc i < length beats) where
    abbrev s : ℕ
    s = frame_at beats i

    abbrev t : ℕ
    t = frame_at beats (suc i)

    follows : Linked period slots t (extra t) → Follows period t s × ((extra t).value ≡ value_at slots s ⊕ penalty period (t - s))
    unfolding extended
    follows (unlinks e none) =
        absurd (omega (
          arith,
          b.rows,
          beats-below envelope period i (omega arith),
          ap (λ (x : Best). x.at) e,
          link_is envelope period b t (beats-below envelope period (suc i) h),
          beats_linked envelope period i h,
        ))
    follows (links-to u e w above most first) =
        let z : u ≡ s =
        sym (ap (λ (x : Best). x.at) e) ∙ sym (link_is envelope period b t (beats-below envelope period (suc i) h)) ∙ beats_linked envelope period i h in (
          subst (Follows period t) z w,
          ap (λ (x : Best). x.value) e ∙ ap (λ (v : ℕ). value_at slots v ⊕ penalty period (t - v)) z,
        )

    beat_follows : Follows period t s
    beat_follows = (follows (linked period slots t)).0

    beat_adds : (extra t).value ≡ value_at slots s ⊕ penalty period (t - s)
    beat_adds = (follows (linked period slots t)).1

  beats_chain : Chain period n beats
  beats_chain = record { some = b.some; inside = beats-below envelope period; ascends = beats_rise envelope period; allowed = beat_follows }

  -- up to each beat the score is the slot of that beat
  scores_slot : (i : ℕ) → i < length beats → score_to period flux beats i ≡ value_at slots (frame_at beats i)
  unfolding score_to
  scores_slot zero h =
      ap (λ (x : Float). flux (frame_at beats 0) ⊕ x) (sym begins) ∙ sym (slot_is envelope period b (frame_at beats 0) (beats-below envelope period 0 h))
  scores_slot (suc i) h =
      let s = frame_at beats i in
      let t = frame_at beats (suc i) in
      ap (λ (x : Float). flux t ⊕ (x ⊕ penalty period (t - s))) (scores_slot i (omega arith)) ∙ ap (λ (x : Float). flux t ⊕ x) (sym (beat_adds i h))
      ∙ sym (slot_is envelope period b t (beats-below envelope period (suc i) h))

  beats-score : chain_score period flux beats ≡ value_at slots (last_of beats)
  unfolding chain_score
  beats-score = scores_slot (length beats - 1) (omega (arith, b.some))

  -- ---- its last beat

  ends_there : First (value_at slots) n (last_of beats)
  ends_there =
      subst (First (value_at slots) n) (sym (beats_end envelope period (length beats - 1) (omega (arith, b.some))))
      (first_is (value_at slots) n (live envelope period b).frames (λ i h. most_not_nan (slot_within envelope period b i h)))

  chain_slot : (frames : List ℕ) → Chain period n frames → le (chain_score period flux frames) (value_at slots (last_of frames)) ≡ true
  unfolding chain_score
  chain_slot frames c = chain_below envelope period b frames c (length frames - 1) (omega (arith, c.some))

  none-better : (frames : List ℕ) → Chain period n frames → le (chain_score period flux frames) (chain_score period flux beats) ≡ true
  none-better frames c =
      rw beats-score
      (le_then_le (chain_score period flux frames) (value_at slots (last_of frames)) (value_at slots (last_of beats)) (chain_slot frames c)
      (ends_there.most (last_of frames) (last-inside period n frames c)))

  none_earlier : (frames : List ℕ) → Chain period n frames → le (chain_score period flux beats) (chain_score period flux frames) ≡ true
      → last_of beats ≤ last_of frames
  none_earlier frames c as-much =
      let last = value_at slots (last_of beats) in
      let slot = value_at slots (last_of frames) in
      ⊎_elim
      (λ (h : last_of frames < last_of beats).
      true_not_false (le last slot)
      (rw beats-score at (le_then_le (chain_score period flux beats) (chain_score period flux frames) slot as-much (chain_slot frames c)))
      (lt_back slot last (ends_there.before (last_of frames) h)))
      (λ h. h) (lt_or_le (last_of frames) (last_of beats))

  -- all of it
  pub grid_is_best : BestChain envelope period slots beats
  grid_is_best =
      record {
        is_a_chain = beats_chain;
        scores_slot = beats-score;
        no_better = none-better;
        ends_first = none_earlier;
        all_finite = chain_finite envelope period b;
        gaps = chain_gaps period n beats beats_chain;
      }

-- The score slots of an envelope that isn't refused and has beats: each is at least the score of every chain that ends at its frame. Rounded addition keeps
-- the order on both sides, so a chain that has scored at most the slot of a frame scores at most the slot of the next: what it adds is one of the extensions
-- of which that slot has the greatest. Assumes nothing.
use mathlib.Core.Path.{◌≡◌, refl, sym, ap, subst, ◌∙◌}
use mathlib.Core.Bool.{Bool, true, false, not}
use mathlib.Core.List.{List, []}
use Prim.Native.Nat.{ℕ, zero, suc, ◌-◌, ◌≤◌, ◌<◌}
use native.Mathlib.Omega.{arith}
use lib.Dec.{T, lit≤}
use lib.ListN.{length}
use lib.Ieee.{Float, binary64, le, is_nan}
use lib.Ieee.Scale.{finite}
use Rattle.numbers.specs.Rounded.{◌⊕◌, nought, pick}
use Rattle.numbers.specs.Limits.{most_rows, most_period, value_fine}
use Rattle.numbers.specs.Lists.{every}
use Rattle.numbers.proofs.Tests.{pick-false}
use Rattle.sizes.specs.Sizes.{Within}
use Rattle.sizes.proofs.Sizes.{add-within, most-finite, most_not_nan, nought-most, within_weaken}
use Rattle.sizes.proofs.Order.{lt_is_le, not_lt, le_self, le_then_le}
use Rattle.sizes.proofs.Monotone.{add_mono_left, add_mono_right}
use Rattle.lists.specs.declared.Best.{Best}
use Rattle.lists.specs.Greatest.{value_at}
use Rattle.beat_links.specs.Extensions.{penalty, Follows, extended, extension}
use Rattle.beat_links.proofs.Extensions.{Linked, unlinks, links-to, linked, follows_below}
use Rattle.beats.specs.Envelopes.{beatless, scaled}
use Rattle.beats.specs.Scores.{scores, link_of, links}
use Rattle.beats.specs.Grids.{link_at, scores_of, links_of, grid, grid_of}
use Rattle.beats.proofs.Links.{score-at, length-scores, link_at_lem}
use Rattle.beats.proofs.Beatless.{Lively, lively}
use Rattle.beats.proofs.ScoreSizes.{flux-within, penalty-within, score-within}
use Rattle.chains.specs.Chains.{frame_at, Chain, score_to}

-- what an envelope with beats has that was not refused
pub record Beating (envelope : List Float) (period : ℕ) : Type 0 where
  pub fine : every value_fine envelope ≡ true
  pub rows : length envelope ≤ most_rows
  pub long : period ≤ most_period
  pub some : 1 ≤ length (grid_of envelope period)

module _ (envelope : List Float) (period : ℕ) (b : Beating envelope period) where
  abbrev n : ℕ
  n = length envelope

  abbrev flux : ℕ → Float
  flux = scaled envelope

  -- the score slots
  abbrev slots : List Float
  slots = scores_of envelope period

  has_beats : beatless envelope period ≡ false
  unfolding grid_of
  has_beats = go (beatless envelope period) b.some
    where
      go : (flat : Bool) → 1 ≤ length (pick flat [] (grid period flux n)) → flat ≡ false
      go true h = absurd (omega arith)
      go false h = refl

  pub live : Lively envelope period
  live = lively envelope period has_beats

  scores_are : slots ≡ scores period flux n
  unfolding scores_of
  scores_are = pick-false (beatless envelope period) [] (scores period flux n) has_beats

  links_are : links_of envelope period ≡ links period flux n
  unfolding links_of
  links_are = pick-false (beatless envelope period) [] (links period flux n) has_beats

  pub slots_length : length slots ≡ n
  slots_length = ap length scores_are ∙ length-scores period flux n

  -- the best extension of a frame
  abbrev extra : ℕ → Best
  extra t = extension period slots t

  -- "score = scaled flux plus it, or plus 0"
  pub slot_is : (t : ℕ) → t < n → value_at slots t ≡ flux t ⊕ (extra t).value
  slot_is t h = rw scores_are (score-at period flux n t live.periods h)

  -- a frame's link is that of its best extension
  pub link_is : (t : ℕ) → t < n → link_at (links_of envelope period) t ≡ (extra t).at
  unfolding link_of
  link_is t h = rw (links_are, scores_are) (link_at_lem period flux n t h)

  -- ---- sizes

  pub slot_within : (t : ℕ) → t < n → Within 208 (value_at slots t)
  slot_within = score-within envelope period b.fine b.rows b.long has_beats

  pub step_within : (t s : ℕ) → Follows period t s → Within 29 (penalty period (t - s))
  step_within t s w =
      let d = follows_below period t s live.periods w in
      penalty-within period (t - s) live.periods b.long (omega arith) (omega (arith, w.from))

  flux-finite : (t : ℕ) → t < n → T (finite (flux t))
  flux-finite t h = most-finite (flux-within envelope period b.fine b.rows live t h)

  nought_not_nan : T (not (is_nan nought))
  nought_not_nan = most_not_nan (nought-most {N = 0})

  extended_not_nan : (t s : ℕ) → t < n → Follows period t s → T (not (is_nan (extended period slots t s)))
  unfolding extended
  extended_not_nan t s h w =
      let d = follows_below period t s live.periods w in
      most_not_nan (add-within binary64 208 (lit≤ tt) (slot_within s (omega arith)) (within_weaken 29 208 (lit≤ tt) (step_within t s w)))

  -- ---- what a frame adds

  -- at least 0
  extra_above : (t : ℕ) → le nought (extra t).value ≡ true
  extra_above t = by (linked period slots t)
    where
      by : Linked period slots t (extra t) → le nought (extra t).value ≡ true
      by (unlinks e none) = subst (λ (x : Best). le nought x.value ≡ true) (sym e) (le_self nought nought_not_nan)
      by (links-to u e w above most first) = subst (λ (x : Best). le nought x.value ≡ true) (sym e) (lt_is_le nought _ above)

  -- and at least the extension of each earlier beat
  extra_most : (t s : ℕ) → t < n → Follows period t s → le (extended period slots t s) (extra t).value ≡ true
  extra_most t s h w = by (linked period slots t)
    where
      ext : ℕ → Float
      ext = extended period slots t

      by : Linked period slots t (extra t) → le (ext s) (extra t).value ≡ true
      by (unlinks e none) =
          subst (λ (x : Best). le (ext s) x.value ≡ true) (sym e) (not_lt nought (ext s) nought_not_nan (extended_not_nan t s h w) (none s w))
      by (links-to u e v above most first) =
          subst (λ (x : Best). le (ext s) x.value ≡ true) (sym e)
          (not_lt (ext u) (ext s) (extended_not_nan t u h v) (extended_not_nan t s h w) (most s w))

  -- ---- chains

  -- a chain of one frame
  starts : (t : ℕ) → t < n → le (flux t ⊕ nought) (value_at slots t) ≡ true
  starts t h = rw (slot_is t h) (add_mono_right binary64 (flux t) nought (extra t).value (flux-finite t h) (extra_above t))

  -- one frame more
  goes_on : (t s : ℕ) (x : Float) → t < n → Follows period t s → le x (value_at slots s) ≡ true
      → le (flux t ⊕ (x ⊕ penalty period (t - s))) (value_at slots t) ≡ true
  unfolding extended
  goes_on t s x h w k =
      let p = penalty period (t - s) in
      let y = value_at slots s in
      rw (slot_is t h)
      (add_mono_right binary64 (flux t) (x ⊕ p) (extra t).value (flux-finite t h)
      (le_then_le (x ⊕ p) (y ⊕ p) (extra t).value (add_mono_left binary64 x y p (most-finite (step_within t s w)) k) (extra_most t s h w)))

  -- so a chain scores at most the slot of the frame that it has come to
  pub chain_below : (frames : List ℕ) → Chain period n frames → (i : ℕ) → i < length frames
      → le (score_to period flux frames i) (value_at slots (frame_at frames i)) ≡ true
  unfolding score_to
  chain_below frames c zero h = starts (frame_at frames 0) (c.inside 0 h)
  chain_below frames c (suc i) h =
      goes_on (frame_at frames (suc i)) (frame_at frames i) (score_to period flux frames i) (c.inside (suc i) h) (c.allowed i h)
      (chain_below frames c i (omega arith))

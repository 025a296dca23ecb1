-- What the beats of a grid are: strictly ascending frames below N, the first with no link, each other linked to the one before, the last with the
-- first greatest score: of the links of any frames (`Steps`), and of the beats of an envelope.
use mathlib.Core.Path.{◌≡◌, refl, sym, ap, ◌∙◌}
use mathlib.Core.Bool.{Bool, true, false}
use mathlib.Core.Logic.{⊎_elim}
use mathlib.Core.List.{List, [], ◌∷◌, ◌++◌}
use Prim.Native.Nat.{ℕ, zero, suc, ◌+◌, ◌≤◌, ◌<◌}
use native.Mathlib.Nat.{not-suc-le-zero}
use native.Mathlib.Omega.{arith}
use lib.ListN.{length, get_or, length-append, get_or-append}
use lib.Seq.{get_or_at}
use lib.Ieee.{Float}
use Rattle.numbers.specs.Rounded.{pick}
use Rattle.numbers.proofs.Tests.{lt_or_le}
use Rattle.lists.specs.Greatest.{value_at, first_greatest}
use Rattle.beat_links.specs.Extensions.{no_link}
use Rattle.lists.proofs.Greatest.{first_below}
use Rattle.beats.specs.Envelopes.{beatless, scaled}
use Rattle.beats.specs.Scores.{scores, links}
use Rattle.beats.specs.Grids.{link_at, walked, beats_to, grid, scores_of, links_of, grid_of}
use Rattle.beats.specs.Inner.{Descends}
use Rattle.beats.proofs.Links.{links_descend}
use Rattle.beats.proofs.Walks.{ends, alone, after, beats-few}
use Rattle.beats.proofs.Beatless.{lively}

-- the beats xs are steps of the links that end at frame t
pub record Steps (link : ℕ → ℕ) (xs : List ℕ) (t : ℕ) : Type 0 where
  pub some : 1 ≤ length xs
  pub unlinked : link (get_or xs 0 0) ≡ no_link
  pub linked : (i : ℕ) → suc i < length xs → link (get_or xs (suc i) 0) ≡ get_or xs i 0
  pub rises : (i : ℕ) → suc i < length xs → get_or xs i 0 < get_or xs (suc i) 0
  pub last : (i : ℕ) → suc i ≡ length xs → get_or xs i 0 ≡ t
  pub below : (i : ℕ) → i < length xs → get_or xs i 0 ≤ t

-- one beat
one_step : (link : ℕ → ℕ) (t : ℕ) → link t ≡ no_link → Steps link (t ∷ []) t
one_step link t e =
    record {
      some = omega arith;
      unlinked = e;
      linked = λ i h. absurd (omega arith);
      rises = λ i h. absurd (omega arith);
      last = λ i h. let z : i ≡ 0 = omega arith in ap (λ (k : ℕ). get_or (t ∷ []) k 0) z;
      below = λ i h. let z : i ≡ 0 = omega arith in omega (arith, ap (λ (k : ℕ). get_or (t ∷ []) k 0) z);
    }

-- one beat more
module _ (link : ℕ → ℕ) (xs : List ℕ) (t : ℕ) (falls : link t < t) (s : Steps link xs (link t)) where
  early : (i : ℕ) → i < length xs → get_or (xs ++ (t ∷ [])) i 0 ≡ get_or xs i 0
  early i h = get_or-append xs (t ∷ []) 0 i h

  late : (i : ℕ) → i ≡ length xs → get_or (xs ++ (t ∷ [])) i 0 ≡ t
  late i h = get_or_at xs t [] 0 i (sym h)

  longer : length (xs ++ (t ∷ [])) ≡ length xs + 1
  longer = length-append xs (t ∷ [])

  next_step : Steps link (xs ++ (t ∷ [])) t
  next_step =
      record {
        some = omega (arith, longer);
        unlinked = ap link (early 0 s.some) ∙ s.unlinked;
        linked = λ i h. ⊎_elim
            (λ (g : suc i < length xs). ap link (early (suc i) g) ∙ s.linked i g ∙ sym (early i (omega arith)))
            (λ (g : length xs ≤ suc i). let z : suc i ≡ length xs = omega (arith, longer) in ap link (late (suc i) z) ∙ sym (s.last i z)
            ∙ sym (early i (omega arith)))
            (lt_or_le (suc i) (length xs));
        rises = λ i h. ⊎_elim
            (λ (g : suc i < length xs). omega (arith, early (suc i) g, s.rises i g, early i (omega arith)))
            (λ (g : length xs ≤ suc i). let z : suc i ≡ length xs = omega (arith, longer) in omega
            (arith, late (suc i) z, s.last i z, early i (omega arith), falls))
            (lt_or_le (suc i) (length xs));
        last = λ i h. late i (omega (arith, longer));
        below = λ i h. ⊎_elim (λ (g : i < length xs). omega (arith, early i g, s.below i g, falls))
            (λ (g : length xs ≤ i). omega (arith, late i (omega (arith, longer)))) (lt_or_le i (length xs));
      }

walked_steps : (link : ℕ → ℕ) (top : ℕ) → Descends link top → (k t : ℕ) → t ≤ top → t < k → Steps link (walked k link t) t
walked_steps link top down zero t h g = absurd (omega arith)
walked_steps link top down (suc k) t h g =
    ⊎_elim (λ e. rw (alone link k t e) (one_step link t e))
    (λ e. let d = down t h e in rw (after link k t e) (next_step link (walked k link (link t)) t d
    (walked_steps link top down k (link t) (omega (arith, d)) (omega (arith, d)))))
    (ends link t)

pub beats_steps : (link : ℕ → ℕ) (t : ℕ) → Descends link t → Steps link (beats_to link t) t
unfolding beats_to
beats_steps link t down = walked_steps link t down (t + 1) t (omega arith) (omega arith)

-- ---- the grid

module _ (period : ℕ) (flux : ℕ → Float) (n : ℕ) (some : 1 ≤ period) (frames : 1 ≤ n) where
  pub grid_steps : Steps (link_at (links period flux n)) (grid period flux n) (first_greatest (value_at (scores period flux n)) n)
  unfolding grid
  grid_steps = beats_steps (link_at (links period flux n)) (first_greatest (value_at (scores period flux n)) n)
      (links_descend period flux n some _ (first_below (value_at (scores period flux n)) n frames))

  -- every beat is one of the frames
  pub grid-below : (i : ℕ) → i < length (grid period flux n) → get_or (grid period flux n) i 0 < n
  grid-below i h = omega (arith, grid_steps.below i h, first_below (value_at (scores period flux n)) n frames)

  -- and there are no more beats than frames
  pub grid-few : length (grid period flux n) ≤ n
  unfolding grid
  grid-few =
      let ss = scores period flux n in
      let first = first_below (value_at ss) n frames in
      omega (
        arith,
        first,
        beats-few (link_at (links period flux n)) (first_greatest (value_at ss) n)
            (links_descend period flux n some (first_greatest (value_at ss) n) first) (first_greatest (value_at ss) n) (omega arith),
      )

-- ---- the grid of an envelope: what other calls ask of a list of beats

module _ (envelope : List Float) (period : ℕ) where
  -- no scores, links and beats, or the grid's
  by_grid : (P : (score : List Float) (link beats : List ℕ) → Type 0) → P [] [] []
      → (1 ≤ period → 1 ≤ length envelope
      → P (scores period (scaled envelope) (length envelope)) (links period (scaled envelope) (length envelope))
      (grid period (scaled envelope) (length envelope)))
      → P (scores_of envelope period) (links_of envelope period) (grid_of envelope period)
  unfolding scores_of links_of grid_of
  by_grid P none some = go (beatless envelope period) refl
    where
      go : (b : Bool) → beatless envelope period ≡ b
          → P (pick b [] (scores period (scaled envelope) (length envelope))) (pick b [] (links period (scaled envelope) (length envelope)))
          (pick b [] (grid period (scaled envelope) (length envelope)))
      go true e = none
      go false e = let l = lively envelope period e in some l.periods l.frames

  -- where there are beats, they are steps of its links that end at the first greatest of its scores
  pub envelope_steps : 1 ≤ length (grid_of envelope period)
      → Steps (link_at (links_of envelope period)) (grid_of envelope period) (first_greatest (value_at (scores_of envelope period)) (length envelope))
  envelope_steps =
      by_grid (λ score link beats. 1 ≤ length beats → Steps (link_at link) beats (first_greatest (value_at score) (length envelope)))
      (λ h. absurd (not-suc-le-zero h))
      (λ p n h. grid_steps period (scaled envelope) (length envelope) p n)

  -- the first has no link
  pub beats_begin : 1 ≤ length (grid_of envelope period) → link_at (links_of envelope period) (get_or (grid_of envelope period) 0 0) ≡ no_link
  beats_begin h = (envelope_steps h).unlinked

  -- each is the link of the next
  pub beats_linked : (i : ℕ) → suc i < length (grid_of envelope period)
      → link_at (links_of envelope period) (get_or (grid_of envelope period) (suc i) 0) ≡ get_or (grid_of envelope period) i 0
  beats_linked i h = (envelope_steps (omega arith)).linked i h

  -- the last has the first greatest score
  pub beats_end : (i : ℕ) → suc i ≡ length (grid_of envelope period)
      → get_or (grid_of envelope period) i 0 ≡ first_greatest (value_at (scores_of envelope period)) (length envelope)
  beats_end i h = (envelope_steps (omega arith)).last i h

  -- they are strictly ascending
  pub beats_rise : (i : ℕ) → suc i < length (grid_of envelope period) → get_or (grid_of envelope period) i 0 < get_or (grid_of envelope period) (suc i) 0
  beats_rise i h = (envelope_steps (omega arith)).rises i h

  -- frames of the envelope
  pub beats-below : (i : ℕ) → i < length (grid_of envelope period) → get_or (grid_of envelope period) i 0 < length envelope
  beats-below =
      by_grid (λ score link beats. (i : ℕ) → i < length beats → get_or beats i 0 < length envelope) (λ i h. absurd (not-suc-le-zero h))
      (λ p n. grid-below period (scaled envelope) (length envelope) p n)

  -- and no more of them than frames
  pub beats-fit : length (grid_of envelope period) ≤ length envelope
  beats-fit =
      by_grid (λ score link beats. length beats ≤ length envelope) (omega arith)
      (λ p n. grid-few period (scaled envelope) (length envelope) p n)

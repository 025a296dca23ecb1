-- Scores and links: the scores as the solution of their own rule, and the links, which lead back.
use mathlib.Core.Path.{◌≡◌, refl, sym, ap, ◌∙◌}
use mathlib.Core.Logic.{⊎_elim}
use mathlib.Core.List.{List, [], ◌∷◌, ◌++◌}
use Prim.Native.Nat.{ℕ, zero, suc, ◌≤◌, ◌<◌}
use native.Mathlib.Omega.{arith}
use lib.ListN.{length, get_or, length-append, get_or-append}
use lib.Seq.{get_or_at}
use lib.Ieee.{Float, nan}
use Rattle.numbers.specs.Rounded.{◌⊕◌}
use Rattle.numbers.proofs.Tests.{lt_or_le}
use Rattle.numbers.proofs.Tabs.{length-tab, get_or-curve}
use Rattle.lists.specs.declared.Best.{Best}
use Rattle.beat_links.specs.Extensions.{no_link, extension}
use Rattle.beat_links.proofs.Extensions.{extension-same, Linked, unlinks, links-to, linked, follows_below}
use Rattle.beats.specs.Scores.{scores, link_of, links}
use Rattle.beats.specs.Grids.{link_at}
use Rattle.beats.specs.Inner.{Descends}

-- ---- scores

module _ (period : ℕ) (flux : ℕ → Float) where
  -- one more frame
  pub grown : (t : ℕ) → scores period flux (suc t) ≡ scores period flux t ++ ((flux t ⊕ (extension period (scores period flux t) t).value) ∷ [])
  unfolding scores
  grown t = refl

  pub length-scores : (n : ℕ) → length (scores period flux n) ≡ n
  unfolding scores
  length-scores zero = refl
  length-scores (suc t) = simp (grown t, length-append, length-scores t) (omega arith)

  -- a longer list of scores begins with a shorter one
  pub scores_begin : (t n u : ℕ) → t ≤ n → u < t → get_or (scores period flux t) u nan ≡ get_or (scores period flux n) u nan
  scores_begin t zero u h g = absurd (omega arith)
  scores_begin t (suc n) u h g =
      ⊎_elim
      (λ (k : t < suc n).
      scores_begin t n u (omega arith) g
      ∙ sym (get_or-append (scores period flux n) (_ ∷ []) nan u (omega (arith, length-scores n)))
      ∙ ap (λ (l : List Float). get_or l u nan) (sym (grown n)))
      (λ (k : suc n ≤ t). let e : t ≡ suc n = omega arith in ap (λ (m : ℕ). get_or (scores period flux m) u nan) e)
      (lt_or_le t (suc n))

  -- "score = scaled flux plus it, or plus 0"
  pub score-at : (n t : ℕ) → 1 ≤ period → t < n → get_or (scores period flux n) t nan ≡ flux t ⊕ (extension period (scores period flux n) t).value
  score-at n t h g =
      let ss = scores period flux t in
      let v = flux t ⊕ (extension period ss t).value in
      sym (scores_begin (suc t) n t g (omega arith)) ∙ ap (λ (l : List Float). get_or l t nan) (grown t)
      ∙ get_or_at ss v [] nan t (length-scores t)
      ∙ ap (λ (b : Best). flux t ⊕ b.value) (extension-same period ss (scores period flux n) t h (λ u k. scores_begin t n u (omega arith) k))

-- ---- links

-- a link leads to an earlier frame
pub links_fall : (period : ℕ) (ss : List Float) (t : ℕ) → 1 ≤ period → (link_of period ss t ≡ no_link → ⊥) → link_of period ss t < t
unfolding link_of
links_fall period ss t h has = by (linked period ss t)
  where
    by : Linked period ss t (extension period ss t) → (extension period ss t).at < t
    by (unlinks e none) = absurd (has (ap (λ (b : Best). b.at) e))
    by (links-to u e w above most first) = let z = ap (λ (b : Best). b.at) e in omega (arith, z, follows_below period t u h w)

module _ (period : ℕ) (flux : ℕ → Float) (n : ℕ) where
  pub length-links : length (links period flux n) ≡ n
  unfolding links
  length-links = length-tab (link_of period (scores period flux n)) 0 n

  pub link_at_lem : (t : ℕ) → t < n → link_at (links period flux n) t ≡ link_of period (scores period flux n) t
  unfolding links
  link_at_lem t h = get_or-curve (link_of period (scores period flux n)) n t no_link h

  -- so the links of all frames lead back
  pub links_descend : 1 ≤ period → (t : ℕ) → t < n → Descends (link_at (links period flux n)) t
  links_descend some t h u g has =
      let e = link_at_lem u (omega arith) in
      omega (arith, e, links_fall period (scores period flux n) u some (λ z. has (e ∙ z)))

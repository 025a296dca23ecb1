-- `beats::grids::lay_grid` meets its contract. What is read of the lent lists afterwards is what was written there, so that the first greatest
-- score and the links behind it are those of the definition; a link leads to an earlier frame, as the walks ask. Assumes nothing.
use mathlib.Core.Path.{◌≡◌, ap, ◌∙◌}
use mathlib.Core.List.{List}
use Prim.Native.Nat.{ℕ, ◌≤◌, ◌<◌}
use native.Mathlib.Omega.{arith}
use lib.ListN.{length, get_or}
use lib.Ieee.{Float, nan}
use Rattle.numbers.specs.Lists.{listed}
use Rattle.numbers.proofs.Tabs.{get_or_listed_in}
use Rattle.lists.specs.Greatest.{value_at, first_greatest}
use Rattle.beat_links.specs.Extensions.{no_link}
use Rattle.lists.proofs.Greatest.{first_ext}
use Rattle.beats.specs.Scores.{scores, links}
use Rattle.beats.specs.Grids.{link_at, beats_to, grid}
use Rattle.beats.specs.Inner.{Tracked, Descends}
use Rattle.beats.proofs.Links.{length-scores, length-links, links_descend}
use Rattle.beats.proofs.Walks.{beats-same}
use Rattle.beats.proofs.grids.lay_grid.Goals as goal

module _ (period : ℕ) (flux : ℕ → Float) (n : ℕ) (score₀ score : List Float) (back₀ back : List ℕ) (some : 1 ≤ period)
    (w : Tracked period flux n score₀ score back₀ back) where
  value_read : (t : ℕ) → t < n → value_at score t ≡ value_at (scores period flux n) t
  value_read t h = ap (λ (l : List Float). get_or l t nan) w.scores_are
      ∙ get_or_listed_in (scores period flux n) score₀ t nan (omega (arith, length-scores period flux n))

  link-written : (t : ℕ) → t < n → link_at back t ≡ link_at (links period flux n) t
  link-written t h = ap (λ (l : List ℕ). get_or l t no_link) w.links_are
      ∙ get_or_listed_in (links period flux n) back₀ t no_link (omega (arith, length-links period flux n))

  module _ (end : ℕ) (inside : end < n) where
    down : Descends (link_at back) end
    down u h has =
        let e = link-written u (omega arith) in
        omega (arith, e, links_descend period flux n some end inside u h (λ z. has (e ∙ z)))

    -- the beats are the definition's
    walks : end ≡ first_greatest (value_at score) n → beats_to (link_at back) end ≡ grid period flux n
    unfolding grid
    walks e =
        beats-same (link_at back) (link_at (links period flux n)) end (λ u h. link-written u (omega arith)) down end (omega arith)
        ∙ ap (beats_to (link_at (links period flux n))) (e ∙ first_ext (value_at score) (value_at (scores period flux n)) n (omega arith) value_read)

pub count_beats-count-requires : goal.count_beats-count-requires
count_beats-count-requires c =
    let f = c.first_greatest-end in
    let p = c.requires in
    (omega arith, omega arith, down _ _ _ _ _ _ _ p.le_period.0 c.track.ensures f.result f.ensures.0)

pub store_beats-requires : goal.store_beats-requires
store_beats-requires c =
    let f = c.first_greatest-end in
    let p = c.requires in (
      omega arith,
      omega arith,
      omega arith,
      down _ _ _ _ _ _ _ p.le_period.0 c.track.ensures f.result f.ensures.0,
      c.count_beats-count.ensures,
    )

pub returns : goal.returns
returns c =
    let f = c.first_greatest-end in
    let p = c.requires in
    let e = walks _ _ _ _ _ _ _ p.le_period.0 c.track.ensures f.result f.ensures.0 f.ensures.1 in
    record {
      tracked = c.track.ensures;
      count_is = c.count_beats-count.ensures ∙ ap length e;
      beats_are = c.store_beats.ensures ∙ ap
          (λ (l : List ℕ). listed l c.args.beats.now) e;
    }

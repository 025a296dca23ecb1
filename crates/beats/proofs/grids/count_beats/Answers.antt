use mathlib.Core.Path.{◌≡◌, sym, ap, ◌∙◌}
use mathlib.Core.List.{List, [], ◌∷◌}
use Prim.Native.Nat.{ℕ, ◌+◌, ◌≤◌, ◌<◌}
use native.Mathlib.Omega.{arith}
use lib.ListN.{length, get_or, length-append}
use Rattle.beat_links.specs.Extensions.{no_link}
use Rattle.beats.specs.Grids.{link_at, beats_to}
use Rattle.beats.specs.Inner.{Descends}
use Rattle.beats.proofs.Walks.{link_read, beats-after, beats-alone, beats-few}
use Rattle.beats.proofs.grids.count_beats.Goals as goal

-- a frame that has a link
module _ (back : List ℕ) (end t : ℕ) (down : Descends (link_at back) end) (in_List : end < length back) (h : t ≤ end) (has : get_or back t 0 ≡ no_link → ⊥) where
  is : get_or back t 0 ≡ link_at back t
  is = link_read back t (omega arith)

  falls : get_or back t 0 < t
  falls = let d = down t h (λ e. has (is ∙ e)) in omega (arith, d, is)

  longer : length (beats_to (link_at back) t) ≡ length (beats_to (link_at back) (get_or back t 0)) + 1
  longer =
      ap length (beats-after (link_at back) end down t h (λ e. has (is ∙ e))) ∙ length-append (beats_to (link_at back) (link_at back t)) (t ∷ [])
      ∙ ap (λ (k : ℕ). length (beats_to (link_at back) k) + 1) (sym is)

pub loop-t-init : goal.loop-t-init
loop-t-init c = (omega arith, omega arith)

pub overflow_cast-t : goal.overflow_cast-t
overflow_cast-t c =
    let a = c.args in
    let f = falls a.back.now a.end c.loop-t.t c.requires.2 (omega arith) (omega arith) c.loop-t-test.true in
    omega (arith, f)

pub overflow_add-count : goal.overflow_add-count
overflow_add-count c =
    let a = c.args in
    omega (arith, beats-few (link_at a.back.now) a.end c.requires.2 a.end (omega arith), c.loop-t.invariant.1)

pub loop-t-smaller : goal.loop-t-smaller
loop-t-smaller c =
    let a = c.args in
    falls a.back.now a.end c.loop-t.t c.requires.2 (omega arith) (omega arith) c.loop-t-test.true

pub loop-t-preserved : goal.loop-t-preserved
loop-t-preserved c =
    let a = c.args in
    let has = c.loop-t-test.true in
    let f = falls a.back.now a.end c.loop-t.t c.requires.2 (omega arith) (omega arith) has in
    let n = longer a.back.now a.end c.loop-t.t c.requires.2 (omega arith) (omega arith) has in
    (omega (arith, f), omega (arith, n, c.loop-t.invariant.1))

pub returns : goal.returns
returns c =
    let a = c.args in
    let e = sym (link_read a.back.now c.loop-t.t (omega arith)) ∙ c.loop-t-test.false in
    omega (arith, c.loop-t.invariant.1, ap length (beats-alone (link_at a.back.now) c.loop-t.t e))

-- The best extension of a beat: what it reads, and what it is.
use mathlib.Core.Path.{◌≡◌, refl, ap, ◌∙◌}
use mathlib.Core.Bool.{true, false}
use mathlib.Core.List.{List}
use Prim.Native.Nat.{ℕ, zero, suc, ◌+◌, ◌-◌, ◌≤◌, ◌<◌}
use native.Mathlib.Omega.{arith}
use lib.ListN.{get_or}
use lib.Ieee.{Float, nan, lt, le}
use Rattle.numbers.specs.Rounded.{◌⊕◌, nought}
use Rattle.lists.specs.declared.Best.{Best}
use Rattle.lists.specs.Greatest.{greatest}
use Rattle.beat_links.specs.Extensions.{penalty, half_of, first_before, last_before, unlinked, Follows, extended, extension}
use Rattle.lists.proofs.Greatest.{best, greatest_ext, Outcome, kept, found, outcome}

-- "none for t = 0"
pub extension-first : (period : ℕ) (ss : List Float) (t : ℕ) → t ≡ 0 → unlinked ≡ extension period ss t
unfolding extension
extension-first period ss t e = rw e

-- a later frame's earlier beats, by their first and past-last frame
pub extension-later : (period : ℕ) (ss : List Float) (t lo end : ℕ) → 0 < t → lo ≡ first_before period t → end ≡ last_before period t + 1
    → greatest (extended period ss t) lo (end - lo) unlinked ≡ extension period ss t
unfolding extension
extension-later period ss zero lo end h el ee = absurd (omega arith)
extension-later period ss (suc t) lo end h el ee =
    let e : end ≡ suc (last_before period (suc t)) = omega arith in
    ap (λ (k : ℕ). greatest (extended period ss (suc t)) lo (k - lo) unlinked) e
    ∙ ap (λ (k : ℕ). greatest (extended period ss (suc t)) k (suc (last_before period (suc t)) - k) unlinked) el

-- only scores before t matter
pub extension-same : (period : ℕ) (ss ss' : List Float) (t : ℕ) → 1 ≤ period → ((u : ℕ) → u < t → get_or ss u nan ≡ get_or ss' u nan)
    → extension period ss t ≡ extension period ss' t
unfolding extension extended
extension-same period ss ss' zero h same = refl
extension-same period ss ss' (suc t) h same =
    let lo = first_before period (suc t) in
    let hi = last_before period (suc t) in
    let half : 1 ≤ half_of period = omega arith in
    greatest_ext (extended period ss (suc t)) (extended period ss' (suc t)) lo (suc hi - lo) unlinked
    (λ u a b. let inside : u < suc t = omega (arith, half, a, b) in ap (λ (s : Float). s ⊕ penalty period (suc t - u)) (same u inside))

-- no link, or a link to a frame that may be followed, with its extension, which is the first greatest above 0
pub data Linked (period : ℕ) (ss : List Float) (t : ℕ) (b : Best) : Type 0 where
  unlinks : b ≡ unlinked → ((u : ℕ) → Follows period t u → lt nought (extended period ss t u) ≡ false) → Linked period ss t b
  links-to : (u : ℕ) → b ≡ best (extended period ss t u) u → Follows period t u → lt nought (extended period ss t u) ≡ true
      → ((v : ℕ) → Follows period t v → lt (extended period ss t u) (extended period ss t v) ≡ false)
      → ((v : ℕ) → Follows period t v → v < u → le (extended period ss t u) (extended period ss t v) ≡ false) → Linked period ss t b

pub linked : (period : ℕ) (ss : List Float) (t : ℕ) → Linked period ss t (extension period ss t)
unfolding extension
linked period ss zero = unlinks refl (λ u h. absurd (omega (arith, h.later)))
linked period ss (suc t) = by (outcome (extended period ss (suc t)) lo (suc hi - lo) unlinked)
  where
    lo : ℕ
    lo = first_before period (suc t)

    hi : ℕ
    hi = last_before period (suc t)

    by : Outcome (extended period ss (suc t)) lo (suc hi - lo) unlinked (greatest (extended period ss (suc t)) lo (suc hi - lo) unlinked)
        → Linked period ss (suc t) (greatest (extended period ss (suc t)) lo (suc hi - lo) unlinked)
    by (kept e none) = unlinks e (λ u h. none u h.from (omega (arith, h.from, h.to)))
    by (found k e t) =
        links-to k e (record { later = omega arith; from = t.from; to = omega (arith, t.from, t.to) }) t.above
        (λ v h. t.most v h.from (omega (arith, h.from, h.to))) (λ v h g. t.first v h.from g)

-- a frame that may be followed is earlier
pub follows_below : (period t u : ℕ) → 1 ≤ period → Follows period t u → u < t
follows_below period t u h w = let half : 1 ≤ half_of period = omega arith in omega (arith, half, w.later, w.to)

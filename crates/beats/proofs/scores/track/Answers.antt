-- `beats::scores::track` meets its contract: the table that was filled holds the penalties, and an empty one need hold none. Assumes nothing.
use mathlib.Core.Path.{◌≡◌, ap, ◌∙◌}
use mathlib.Core.List.{List}
use Prim.Native.Nat.{ℕ, ◌<◌}
use native.Mathlib.Omega.{arith}
use lib.ListN.{get_or, drop, get_or-append}
use lib.Ieee.{Float, nan}
use Rattle.numbers.specs.Lists.{curve, filled}
use Rattle.numbers.proofs.Tabs.{length-tab, get_or-curve, filled-whole}
use Rattle.beat_links.specs.Inner.{slot_penalty}
use borrow.Author.Rules.{rules}
use Rattle.beats.proofs.scores.track.Goals as goal

filled-holds : (f : ℕ → Float) (d table : List Float) (n k : ℕ) → table ≡ filled f d 0 n → k < n → get_or table k nan ≡ f k
filled-holds f d table n k e h =
    ap (λ (l : List Float). get_or l k nan) (e ∙ filled-whole f d n)
    ∙ get_or-append (curve f n) (drop n d) nan k (omega (arith, length-tab f 0 n)) ∙ get_or-curve f n k nan h

pub track_with-requires : goal.track_with-requires
track_with-requires c =
    record { le_period = search rules; penalties = λ k h g. filled-holds (slot_penalty _) _ _ _ k c.fill_penalties.ensures g }

pub track_with-requires-else-period-le-TABLE_SLOTS : goal.track_with-requires-else-period-le-TABLE_SLOTS
track_with-requires-else-period-le-TABLE_SLOTS c = record { le_period = search rules; penalties = λ k h g. absurd (omega arith) }

-- `rooms::has_room` meets its contract: `&&` answers its right side where its left holds, and else its left. Assumes nothing.
use mathlib.Core.Path.{sym, ◌∙◌}
use Rattle.rooms.proofs.Numbers.{frames_short, lags_short, by_work}
use Rattle.rooms.proofs.has_room.Goals as goal

pub returns-then-all_hold-2 : goal.returns-then-all_hold-2
returns-then-all_hold-2 c = by_work _ _ _ _ (sym c.all_hold.ensures ∙ c.if-all_hold.true)
    (sym c.all_hold-then-all_hold.ensures ∙ c.if-all_hold-2.true)

pub returns-else-all_hold-2 : goal.returns-else-all_hold-2
returns-else-all_hold-2 c = c.all_hold-then-all_hold.ensures ∙ lags_short _ _ _ _ (sym c.all_hold.ensures ∙ c.if-all_hold.true)
    (sym c.all_hold-then-all_hold.ensures ∙ c.if-all_hold-2.false)

pub returns-else-all_hold : goal.returns-else-all_hold
returns-else-all_hold c = c.all_hold.ensures ∙ frames_short _ _ _ _ (sym c.all_hold.ensures ∙ c.if-all_hold.false)

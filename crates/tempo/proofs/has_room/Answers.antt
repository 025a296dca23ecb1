-- `tempo::has_room` meets its contract: the lags are those of the options, as their bounds are fine, and `&&` answers its right side where
-- its left holds, and else its left. Assumes nothing.
use Rattle.tempo.proofs.Refusals.{ranged, room_is, room_of_clarity, room_of_weight, room_of_work}
use borrow.Author.Rules.{rules}
use Rattle.tempo.proofs.has_room.Goals as goal

pub lag_slots-room-requires : goal.lag_slots-room-requires
lag_slots-room-requires c = let r = ranged _ _ _ c.lags_in-range.ensures c.requires in search rules

pub returns-then-room-weight : goal.returns-then-room-weight
returns-then-room-weight c =
    let r = ranged _ _ _ c.lags_in-range.ensures c.requires in
    room_of_work _ _ _ _ _ _ (room_is _ _ _ _ r c.lag_slots-room.ensures) c.if-room-clarity.true c.if-room-weight.true

pub returns-else-room-weight : goal.returns-else-room-weight
returns-else-room-weight c =
    let r = ranged _ _ _ c.lags_in-range.ensures c.requires in
    room_of_weight _ _ _ _ _ _ (room_is _ _ _ _ r c.lag_slots-room.ensures) c.if-room-clarity.true c.if-room-weight.false

pub returns-else-room-clarity : goal.returns-else-room-clarity
returns-else-room-clarity c =
    let r = ranged _ _ _ c.lags_in-range.ensures c.requires in
    room_of_clarity _ _ _ _ _ _ (room_is _ _ _ _ r c.lag_slots-room.ensures) c.if-room-clarity.false

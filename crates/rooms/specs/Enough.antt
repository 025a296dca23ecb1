-- Enough room, and too little, in the words in which the laws on room are stated (proofs/Rooms, and the first theorem of promises' Repaired).
use Rattle.std.specs.Prelude.{◌≤◌, ◌<◌, length}
use Rattle.rooms.specs.Rooms.{RoomSaid, Results, Spare}

-- each slice has at least the slots that a room names
pub record Enough (room : RoomSaid) (r : Results) (s : Spare) : Type 0 where
  pub threshold : room.rows ≤ length r.threshold
  pub onsets : room.rows ≤ length r.onsets
  pub score : room.rows ≤ length r.score
  pub back : room.rows ≤ length r.back
  pub beats : room.rows ≤ length r.beats
  pub downbeats : room.rows ≤ length r.downbeats
  pub clarity : room.lags ≤ length r.clarity
  pub weight : room.lags ≤ length r.weight
  pub window_clarity : room.lags ≤ length s.window_clarity
  pub window_weight : room.lags ≤ length s.window_weight
  pub work : room.sorting ≤ length s.work

-- some slice has fewer
pub data Short (room : RoomSaid) (r : Results) (s : Spare) : Type 0 where
  short_threshold : length r.threshold < room.rows → Short room r s
  short_onsets : length r.onsets < room.rows → Short room r s
  short_score : length r.score < room.rows → Short room r s
  short_back : length r.back < room.rows → Short room r s
  short_beats : length r.beats < room.rows → Short room r s
  short_downbeats : length r.downbeats < room.rows → Short room r s
  short_clarity : length r.clarity < room.lags → Short room r s
  short_weight : length r.weight < room.lags → Short room r s
  short_window_clarity : length s.window_clarity < room.lags → Short room r s
  short_window_weight : length s.window_weight < room.lags → Short room r s
  short_work : length s.work < room.sorting → Short room r s

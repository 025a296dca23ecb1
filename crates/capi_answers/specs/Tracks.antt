-- An answer of `room_of`, or of an analysis, handed over.
use Rattle.std.specs.Prelude.{ℕ, List, Float}
use Rattle.rooms.specs.Rooms.{RoomSaid}
use Rattle.track.specs.Analyses.{AnalysisSaid}
use Rattle.capi_answers.specs.Tempos.{TempoLent, tempo_lent, found_in, bpm_in, clarity_in, candidate_lags_of, saliences_of, ShareLent, share_lent, share_parts}

-- the lent numbers of `ph_room_of`
pub record RoomLent : Type 0 where
  pub rows : ℕ
  pub lags : ℕ
  pub sorting : ℕ

abbrev pub room_lent : (rows lags sorting : ℕ) → RoomLent
room_lent rows lags sorting = record { rows = rows; lags = lags; sorting = sorting }

-- what they hold of an answer
abbrev pub room_parts : RoomSaid → RoomLent
room_parts room = room_lent room.rows room.lags room.sorting

-- the lent numbers of both analyses: those of `ph_estimate` and `ph_stability_of`, and three counts
pub record TrackLent : Type 0 where
  pub onsets : ℕ
  pub tempo : TempoLent
  pub share : ShareLent
  pub beats : ℕ
  pub downbeats : ℕ

abbrev pub track_lent : (onsets found : ℕ) (bpm clarity : Float) (lags : List ℕ) (saliences : List Float) (count steady : ℕ) (fraction : Float)
    (agreeing windows beats downbeats : ℕ) → TrackLent
track_lent onsets found bpm clarity lags saliences count steady fraction agreeing windows beats downbeats =
    record {
      onsets = onsets;
      tempo = tempo_lent found bpm clarity lags saliences count;
      share = share_lent steady fraction agreeing windows;
      beats = beats;
      downbeats = downbeats;
    }

-- what they hold of an answer
abbrev pub track_parts : AnalysisSaid → TrackLent
track_parts a =
    record {
      onsets = a.onsets;
      tempo =
          tempo_lent (found_in a.tempo) (bpm_in a.tempo) (clarity_in a.tempo) (candidate_lags_of a.candidates) (saliences_of a.candidates) a.count;
      share = share_parts a.stability;
      beats = a.beats;
      downbeats = a.downbeats;
    }

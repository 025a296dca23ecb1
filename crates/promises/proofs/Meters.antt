-- What the meter changes (request No. 4): the downbeats, and nothing else that a call answers, writes, refuses or asks room for. Between two meters that
-- are both 1 to 16, or both outside, nothing is refused otherwise; that a meter of 4 is what it was before there were meters: bars/proofs/Meters.
use mathlib.Core.Path.{◌≡◌, ap}
use mathlib.Core.Bool.{Bool, ◌&&◌}
use mathlib.Core.List.{List}
use Prim.Native.Nat.{ℕ}
use lib.ListN.{length}
use lib.Ieee.{Float}
use Rattle.numbers.specs.Limits.{rate_fine}
use Rattle.numbers.specs.Lists.{listed}
use Rattle.options.specs.Options.{with_meter, options_fine}
use Rattle.options.specs.declared.TempoOpts.{TempoOpts}
use Rattle.lags.specs.Lags.{min_lag, max_lag, bounds_fine}
use Rattle.lags.proofs.OpenBounds.{lags_of_bounds}
use Rattle.rooms.specs.Rooms.{Results, analysis_numbers_fine, room_of}
use Rattle.track.specs.Analyses.{AnalysisSaid, estimate_in, period_in, beats_in, downbeats_in, analysis_of, written_in}

-- an analysis with another number of downbeats, and what it leaves with other downbeats
abbrev pub with_downbeat_count : ℕ → AnalysisSaid → AnalysisSaid
with_downbeat_count count a =
    record {
      number = a.number;
      onsets = a.onsets;
      tempo = a.tempo;
      candidates = a.candidates;
      count = a.count;
      stability = a.stability;
      beats = a.beats;
      downbeats = count;
    }

abbrev pub with_downbeats : List ℕ → Results → Results
with_downbeats frames r =
    record {
      threshold = r.threshold;
      onsets = r.onsets;
      clarity = r.clarity;
      weight = r.weight;
      score = r.score;
      back = r.back;
      beats = r.beats;
      downbeats = frames;
    }

module _ (rate : ℕ) (o : TempoOpts) (meter : ℕ) where
  -- number 1, where both meters are judged alike
  pub same-bounds : options_fine (with_meter meter o) ≡ options_fine o → bounds_fine rate (with_meter meter o) ≡ bounds_fine rate o
  unfolding bounds_fine
  same-bounds e = ap (λ (b : Bool). rate_fine rate && b) e

  -- the room
  pub same-room : (rows : ℕ) → options_fine (with_meter meter o) ≡ options_fine o → room_of rows rate (with_meter meter o) ≡ room_of rows rate o
  unfolding room_of analysis_numbers_fine
  same-room rows e = let l = lags_of_bounds rate o meter in rw (same-bounds e, l.0, l.1)

  module _ (env : List Float) where
    pub same_estimate : estimate_in env rate (with_meter meter o) ≡ estimate_in env rate o
    unfolding estimate_in
    same_estimate = let l = lags_of_bounds rate o meter in rw (l.0, l.1)

    pub same_period : period_in env rate (with_meter meter o) ≡ period_in env rate o
    unfolding period_in
    same_period = rw same_estimate

    pub same_beats : beats_in env rate (with_meter meter o) ≡ beats_in env rate o
    unfolding beats_in
    same_beats = rw same_period

    -- the answer, but for how many downbeats there are
    pub same_answer : analysis_of env rate (with_meter meter o) ≡ with_downbeat_count (length (downbeats_in env rate (with_meter meter o))) (analysis_of env rate o)
    unfolding analysis_of
    same_answer = let l = lags_of_bounds rate o meter in rw (same_estimate, same_period, same_beats, l.0, l.1)

    -- and what is written, but for the downbeats
    pub same-written : (was : Results)
        → written_in env rate (with_meter meter o) was
        ≡ with_downbeats (listed (downbeats_in env rate (with_meter meter o)) was.downbeats) (written_in env rate o was)
    unfolding written_in
    same-written was = let l = lags_of_bounds rate o meter in rw (same_period, same_beats, l.0, l.1)

-- Document 01, Onsets, Tempo and candidates, Beats and bars: one whole analysis, as its parts called in turn. What the calls answer,
-- and what they leave in the slices that they are lent.
--
-- To read in this order: `estimate_in`, `period_in`, `beats_in`, `downbeats_in`, each part from those before it (the first, `onsets_in`, stands in
-- crate onsets); `analysis_of`, the answer they make; `written_in`, the results in the lent slices; `open_lags` and `open_work`, what is left open;
-- and `Analysed`, the promise, which is all of these for a number that refuses or does not.
use Rattle.std.specs.Prelude.{ℕ, max, List, ◌≡◌, length, get_or, Float, Result, Ok, Err}
use Rattle.numbers.specs.Refusals.{number, unless_refused}
use Rattle.numbers.specs.declared.Refusal.{Refusal}
use Rattle.numbers.specs.Lists.{filled, listed}
use Rattle.threshold.specs.Threshold.{threshold_at, sorting_room}
use Rattle.options.specs.declared.TempoOpts.{TempoOpts}
use Rattle.lags.specs.Lags.{min_lag, max_lag}
use Rattle.lag_search.specs.Search.{clarity_rule, weight_rule}
use Rattle.tempo.specs.declared.Candidate.{Candidate}
use Rattle.tempo.specs.declared.Tempo.{Tempo}
use Rattle.stability.specs.declared.Stability.{Stability}
use Rattle.track.specs.declared.Analysis.{Analysis}
use Rattle.tempo.specs.Answers.{EstimateSaid, unused, without_tempo, tempo_of, unwritten, curve_of}
use Rattle.numbers.specs.Outcomes.{Open}
use Rattle.stability.specs.Answers.{share_of, without_stability, left_open}
use Rattle.beats.specs.Grids.{scores_of, links_of, grid_of}
use Rattle.bars.specs.Downbeats.{downbeats_of}
use Rattle.rooms.specs.Rooms.{Results, Spare, lags_of}
use Rattle.onsets.specs.Onsets.{onsets_in}

-- ---- the parts in turn

-- the tempo of an envelope and the candidates, by as many onsets as it has
unfoldable pub estimate_in : List Float → (rate : ℕ) → TempoOpts → EstimateSaid
unfolding onsets_in tempo_of min_lag max_lag
estimate_in env rate o = tempo_of env (length (onsets_in env rate)) rate (min_lag rate o) (max_lag rate o)

-- the lag of an estimate's winner, 0 where there is no tempo
abbrev pub winners_lag : EstimateSaid → ℕ
winners_lag e = (get_or e.candidates 0 unused).lag

-- the period of the beats, in frames: the winner's lag. "No tempo: no stability, no beats", as period 0 has none of either
unfoldable pub period_in : List Float → (rate : ℕ) → TempoOpts → ℕ
unfolding estimate_in
period_in env rate o = winners_lag (estimate_in env rate o)

-- the beats at that period, and the downbeats among them, by the options' meter
unfoldable pub beats_in : List Float → (rate : ℕ) → TempoOpts → List ℕ
unfolding grid_of period_in
beats_in env rate o = grid_of env (period_in env rate o)

unfoldable pub downbeats_in : List Float → (rate : ℕ) → TempoOpts → List ℕ
unfolding downbeats_of beats_in
downbeats_in env rate o = downbeats_of env (beats_in env rate o) o.meter

-- ---- the answer

-- what an analysis says: its number, how many onsets, beats and downbeats are listed, the tempo with `count` candidates, and how steady it is
pub record AnalysisSaid : Type 0 where
  pub number : ℕ
  pub onsets : ℕ
  pub tempo : Tempo
  pub candidates : List Candidate
  pub count : ℕ
  pub stability : Stability
  pub beats : ℕ
  pub downbeats : ℕ

unfoldable pub analysis_of : List Float → (rate : ℕ) → TempoOpts → AnalysisSaid
unfolding onsets_in estimate_in share_of min_lag max_lag period_in beats_in downbeats_in
analysis_of env rate o =
    record {
      number = 0;
      onsets = length (onsets_in env rate);
      tempo = (estimate_in env rate o).tempo;
      candidates = (estimate_in env rate o).candidates;
      count = (estimate_in env rate o).count;
      stability = share_of env rate (min_lag rate o) (max_lag rate o) (period_in env rate o);
      beats = length (beats_in env rate o);
      downbeats = length (downbeats_in env rate o);
    }

-- a refusal: the number, and else nothing
abbrev pub without_analysis : ℕ → AnalysisSaid
without_analysis n =
    record {
      number = n;
      onsets = 0;
      tempo = (without_tempo n).tempo;
      candidates = (without_tempo n).candidates;
      count = 0;
      stability = (without_stability n).stability;
      beats = 0;
      downbeats = 0;
    }

-- by its answer: `Ok` is number 0 and its parts, `Err e` the number of e in the table, and else nothing
abbrev pub analysis_said : Result Analysis Refusal → AnalysisSaid
analysis_said (Ok a) =
    record {
      number = 0;
      onsets = a.onsets;
      tempo = a.tempo;
      candidates = a.candidates;
      count = a.count;
      stability = a.stability;
      beats = a.beats;
      downbeats = a.downbeats;
    }
analysis_said (Err e) = without_analysis (number e)

-- ---- the lent slices afterwards

-- the results: curves hold their definitions, lists their entries first, and later slots are as they were
unfoldable pub written_in : List Float → (rate : ℕ) → TempoOpts → Results → Results
unfolding threshold_at onsets_in curve_of unwritten min_lag max_lag scores_of links_of period_in beats_in downbeats_in filled listed
written_in env rate o was =
    let silent = unwritten env (length (onsets_in env rate)) (max_lag rate o) in
    record {
      threshold = filled (threshold_at env) was.threshold 0 (length env);
      onsets = listed (onsets_in env rate) was.onsets;
      clarity = curve_of (clarity_rule env (min_lag rate o)) was.clarity silent (lags_of rate o);
      weight = curve_of (weight_rule env rate (min_lag rate o)) was.weight silent (lags_of rate o);
      score = listed (scores_of env (period_in env rate o)) was.score;
      back = listed (links_of env (period_in env rate o)) was.back;
      beats = listed (beats_in env rate o) was.beats;
      downbeats = listed (downbeats_in env rate o) was.downbeats;
    }

-- how many of the first slots of stability's lag curves are left open
unfoldable pub open_lags : (number : ℕ) → List Float → (rate : ℕ) → TempoOpts → ℕ
unfolding period_in min_lag max_lag left_open
open_lags number env rate o = unless_refused number (left_open (length env) (min_lag rate o) (max_lag rate o) (period_in env rate o)) 0

-- and of the sorting room: "min(21, N) for thresholds", and one a lag where stability searches windows, whichever are more. The tempo asks for
-- room and leaves it as it was.
unfoldable pub open_work : (number : ℕ) → List Float → (rate : ℕ) → TempoOpts → ℕ
unfolding period_in min_lag max_lag left_open
open_work number env rate o =
    unless_refused number (max (sorting_room env) (left_open (length env) (min_lag rate o) (max_lag rate o) (period_in env rate o))) 0

-- The promise of an analysis of `env` with this number: its answer and each result, for every input. What is worked in keeps its length and
-- every slot past those that are left open, which are none where the number refuses, and for stability none where it searches nothing.
pub record Analysed
    (number : ℕ) (env : List Float) (rate : ℕ) (o : TempoOpts) (was : Results) (lent : Spare)
    (answer : AnalysisSaid) (after : Results) (left : Spare) : Type 0 where
  pub answered : answer ≡ unless_refused number (analysis_of env rate o) (without_analysis number)
  pub written : after ≡ unless_refused number (written_in env rate o was) was
  pub window_clarities : Open (open_lags number env rate o) lent.window_clarity left.window_clarity
  pub window_weights : Open (open_lags number env rate o) lent.window_weight left.window_weight
  pub works : Open (open_work number env rate o) lent.work left.work

-- Document 01, "The reporting program": "Lines list frames or lags with one space between, or `none`, and stability as agreeing/windows." The lines
-- of an answer over the slices that it was written to.
use Rattle.std.specs.Prelude.{ℕ, ◌≤◌, ◌<◌, ◌≡◌, List, map, length, get_or, take}
use Rattle.numbers.specs.Limits.{most_period}
use Rattle.stability.specs.Answers.{agreeing_in, windows_in}
use Rattle.tempo.specs.declared.Candidate.{Candidate}
use Rattle.track.specs.Analyses.{AnalysisSaid}
use Rattle.report.specs.Input.{most_reported}
use Rattle.report_text.specs.Text.{report_text, report_room, most_candidates}

-- the lags of candidates
abbrev pub candidate_lags : List Candidate → List ℕ
candidate_lags candidates = map (λ (c : Candidate). c.lag) candidates

-- bytes for the longest text: a list of onsets, of beats and of downbeats with an entry for each row
abbrev pub text_room : ℕ
text_room = report_room most_reported most_reported most_reported

-- the lines of an answer whose lists the slices hold first
abbrev pub lines_of : AnalysisSaid → (onsets beats downbeats : List ℕ) → List ℕ
lines_of a onsets beats downbeats =
    report_text (take a.onsets onsets) (take a.count (candidate_lags a.candidates)) (take a.beats beats) (take a.downbeats downbeats)
    (agreeing_in a.stability) (windows_in a.stability)

-- no lag of three candidates is longer than a period, whatever stands for one that is not there
abbrev pub LagsFit : List Candidate → Type 0
LagsFit candidates = (i : ℕ) (z : Candidate) → i < most_candidates → (get_or candidates i z).lag ≤ most_period

-- the slices have as many entries as the answer says, and each number is one that the text has room for
pub record Listable (a : AnalysisSaid) (onsets beats downbeats : List ℕ) : Type 0 where
  pub heard : a.onsets ≤ length onsets
  pub laid : a.beats ≤ length beats
  pub barred : a.downbeats ≤ length downbeats
  pub onset_lists : length onsets ≡ most_reported
  pub beat_lists : length beats ≡ most_reported
  pub downbeat_lists : length downbeats ≡ most_reported
  pub few : a.count ≤ most_candidates
  pub lags : LagsFit a.candidates
  pub agreeing : agreeing_in a.stability ≤ 4
  pub windows : windows_in a.stability ≤ 4

-- An answer of `lag_range`, `estimate` or `stability_of`, handed over.
use Rattle.std.specs.Prelude.{ℕ, List, [], ◌∷◌, get_or, Float}
use Rattle.std.specs.Float.{nan}
use Rattle.numbers.specs.Rounded.{nought}
use Rattle.stability.specs.Answers.{agreeing_in, windows_in}
use Rattle.lags.specs.Lags.{LagsSaid}
use Rattle.tempo.specs.declared.Candidate.{Candidate}
use Rattle.tempo.specs.declared.Tempo.{Tempo}
use Rattle.tempo.specs.declared.Tempo.TheVariants.{None, Found}
use Rattle.tempo.specs.Answers.{EstimateSaid}
use Rattle.stability.specs.declared.Stability as steady
use Rattle.stability.specs.declared.Stability.TheVariants as steady_case

-- ---- lags

-- the two lent numbers of `ph_lag_range`
pub record LagsLent : Type 0 where
  pub min : ℕ
  pub max : ℕ

abbrev pub lags_lent : (min max : ℕ) → LagsLent
lags_lent min max = record { min = min; max = max }

-- what they hold of an answer
abbrev pub lag_parts : LagsSaid → LagsLent
lag_parts range = lags_lent range.min_lag range.max_lag

-- ---- tempo

-- each case's kind, 0 for no tempo and 1 for a tempo, and its values, +0 without one
abbrev pub found_in : Tempo → ℕ
found_in None = 0
found_in (Found bpm clarity) = 1

abbrev pub bpm_in : Tempo → Float
bpm_in None = nought
bpm_in (Found bpm clarity) = bpm

abbrev pub clarity_in : Tempo → Float
clarity_in None = nought
clarity_in (Found bpm clarity) = clarity

-- candidate i of an answer's three
abbrev pub candidate_of : List Candidate → ℕ → Candidate
candidate_of candidates i = get_or candidates i (record { lag = 0; salience = nan })

-- the lags of the three, and their saliences
abbrev pub candidate_lags_of : List Candidate → List ℕ
candidate_lags_of candidates = (candidate_of candidates 0).lag ∷ (candidate_of candidates 1).lag ∷ (candidate_of candidates 2).lag ∷ []

abbrev pub saliences_of : List Candidate → List Float
saliences_of candidates =
    (candidate_of candidates 0).salience ∷ (candidate_of candidates 1).salience ∷ (candidate_of candidates 2).salience ∷ []

-- the lent numbers of `ph_estimate`
pub record TempoLent : Type 0 where
  pub found : ℕ
  pub bpm : Float
  pub clarity : Float
  pub lags : List ℕ
  pub saliences : List Float
  pub count : ℕ

abbrev pub tempo_lent : (found : ℕ) (bpm clarity : Float) (lags : List ℕ) (saliences : List Float) (count : ℕ) → TempoLent
tempo_lent found bpm clarity lags saliences count =
    record { found = found; bpm = bpm; clarity = clarity; lags = lags; saliences = saliences; count = count }

-- what they hold of an answer
abbrev pub tempo_parts : EstimateSaid → TempoLent
tempo_parts e =
    tempo_lent (found_in e.tempo) (bpm_in e.tempo) (clarity_in e.tempo) (candidate_lags_of e.candidates) (saliences_of e.candidates) e.count

-- ---- stability

-- each case's kind, 0 for no stability and 1 for one, and its values, zeros without one
abbrev pub steady_in : steady.Stability → ℕ
steady_in steady_case.None = 0
steady_in (steady_case.Share fraction agreeing windows) = 1

abbrev pub fraction_in : steady.Stability → Float
fraction_in steady_case.None = nought
fraction_in (steady_case.Share fraction agreeing windows) = fraction

-- the lent numbers of `ph_stability_of`
pub record ShareLent : Type 0 where
  pub found : ℕ
  pub fraction : Float
  pub agreeing : ℕ
  pub windows : ℕ

abbrev pub share_lent : (found : ℕ) (fraction : Float) (agreeing windows : ℕ) → ShareLent
share_lent found fraction agreeing windows = record { found = found; fraction = fraction; agreeing = agreeing; windows = windows }

-- what they hold of an answer
abbrev pub share_parts : steady.Stability → ShareLent
share_parts s = share_lent (steady_in s) (fraction_in s) (agreeing_in s) (windows_in s)

-- What the whole analysis leaves, from what its parts leave. Assumes nothing.
use mathlib.Core.Path.{◌≡◌, refl, sym, ap, ◌∙◌, subst}
use mathlib.Core.List.{List, [], ◌∷◌}
use Prim.Native.Nat.{ℕ, ◌≤◌, max}
use native.Mathlib.Omega.{arith}
use lib.ListN.{length, drop, get_or}
use lib.Ieee.{Float}
use Rattle.std.specs.Prelude.{Result, Ok, Err, IsOk, IsErrAnd}
use Rattle.numbers.specs.Limits.{most_period}
use Rattle.numbers.specs.Refusals as Refusals
use Rattle.numbers.specs.declared.Refusal.{Refusal}
use Rattle.numbers.proofs.Tests.{refused_keeps, passed_does}
use Rattle.numbers.proofs.Outcomes.{number-not_0, drop-later, open_same}
use Rattle.threshold.specs.Threshold.{sorting_room}
use Rattle.options.specs.declared.TempoOpts.{TempoOpts}
use Rattle.lags.specs.Lags.{min_lag, max_lag}
use Rattle.tempo.specs.declared.Candidate.{Candidate}
use Rattle.tempo.specs.declared.TempoEstimate.{TempoEstimate}
use Rattle.tempo.specs.Answers.{EstimateSaid, estimate_said, unused, search_refusal, tempo_of, unwritten, estimate_of, EstimatePromise}
use Rattle.tempo.proofs.Promises.{told-number, winner-most}
use Rattle.stability.specs.declared.Stability.{Stability}
use Rattle.numbers.specs.Outcomes.{Open}
use Rattle.onsets.specs.Steps.{OnsetsListed}
use Rattle.onsets.specs.Onsets.{onsets_in}
use Rattle.stability.specs.Answers.{share_of, left_open}
use Rattle.beats.specs.Grids.{grid_of}
use Rattle.bars.specs.Downbeats.{downbeats_of}
use Rattle.rooms.specs.Rooms.{Results, Spare, results, spare}
use Rattle.rooms.specs.Inner.{Ready}
use Rattle.track_parts.specs.declared.Following.{Following}
use Rattle.track_parts.specs.Inner.{Followed}
use Rattle.track_parts.proofs.Follows.{search_passed}
use Rattle.track.specs.declared.Analysis.{Analysis}
use Rattle.track.specs.Analyses.{
  AnalysisSaid,
  estimate_in,
  winners_lag,
  period_in,
  beats_in,
  downbeats_in,
  analysis_of,
  without_analysis,
  analysis_said,
  written_in,
  open_lags,
  open_work,
  Analysed,
}

-- ---- the winner

-- the lag of a list's first candidate, whatever stands for one that is not there
pub first_lag : (cs : List Candidate) (y z : Candidate) → y.lag ≡ z.lag → (get_or cs 0 y).lag ≡ (get_or cs 0 z).lag
first_lag [] y z e = e
first_lag (x ∷ cs) y z e = refl

-- an answer whose number is 0 is an Ok
found-ok : (r : Result TempoEstimate Refusal) → (estimate_said r).number ≡ 0 → IsOk r
found-ok (Ok e) z = refl
found-ok (Err x) z = absurd (number-not_0 x z)

-- ---- the whole

abbrev analysis_by : (onsets : ℕ) → EstimateSaid → Stability → (beats downbeats : ℕ) → AnalysisSaid
analysis_by onsets e s beats downbeats =
    record { number = 0; onsets = onsets; tempo = e.tempo; candidates = e.candidates; count = e.count; stability = s; beats = beats; downbeats = downbeats }

module _
    (env : List Float) (rate : ℕ) (o : TempoOpts)
    (threshold : List Float) (onsets : List ℕ) (clarity weight score : List Float) (back beats downbeats : List ℕ)
    (window_clarity window_weight work : List Float)
    (ready : Ready env rate o (results threshold onsets clarity weight score back beats downbeats) (spare window_clarity window_weight work))
    (heard : ℕ) (threshold' : List Float) (onsets' : List ℕ) (work₁ : List Float)
    (list : OnsetsListed env rate threshold onsets work heard threshold' onsets' work₁)
    (found : EstimateSaid) (clarity' weight' work₂ : List Float)
    (tempo : EstimatePromise env heard rate o clarity weight work₁ found clarity' weight' work₂) where
  searched : search_refusal env rate o (length clarity) (length weight) (length work₁) ≡ 0
  searched =
      search_passed env rate o ready.rows ready.bounds ready.values (length clarity) (length weight) (length work₁) ready.clarities ready.weights
      (omega (arith, ready.lag_works, list.works.same_length))

  found_is : found ≡ estimate_in env rate o
  unfolding estimate_of estimate_in
  found_is =
      tempo.answered ∙ passed_does _ _ _ searched ∙ ap (λ (k : ℕ). tempo_of env k rate (min_lag rate o) (max_lag rate o)) list.count_is

  -- nothing is refused
  pub estimate-ok : (r : Result TempoEstimate Refusal) → found ≡ estimate_said r → IsOk r
  unfolding estimate_of
  estimate-ok r e =
      found-ok r (
      ap (λ (x : EstimateSaid). x.number) (sym e ∙ tempo.answered ∙ passed_does _ _ _ searched)
      ∙ told-number env heard rate (min_lag rate o) (max_lag rate o)
      )

  -- the lag is a period
  pub lag_most : (lag : ℕ) → lag ≡ winners_lag found → lag ≤ most_period
  lag_most lag e = omega (arith, ap winners_lag tempo.answered, winner-most env heard rate o (length clarity) (length weight) (length work₁) unused)

  -- work is as long as it was
  pub work_long : length work₂ ≡ length work
  work_long = ap length tempo.unsorted ∙ list.works.same_length

  module _
      (lag : ℕ) (first : lag ≡ winners_lag found)
      (r : Following) (window_clarity' window_weight' score' : List Float) (back' beats' downbeats' : List ℕ) (work' : List Float)
      (after : Followed env rate o lag window_clarity window_weight score back beats downbeats work₂ r window_clarity' window_weight' score' back' beats'
      downbeats' work') where
    lag_is : lag ≡ period_in env rate o
    unfolding period_in
    lag_is = first ∙ ap winners_lag found_is

    answer_is : analysis_by heard found r.stability r.beats r.downbeats ≡ analysis_of env rate o
    unfolding analysis_of beats_in downbeats_in
    answer_is =
        let s : r.stability ≡ share_of env rate (min_lag rate o) (max_lag rate o) (period_in env rate o) =
        after.steady ∙ ap (share_of env rate (min_lag rate o) (max_lag rate o)) lag_is in
        let b : r.beats ≡ length (grid_of env (period_in env rate o)) = after.laid.beat_count ∙ ap (λ (k : ℕ). length (grid_of env k)) lag_is in
        let d : r.downbeats ≡ length (downbeats_of env (grid_of env (period_in env rate o)) o.meter) = after.laid.downbeat_count
        ∙ ap (λ (k : ℕ). length (downbeats_of env (grid_of env k) o.meter)) lag_is in
        rw (list.count_is, found_is, s, b, d) refl

    results_are : results threshold' onsets' clarity' weight' score' back' beats' downbeats' ≡ written_in env rate o
        (results threshold onsets clarity weight score back beats downbeats)
    unfolding written_in beats_in downbeats_in
    results_are =
        let silent : unwritten env heard (max_lag rate o) ≡ unwritten env (length (onsets_in env rate)) (max_lag rate o) =
        ap (λ (k : ℕ). unwritten env k (max_lag rate o)) list.count_is in
        let c = tempo.clarities ∙ passed_does _ _ _ searched in
        let w = tempo.weights ∙ passed_does _ _ _ searched in
        rw (
          list.threshold_is,
          list.onsets_are,
          c,
          w,
          silent,
          after.laid.score_is,
          after.laid.back_is,
          after.laid.beats_are,
          after.laid.downbeats_are,
          lag_is,
        ) refl

    open_lags_lem : (xs ys : List Float) → Open (left_open (length env) (min_lag rate o) (max_lag rate o) lag) xs ys → Open (open_lags 0 env rate o) xs ys
    unfolding open_lags
    open_lags_lem xs ys p = rw lag_is at p

    -- thresholds are sorted in the first slots, the tempo writes none, and stability's windows write the priors in theirs: past both, work is as it was
    work-kept : drop (open_work 0 env rate o) work' ≡ drop (open_work 0 env rate o) work
    unfolding open_work
    work-kept =
        let n = left_open (length env) (min_lag rate o) (max_lag rate o) (period_in env rate o) in
        let m = max (sorting_room env) n in
        let searched-in : drop n work' ≡ drop n work₂ = rw lag_is at after.works.kept in
        drop-later n m work' work₂ (omega arith) searched-in ∙ ap (drop m) tempo.unsorted
        ∙ drop-later (sorting_room env) m work₁ work (omega arith) list.works.kept

    pub analysed_by : Analysed 0 env rate o (results threshold onsets clarity weight score back beats downbeats) (spare window_clarity window_weight work)
        (analysis_by heard found r.stability r.beats r.downbeats)
        (results threshold' onsets' clarity' weight' score' back' beats' downbeats') (spare window_clarity' window_weight' work')
    analysed_by =
        record {
          answered = answer_is;
          written = results_are;
          window_clarities = open_lags_lem _ _ after.clarities;
          window_weights = open_lags_lem _ _ after.weights;
          works = record { same_length = after.works.same_length ∙ work_long; kept = work-kept };
        }

-- ---- refused or not

module _ (number : ℕ) (env : List Float) (rate : ℕ) (o : TempoOpts) (was : Results) (lent : Spare) where
  -- a refusal that `?` hands on: e is what refused
  pub analysed_refused : (r : Result Analysis Refusal) (e : Refusal) → IsErrAnd r (λ (x : Refusal). x ≡ e) → Refusals.number e ≡ number
      → Analysed number env rate o was lent (analysis_said r) was lent
  analysed_refused (Ok a) e h is = absurd h
  analysed_refused (Err x) e h is =
      let same : Refusals.number x ≡ number = ap Refusals.number h ∙ is in
      let left : number ≡ 0 → ⊥ = λ z. number-not_0 x (same ∙ z) in
      record {
        answered = ap without_analysis same ∙ sym (refused_keeps number (analysis_of env rate o) (without_analysis number) left);
        written = sym (refused_keeps number (written_in env rate o was) was left);
        window_clarities = open_same _ _;
        window_weights = open_same _ _;
        works = open_same _ _;
      }

  pub analysed_passed : (answer : AnalysisSaid) (after : Results) (left : Spare) → number ≡ 0 → Analysed 0 env rate o was lent answer after left
      → Analysed number env rate o was lent answer after left
  analysed_passed answer after left z a = subst (λ (j : ℕ). Analysed j env rate o was lent answer after left) (sym z) a

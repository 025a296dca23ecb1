-- An analysis that nothing refuses, as lines: over the slices that it leaves, the lines of its answer are the report of its flux, and each of its
-- numbers is one that the text has room for. Assumes nothing.
use mathlib.Core.Path.{◌≡◌, refl, sym, ap, ◌∙◌, subst}
use mathlib.Core.Bool.{Bool, true, false, ◌||◌}
use mathlib.Core.Logic.{⊎_elim}
use mathlib.Core.List.{List}
use Prim.Native.Nat.{ℕ, ◌≤◌, ◌<◌}
use native.Mathlib.Omega.{arith}
use borrow.Author.Tests.{le-leb}
use lib.Dec.{leb, ltb, eqb}
use lib.ListN.{length, take, drop, length-append, length-drop}
use lib.Seq.{take-append_seam}
use lib.Ieee.{Float, add, mul, div, lt, le, of_bits, of_int}
use Rattle.std.specs.Prelude.{Result, Ok, Err, IsOk}
use Rattle.numbers.specs.declared.Refusal.{Refusal}
use Rattle.numbers.specs.Rounded.{◌⊘◌, real, pick}
use Rattle.numbers.specs.Limits.{most_rows, value_fine}
use Rattle.numbers.specs.Lists.{every, listed}
use Rattle.numbers.proofs.Outcomes.{number-not_0}
use Rattle.numbers.proofs.Tests.{and_both, lowest_0, passed_does, lt_or_le}
use Rattle.options.specs.declared.TempoOpts.{TempoOpts}
use Rattle.options.specs.Options.{default_options, options_fine}
use Rattle.lags.specs.Lags.{min_lag, max_lag, bounds_fine}
use Rattle.lags.proofs.Ranges.{range_of_lem}
use Rattle.tempo.specs.declared.Candidate.{Candidate}
use Rattle.tempo.specs.Answers.{search_refusal, estimate_of}
use Rattle.tempo.proofs.Promises.{Kept, kept}
use Rattle.stability.specs.declared.Stability.TheVariants.{None, Share}
use Rattle.stability.specs.Windows.{windows_of, agreeing_to}
use Rattle.stability.specs.Answers.{share_of, agreeing_in, windows_in}
use Rattle.stability.proofs.Promises.{windows-most, agreeing-most}
use Rattle.rooms.specs.Rooms.{RoomSaid, Results, Spare, frame_slots, lag_slots, lags_of, analysis_numbers_fine, room_of, suffices, envelope_refusal, envelope_number}
use Rattle.onsets.specs.Onsets.{onsets_in}
use Rattle.track.specs.declared.Analysis.{Analysis}
use Rattle.track.specs.Analyses.{AnalysisSaid, analysis_said, estimate_in, period_in, beats_in, downbeats_in, analysis_of, written_in}
use Rattle.analysis.specs.Analyses.{EnvelopePromise}
use Rattle.rooms.proofs.Numbers.{in_bounds, by_bounds, room-inside}
use Rattle.rooms.specs.Enough.{Enough}
use Rattle.rooms.proofs.Rooms.{enough_suffices}
use Rattle.report.specs.Input.{most_reported}
use Rattle.report_text.specs.Text.{report_text}
use Rattle.report_lines.specs.Lines.{lines_of, LagsFit, Listable}
use Rattle.report_answer.specs.Reports.{report_rate, lags_in, report_of}
use Rattle.report_answer.specs.Inner.{CurvesLent, ListsLent}

-- ---- entries that are listed

module _ {A : Type 0} (xs d : List A) where
  listed-first : take (length xs) (listed xs d) ≡ xs
  unfolding listed
  listed-first = take-append_seam xs (drop (length xs) d)

  -- a list that kept its length had room for them
  listed-fits : (ys : List A) → ys ≡ listed xs d → length ys ≡ length d → length xs ≤ length ys
  unfolding listed
  listed-fits ys e l = omega (arith, ap length e, length-append xs (drop (length xs) d), length-drop (length xs) d)

-- ---- the numbers of an analysis

share_small : (b : Bool) (x : Float) (agreeing windows : ℕ) → agreeing ≤ windows → windows ≤ 4
    → (agreeing_in (pick b None (Share x agreeing windows)) ≤ 4) × (windows_in (pick b None (Share x agreeing windows)) ≤ 4)
share_small true x agreeing windows h k = (omega arith, omega arith)
share_small false x agreeing windows h k = (omega arith, omega arith)

shares_small : (env : List Float) (rate least most whole : ℕ) → (agreeing_in (share_of env rate least most whole) ≤ 4)
    × (windows_in (share_of env rate least most whole) ≤ 4)
unfolding share_of
shares_small env rate least most whole =
    let w = windows_of (length env) most in
    let agreeing = agreeing_to env rate least most whole w w in
    share_small (eqb whole 0 || ltb w 2) (real agreeing ⊘ real w) agreeing w (agreeing-most env rate least most whole w w) (windows-most (length env) most)

module _ (env : List Float) (rate : ℕ) (o : TempoOpts) (few : length env ≤ most_rows) (bounds : bounds_fine rate o ≡ true)
    (fine : every value_fine env ≡ true) where
  search_passed : search_refusal env rate o (lags_of rate o) (lags_of rate o) (lags_of rate o) ≡ 0
  unfolding search_refusal
  search_passed =
      let w = le-leb (lags_of rate o) (lags_of rate o) (omega arith) in
      lowest_0 _ true _ (every value_fine env) (and_both (leb (length env) most_rows) _ (le-leb _ _ few) bounds) refl (and_both _ _ w (and_both _ _ w w)) fine

  estimate_kept : Kept (min_lag rate o) (max_lag rate o) (estimate_in env rate o)
  unfolding estimate_in estimate_of
  estimate_kept =
      rw (passed_does (search_refusal env rate o (lags_of rate o) (lags_of rate o) (lags_of rate o)) (estimate_in env rate o) _ search_passed) at
      (kept env (length (onsets_in env rate)) rate o (lags_of rate o) (lags_of rate o) (lags_of rate o))

  lags-fit : LagsFit (estimate_in env rate o).candidates
  lags-fit i z h =
      ⊎_elim
      (λ (p : i < (estimate_in env rate o).count). omega (arith, (estimate_kept.used i z p).1, (range_of_lem rate o bounds).most-max))
      (λ (p : (estimate_in env rate o).count ≤ i). omega (arith, ap (λ (x : Candidate). x.lag) (estimate_kept.rest i z p h)))
      (lt_or_le i (estimate_in env rate o).count)

  module _ (r : Results) (onsets beats downbeats : List ℕ)
      (o-are : onsets ≡ (written_in env rate o r).onsets) (b-are : beats ≡ (written_in env rate o r).beats)
      (d-are : downbeats ≡ (written_in env rate o r).downbeats) where
    answer_lines : lines_of (analysis_of env rate o) onsets beats downbeats
        ≡ report_text (onsets_in env rate) (lags_in (estimate_in env rate o)) (beats_in env rate o) (downbeats_in env rate o)
        (agreeing_in (analysis_of env rate o).stability) (windows_in (analysis_of env rate o).stability)
    unfolding analysis_of written_in
    answer_lines =
        rw (
          o-are,
          b-are,
          d-are,
          listed-first (onsets_in env rate) r.onsets,
          listed-first (beats_in env rate o) r.beats,
          listed-first (downbeats_in env rate o) r.downbeats,
        ) refl

    answer_listable : length onsets ≡ length r.onsets → length beats ≡ length r.beats → length downbeats ≡ length r.downbeats
        → length r.onsets ≡ most_reported → length r.beats ≡ most_reported → length r.downbeats ≡ most_reported
        → Listable (analysis_of env rate o) onsets beats downbeats
    unfolding analysis_of written_in
    answer_listable p q s x y z =
        let small = shares_small env rate (min_lag rate o) (max_lag rate o) (period_in env rate o) in
        record {
          heard = listed-fits (onsets_in env rate) r.onsets onsets o-are p;
          laid = listed-fits (beats_in env rate o) r.beats beats b-are q;
          barred = listed-fits (downbeats_in env rate o) r.downbeats downbeats d-are s;
          onset_lists = p ∙ x;
          beat_lists = q ∙ y;
          downbeat_lists = s ∙ z;
          few = estimate_kept.few;
          lags = lags-fit;
          agreeing = small.0;
          windows = small.1;
        }

-- ---- at rate 48,000 and the defaults

bounds : bounds_fine report_rate default_options ≡ true
unfolding bounds_fine options_fine
bounds = refl

lag_slots_lem : lags_of report_rate default_options ≡ 338
unfolding min_lag max_lag of_int of_bits div mul add lt le
lag_slots_lem = refl

module _ (env : List Float) (r : Results) (s : Spare) (answer : AnalysisSaid) (after : Results) (left : Spare) (o : TempoOpts)
    (told : EnvelopePromise env report_rate o r s answer after left) (is : o ≡ default_options)
    (few : length env ≤ most_reported) (fine : every value_fine env ≡ true)
    (curves : CurvesLent r.threshold r.clarity r.weight s.window_clarity s.window_weight r.score s.work)
    (lists : ListsLent r.onsets r.back r.beats r.downbeats) where
  enough : Enough (in_bounds (length env) report_rate default_options) r s
  enough =
      record {
        threshold = omega (arith, curves.thresholds);
        onsets = omega (arith, lists.onset_lists);
        score = omega (arith, curves.scores);
        back = omega (arith, lists.links);
        beats = omega (arith, lists.beat_lists);
        downbeats = omega (arith, lists.downbeat_lists);
        clarity = omega (arith, curves.clarities, lag_slots_lem);
        weight = omega (arith, curves.weights, lag_slots_lem);
        window_clarity = omega (arith, curves.window_clarities, lag_slots_lem);
        window_weight = omega (arith, curves.window_weights, lag_slots_lem);
        work = omega (arith, curves.works, lag_slots_lem);
      }

  not_refused : envelope_number env report_rate default_options r s ≡ 0
  unfolding envelope_refusal
  not_refused =
      let n = by_bounds (length env) report_rate default_options (omega arith) ∙ bounds in
      let q = enough_suffices (in_bounds (length env) report_rate default_options) r s enough in
      lowest_0 (analysis_numbers_fine (length env) report_rate default_options) true
      (suffices (room_of (length env) report_rate default_options) (frame_slots r) (lag_slots r s) (length s.work)) (every value_fine env)
      n refl
      (ap (λ (x : RoomSaid). suffices x (frame_slots r) (lag_slots r s) (length s.work)) (room-inside (length env) report_rate default_options n) ∙ q)
      fine

  done : EnvelopePromise env report_rate default_options r s answer after left
  done = subst (λ (x : TempoOpts). EnvelopePromise env report_rate x r s answer after left) is told

  answer_is : answer ≡ analysis_of env report_rate default_options
  answer_is = done.answered ∙ passed_does _ _ _ not_refused

  -- nothing refuses it
  pub analysis-ok : (said : Result Analysis Refusal) → answer ≡ analysis_said said → IsOk said
  unfolding analysis_of
  analysis-ok (Ok a) e = refl
  analysis-ok (Err k) e = absurd (number-not_0 k (ap (λ (a : AnalysisSaid). a.number) (sym e ∙ answer_is)))

  after_is : after ≡ written_in env report_rate default_options r
  after_is = done.written ∙ passed_does _ _ _ not_refused

  onsets_are : after.onsets ≡ (written_in env report_rate default_options r).onsets
  onsets_are = ap (λ (x : Results). x.onsets) after_is

  beats_are : after.beats ≡ (written_in env report_rate default_options r).beats
  beats_are = ap (λ (x : Results). x.beats) after_is

  downbeats_are : after.downbeats ≡ (written_in env report_rate default_options r).downbeats
  downbeats_are = ap (λ (x : Results). x.downbeats) after_is

  -- the lines of the answer are the report
  pub lines_are : lines_of answer after.onsets after.beats after.downbeats ≡ report_of env
  unfolding report_of analysis_of
  lines_are =
      ap (λ (a : AnalysisSaid). lines_of a after.onsets after.beats after.downbeats) answer_is
      ∙ answer_lines env report_rate default_options (omega arith) bounds fine r after.onsets after.beats after.downbeats onsets_are beats_are
      downbeats_are

  -- and the text has room for them
  pub listable : length after.onsets ≡ length r.onsets → length after.beats ≡ length r.beats
      → length after.downbeats ≡ length r.downbeats → Listable answer after.onsets after.beats after.downbeats
  listable p q t =
      rw answer_is
      (answer_listable env report_rate default_options (omega arith) bounds fine r after.onsets after.beats
      after.downbeats onsets_are beats_are downbeats_are p q t lists.onset_lists lists.beat_lists lists.downbeat_lists)

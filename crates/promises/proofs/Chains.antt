-- The editors' question: could a grid have scored higher? It could not (request No. 5). What a chain of beats is and what it scores stands in
-- chains/specs/Chains, apart from how a grid is found; here it is said of the calls, by their promises. The grid is the first `count` entries of the lent
-- beats, its frames are those of the envelope, and a flux is scaled as document 01 scales it. Assumes nothing.
use mathlib.Core.List.{List}
use mathlib.Core.Path.{◌≡◌, sym, ap, ◌∙◌}
use mathlib.Core.Bool.{true, false}
use Prim.Native.Nat.{ℕ, suc, ◌-◌, ◌≤◌, ◌<◌}
use native.Mathlib.Omega.{arith}
use borrow.Author.Tests.{leb-true}
use lib.Dec.{T, leb}
use lib.ListN.{length, get_or, take}
use lib.Ieee.{Float, nan, lt, le}
use lib.Ieee.Scale.{finite}
use Rattle.numbers.specs.Limits.{most_rows, most_period, value_fine}
use Rattle.numbers.specs.Lists.{listed, every}
use Rattle.numbers.specs.Outcomes.{Listing}
use Rattle.numbers.specs.declared.Slab.{Slab}
use Rattle.numbers.proofs.Tests.{and_left, and_right, lowest-zero, passed_does}
use Rattle.numbers.proofs.Tabs.{get_or_listed_in, listed-first, filled-first}
use Rattle.sizes.proofs.Order.{le_back}
use Rattle.beats.specs.Envelopes.{scaled}
use Rattle.beats.specs.Grids.{grid_numbers_fine, grid_room_fine, grid_refusal, scores_of, grid_of, GridPromise}
use Rattle.chains.specs.Chains.{frame_at, last_of, Chain, chain_score, GapWithin, BestChain}
use Rattle.chains.proofs.Slots.{Beating, slots_length}
use Rattle.chains.proofs.Found.{grid_is_best}
use Rattle.flux.specs.Flux.{flux_at}
use Rattle.options.specs.declared.TempoOpts.{TempoOpts}
use Rattle.lags.specs.Lags.{min_lag, max_lag}
use Rattle.tempo.specs.Answers.{unused, tempo_of, estimate_of}
use Rattle.tempo.proofs.Promises.{winner-most}
use Rattle.onsets.specs.Onsets.{onsets_in}
use Rattle.rooms.specs.Rooms.{Results, Spare, envelope_number, magnitudes_number}
use Rattle.rooms.specs.Inner.{Ready}
use Rattle.rooms.proofs.Rooms.{ready_of}
use Rattle.track_parts.proofs.Follows.{search_passed}
use Rattle.track.specs.Analyses.{AnalysisSaid, estimate_in, winners_lag, period_in, beats_in, analysis_of, written_in}
use Rattle.analysis.specs.Analyses.{EnvelopePromise, MagnitudesPromise}
use Rattle.analysis.proofs.Promises.{flux_is_the_envelope}
use Rattle.promises.proofs.FullRuns.{answered-number, full_run_number}

-- what is listed and written of a grid with beats has what the grid has
as_written : (envelope : List Float) (period : ℕ) (score₀ : List Float) (beats₀ : List ℕ) → Beating envelope period
    → BestChain envelope period (listed (scores_of envelope period) score₀)
    (take (length (grid_of envelope period)) (listed (grid_of envelope period) beats₀))
as_written envelope period score₀ beats₀ b =
    let best = grid_is_best envelope period b in
    let beats = grid_of envelope period in
    let last = best.is_a_chain.inside (length beats - 1) (omega (arith, b.some)) in
    let slot = get_or_listed_in (scores_of envelope period) score₀ (last_of beats) nan (omega (arith, last, slots_length envelope period b)) in
    rw (listed-first beats beats₀)
    record {
      is_a_chain = best.is_a_chain;
      scores_slot = best.scores_slot ∙ sym slot;
      no_better = best.no_better;
      ends_first = best.ends_first;
      all_finite = best.all_finite;
      gaps = best.gaps;
    }

-- ---- `beat_grid`

module _
    {envelope : List Float} {period : ℕ} {score₀ : List Float} {back₀ beats₀ : List ℕ} {r : Listing} {score : List Float} {back beats : List ℕ}
    (g : GridPromise envelope period score₀ back₀ beats₀ r score back beats) (accepted : r.number ≡ 0) (some : 0 < r.count) where
  -- the beats that are listed
  abbrev grid : List ℕ
  grid = take r.count beats

  none : grid_refusal envelope period (length score₀) (length back₀) (length beats₀) ≡ 0
  none = sym g.number_is ∙ accepted

  count_is : r.count ≡ length (grid_of envelope period)
  count_is = g.count_is ∙ passed_does _ (length (grid_of envelope period)) 0 none

  known : Beating envelope period
  unfolding grid_refusal grid_numbers_fine
  known =
      let rows = leb (length envelope) most_rows in
      let long = leb period most_period in
      let p = lowest-zero (grid_numbers_fine envelope period) true (grid_room_fine envelope (length score₀) (length back₀) (length beats₀))
      (every value_fine envelope) none in
      record {
        fine = p.values;
        rows = leb-true (length envelope) most_rows (and_left rows long p.bounds);
        long = leb-true period most_period (and_right rows long p.bounds);
        some = omega (arith, count_is);
      }

  -- all of the below at once
  pub grid_is_the_best : BestChain envelope period score grid
  grid_is_the_best =
      let s = g.score_is ∙ passed_does _ (listed (scores_of envelope period) score₀) score₀ none in
      let b = g.beats_are ∙ passed_does _ (listed (grid_of envelope period) beats₀) beats₀ none in
      rw (count_is, s, b) (as_written envelope period score₀ beats₀ known)

  -- the grid is a chain
  pub grid_is_a_chain : Chain period (length envelope) grid
  grid_is_a_chain = grid_is_the_best.is_a_chain

  -- its score is what the call wrote into the score slot of its last frame
  pub grid-scores : chain_score period (scaled envelope) grid ≡ get_or score (last_of grid) nan
  grid-scores = grid_is_the_best.scores_slot

  -- "no chain's score exceeds that of the grid found": each is at most it, so that neither is a NaN
  pub no_better_chain : (frames : List ℕ) → Chain period (length envelope) frames
      → le (chain_score period (scaled envelope) frames) (chain_score period (scaled envelope) grid) ≡ true
  no_better_chain = grid_is_the_best.no_better

  -- in the request's word
  pub none_exceeds : (frames : List ℕ) → Chain period (length envelope) frames
      → lt (chain_score period (scaled envelope) grid) (chain_score period (scaled envelope) frames) ≡ false
  none_exceeds frames c = le_back (chain_score period (scaled envelope) frames) (chain_score period (scaled envelope) grid) (no_better_chain frames c)

  -- and every chain's score is finite, the grid's too
  pub chain_scores_finite : (frames : List ℕ) → Chain period (length envelope) frames → T (finite (chain_score period (scaled envelope) frames))
  chain_scores_finite = grid_is_the_best.all_finite

  -- "the grid ends at the first frame with that score": no chain that scores as much ends earlier
  pub ends_first : (frames : List ℕ) → Chain period (length envelope) frames
      → le (chain_score period (scaled envelope) grid) (chain_score period (scaled envelope) frames) ≡ true → last_of grid ≤ last_of frames
  ends_first = grid_is_the_best.ends_first

  -- "Its gaps are at least half and at most two periods, except a shorter first gap from frame 0"
  pub gaps-within : (i : ℕ) → suc i < length grid → GapWithin period i (frame_at grid i) (frame_at grid (suc i))
  gaps-within = grid_is_the_best.gaps

-- ---- the whole analyses: the beats that they list, with their own flux and the lag of their first candidate as the period

-- the period of an analysis that isn't refused is one that `beat_grid` takes
period_most : (env : List Float) (rate : ℕ) (o : TempoOpts) (r : Results) (s : Spare) → Ready env rate o r s → period_in env rate o ≤ most_period
unfolding period_in estimate_in estimate_of
period_most env rate o r s ready =
    let clarity = length r.clarity in
    let weight = length r.weight in
    let work = length s.work in
    let heard = length (onsets_in env rate) in
    let none = search_passed env rate o ready.rows ready.bounds ready.values clarity weight work
    ready.clarities ready.weights ready.lag_works in
    let e : estimate_of env heard rate o clarity weight work ≡ tempo_of env heard rate (min_lag rate o) (max_lag rate o) = passed_does _ _ _ none in
    omega (arith, ap winners_lag e, winner-most env heard rate o clarity weight work unused)

-- `analyse_envelope`
pub analysis_is_the_best : {env : List Float} {rate : ℕ} {o : TempoOpts} {was : Results} {lent : Spare} {answer : AnalysisSaid} {after : Results} {left : Spare}
    → EnvelopePromise env rate o was lent answer after left → answer.number ≡ 0 → 0 < answer.beats
    → BestChain env (get_or answer.candidates 0 unused).lag after.score (take answer.beats after.beats)
unfolding analysis_of written_in period_in beats_in
analysis_is_the_best {env} {rate} {o} {was} {lent} {answer} {after} p accepted some =
    let period = period_in env rate o in
    let none : envelope_number env rate o was lent ≡ 0 = sym (answered-number _ env rate o answer p.answered) ∙ accepted in
    let ready = ready_of env rate o was lent none in
    let a : answer ≡ analysis_of env rate o = p.answered ∙ passed_does _ _ _ none in
    let w : after ≡ written_in env rate o was = p.written ∙ passed_does _ (written_in env rate o was) was none in
    let n : answer.beats ≡ length (grid_of env period) = ap (λ (x : AnalysisSaid). x.beats) a in
    let b : Beating env period =
    record { fine = ready.values; rows = ready.rows; long = period_most env rate o was lent ready; some = omega (arith, n) } in
    rw (a, w) (as_written env period was.score was.beats b)

-- `analyse_magnitudes`: the flux that it leaves
pub analysis_of_magnitudes_is_the_best : {magnitudes : List Float} {slab : Slab} {rate : ℕ} {o : TempoOpts} {flux : List Float} {was : Results} {lent : Spare}
    {answer : AnalysisSaid} {flux' : List Float} {after : Results} {left : Spare}
    → MagnitudesPromise magnitudes slab rate o flux was lent answer flux' after left → answer.number ≡ 0 → 0 < answer.beats
    → BestChain (take slab.rows flux') (get_or answer.candidates 0 unused).lag after.score (take answer.beats after.beats)
analysis_of_magnitudes_is_the_best {magnitudes} {slab} {rate} {o} {flux} {was} {lent} p accepted some =
    let none : magnitudes_number magnitudes slab rate o flux was lent ≡ 0 = sym (full_run_number magnitudes slab rate o flux was lent p) ∙ accepted in
    let f = ap (take slab.rows) (p.fluxes ∙ passed_does _ _ _ none) ∙ filled-first (flux_at magnitudes slab) flux slab.rows in
    rw f (analysis_is_the_best (flux_is_the_envelope magnitudes slab rate o flux was lent none p) accepted some)

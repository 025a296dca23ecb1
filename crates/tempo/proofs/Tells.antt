-- What an accepted call answers and leaves, by whether the envelope is searched and whether the search finds a lag. Assumes nothing.
use mathlib.Core.Path.{◌≡◌, refl, sym, ap, ◌∙◌}
use mathlib.Core.Logic.{⊎_elim}
use mathlib.Core.Bool.{Bool, true, false, ◌||◌}
use mathlib.Core.List.{List}
use Prim.Native.Nat.{ℕ, ◌+◌, ◌-◌, ◌≤◌, ◌<◌}
use native.Mathlib.Omega.{arith}
use borrow.Author.Tests.{leb-false}
use lib.Dec.{ltb}
use lib.ListN.{length, take, drop}
use lib.Ieee.{Float}
use Rattle.std.specs.Prelude.{Result, Ok, Err, IsErrAnd}
use Rattle.numbers.specs.Rounded.{pick}
use Rattle.numbers.specs.Limits.{most_period}
use Rattle.numbers.specs.Refusals as Refusals
use Rattle.numbers.specs.declared.Refusal.{Refusal}
use Rattle.numbers.specs.Lists.{filled}
use Rattle.numbers.proofs.Tests.{which, or_right, pick_true, pick-false, refused_keeps, passed_does}
use Rattle.numbers.proofs.Tabs.{length-tab}
use Rattle.numbers.proofs.Outcomes.{number-not_0}
use Rattle.options.specs.declared.TempoOpts.{TempoOpts}
use Rattle.lags.specs.declared.LagRange.{LagRange}
use Rattle.lags.specs.Lags.{min_lag, max_lag, lag_room}
use Rattle.lag_candidates.specs.Candidates.{winner_of}
use Rattle.lag_search.specs.Search.{flat, clarity_rule, weight_rule, clarity_curve, weight_curve, winner_above, winner_lag, winning_lag, Searched}
use Rattle.tempo.specs.declared.TempoEstimate.{TempoEstimate}
use Rattle.tempo.specs.Answers.{EstimateSaid, estimate_said, without_tempo, found_of, too_little, unwritten, tempo_of, curve_of, search_refusal, estimate_of, EstimatePromise}
use Rattle.tempo.specs.Inner.{TempoIn}
use Rattle.lag_candidates.proofs.Winners.{winner-below}
use Rattle.tempo.proofs.Refusals.{Ranged}
use Rattle.lag_search.proofs.Searches.{curve_part}

-- an envelope that is searched is longer than each lag
pub long_enough : (n onsets max_lag : ℕ) → too_little n onsets max_lag ≡ false → max_lag + 1 < n
unfolding too_little
long_enough n onsets max_lag e = leb-false n (max_lag + 1) (or_right (ltb onsets 2) _ (or_right (ltb n 3) _ e))

module _ (env : List Float) (onsets rate min_lag max_lag : ℕ) where
  abbrev weights : List Float
  weights = weight_curve env rate min_lag max_lag

  abbrev room : ℕ
  room = lag_room min_lag max_lag

  -- ---- an envelope that is not searched

  pub told_unsearched : (clarity weight : List Float) (r : EstimateSaid) → too_little (length env) onsets max_lag ≡ true → r ≡ without_tempo 0
      → TempoIn env onsets rate min_lag max_lag clarity weight r clarity weight
  unfolding tempo_of curve_of
  told_unsearched clarity weight r e is =
      let u : unwritten env onsets max_lag ≡ true = ap (λ (b : Bool). b || flat env) e in
      record {
        answered = is ∙ sym (pick_true (unwritten env onsets max_lag) _ _ u);
        clarities = sym (pick_true (unwritten env onsets max_lag) _ _ u);
        weights = sym (pick_true (unwritten env onsets max_lag) _ _ u);
      }

  -- ---- one that is

  module _ (clarity weight : List Float) (lag : ℕ) (clarity' weight' : List Float)
      (searched : Searched env rate min_lag max_lag clarity weight lag clarity' weight') (long : too_little (length env) onsets max_lag ≡ false) where
    written_is : unwritten env onsets max_lag ≡ flat env
    unfolding unwritten
    written_is = ap (λ (b : Bool). b || flat env) long

    clarities_are : clarity' ≡ curve_of (clarity_rule env min_lag) clarity (unwritten env onsets max_lag) room
    unfolding curve_of
    clarities_are = searched.clarities ∙ ap (λ (b : Bool). pick b clarity (filled (clarity_rule env min_lag) clarity 0 room)) (sym written_is)

    weights_are : weight' ≡ curve_of (weight_rule env rate min_lag) weight (unwritten env onsets max_lag) room
    unfolding curve_of
    weights_are = searched.weights ∙ ap (λ (b : Bool). pick b weight (filled (weight_rule env rate min_lag) weight 0 room)) (sym written_is)

    -- no lag: the envelope is flat, or its winner isn't above 0
    no_lag : 1 ≤ min_lag → lag ≡ 0 → flat env ≡ false → winner_above weights ≡ true → ⊥
    unfolding winning_lag
    no_lag h z f a =
        let e : lag ≡ min_lag + winner_of weights = searched.winner ∙ pick-false (flat env) _ _ f ∙ pick_true (winner_above weights) _ _ a in
        omega arith

    none_is : 1 ≤ min_lag → lag ≡ 0 → tempo_of env onsets rate min_lag max_lag ≡ without_tempo 0
    unfolding tempo_of
    none_is h z =
        ⊎_elim
        (λ (f : flat env ≡ true). pick_true (unwritten env onsets max_lag) _ _ (written_is ∙ f))
        (λ (f : flat env ≡ false).
        pick-false (unwritten env onsets max_lag) _ _ (written_is ∙ f)
        ∙ ⊎_elim (λ (a : winner_above weights ≡ true). absurd (no_lag h z f a))
        (λ (a : winner_above weights ≡ false). pick-false (winner_above weights) _ _ a) (which (winner_above weights)))
        (which (flat env))

    pub told_none : (r : EstimateSaid) → 1 ≤ min_lag → lag ≡ 0 → r ≡ without_tempo 0 → TempoIn env onsets rate min_lag max_lag clarity weight r clarity' weight'
    told_none r h z is = record { answered = is ∙ sym (none_is h z); clarities = clarities_are; weights = weights_are }

    -- a lag
    module _ (some : lag ≡ 0 → ⊥) where
      not-flat : flat env ≡ false
      unfolding winning_lag
      not-flat =
          ⊎_elim (λ (f : flat env ≡ true). absurd (some (searched.winner ∙ pick_true (flat env) _ _ f))) (λ (f : flat env ≡ false). f) (which (flat env))

      lag_of : lag ≡ winner_lag min_lag weights
      unfolding winning_lag
      lag_of = searched.winner ∙ pick-false (flat env) _ _ not-flat

      above : winner_above weights ≡ true
      unfolding winner_lag
      above =
          ⊎_elim (λ (a : winner_above weights ≡ true). a) (λ (a : winner_above weights ≡ false). absurd (some (lag_of ∙ pick-false (winner_above weights) _ _ a)))
          (which (winner_above weights))

      pub lag_is : lag ≡ min_lag + winner_of weights
      unfolding winner_lag
      lag_is = lag_of ∙ pick_true (winner_above weights) _ _ above

      found_is : tempo_of env onsets rate min_lag max_lag ≡ found_of rate min_lag (clarity_curve env min_lag max_lag) weights
      unfolding tempo_of
      found_is = pick-false (unwritten env onsets max_lag) _ _ (written_is ∙ not-flat) ∙ pick_true (winner_above weights) _ _ above

      module _ (k : ℕ) (e : k ≡ room) where
        -- the parts that are lent
        abbrev clarity_part : List Float
        clarity_part = take (k - 0) (drop 0 clarity')

        abbrev weight_part : List Float
        weight_part = take (k - 0) (drop 0 weight')

        clarity_part_lem : clarity_part ≡ clarity_curve env min_lag max_lag
        clarity_part_lem =
            ap (λ (m : ℕ). take (m - 0) (drop 0 clarity')) e
            ∙ curve_part (clarity_rule env min_lag) clarity clarity' room (searched.clarities ∙ pick-false (flat env) _ _ not-flat)

        weight_part_lem : weight_part ≡ weights
        weight_part_lem =
            ap (λ (m : ℕ). take (m - 0) (drop 0 weight')) e
            ∙ curve_part (weight_rule env rate min_lag) weight weight' room (searched.weights ∙ pick-false (flat env) _ _ not-flat)

        clarity-length : length clarity_part ≡ room
        clarity-length = ap length clarity_part_lem ∙ length-tab (clarity_rule env min_lag) 0 room

        weight-length : length weight_part ≡ room
        weight-length = ap length weight_part_lem ∙ length-tab (weight_rule env rate min_lag) 0 room

        -- what `found` asks for
        pub found_asks : 1 ≤ min_lag → min_lag ≤ max_lag → max_lag ≤ most_period
            → ((lag - min_lag ≡ winner_of weight_part) × (lag - min_lag < length weight_part) × (length clarity_part ≡ length weight_part))
            × ((1 ≤ min_lag) × (min_lag + length weight_part ≤ most_period + 1))
        found_asks one h l =
            let is : lag - min_lag ≡ winner_of weights = omega (arith, lag_is) in
            let slot : winner_of weights < length weights = winner-below weights (omega (arith, length-tab (weight_rule env rate min_lag) 0 room)) in (
              (is ∙ ap winner_of (sym weight_part_lem), omega (arith, ap length weight_part_lem), clarity-length ∙ sym weight-length),
              (one, omega (arith, weight-length)),
            )

        pub told-found : (r : EstimateSaid) → r ≡ found_of rate min_lag clarity_part weight_part
            → TempoIn env onsets rate min_lag max_lag clarity weight r clarity' weight'
        told-found r is =
            record {
              answered = is ∙ ap (λ (x : List Float). found_of rate min_lag x weight_part) clarity_part_lem
                  ∙ ap (found_of rate min_lag (clarity_curve env min_lag max_lag)) weight_part_lem ∙ sym found_is;
              clarities = clarities_are;
              weights = weights_are;
            }

-- ---- every call

module _ (env : List Float) (onsets rate : ℕ) (o : TempoOpts) (clarity weight work : List Float) where
  abbrev number : ℕ
  number = search_refusal env rate o (length clarity) (length weight) (length work)

  -- a refusal that `?` hands on: e is what refused
  pub estimated_refused : (r : Result TempoEstimate Refusal) (e : Refusal) → IsErrAnd r (λ (x : Refusal). x ≡ e) → Refusals.number e ≡ number
      → EstimatePromise env onsets rate o clarity weight work (estimate_said r) clarity weight work
  unfolding estimate_of
  estimated_refused (Ok found) e h is = absurd h
  estimated_refused (Err x) e h is =
      let same : Refusals.number x ≡ number = ap Refusals.number h ∙ is in
      let no : number ≡ 0 → ⊥ = λ z. number-not_0 x (same ∙ z) in
      record {
        answered = ap without_tempo same ∙ sym (refused_keeps number _ _ no);
        clarities = sym (refused_keeps number _ _ no);
        weights = sym (refused_keeps number _ _ no);
        unsorted = refl;
      }

  pub estimated_told : (range : LagRange) (r : EstimateSaid) (clarity' weight' : List Float) → number ≡ 0 → Ranged rate o range
      → TempoIn env onsets rate range.min_lag range.max_lag clarity weight r clarity' weight'
      → EstimatePromise env onsets rate o clarity weight work r clarity' weight' work
  unfolding estimate_of
  estimated_told range r clarity' weight' none a told =
      let t : TempoIn env onsets rate (min_lag rate o) (max_lag rate o) clarity weight r clarity' weight' = rw (a.least, a.greatest) at told in
      record {
        answered = t.answered ∙ sym (passed_does number _ _ none);
        clarities = t.clarities ∙ sym (passed_does number _ _ none);
        weights = t.weights ∙ sym (passed_does number _ _ none);
        unsorted = refl;
      }

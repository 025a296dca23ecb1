-- What follows from the promise of `estimate`: any two outcomes coincide; the candidates are none without a tempo, and else one to three,
-- each with a lag of the range; the winner's lag is a period that `beat_grid` and `stability_of` accept, and 0 exactly where there is no tempo.
-- Assumes nothing.
use mathlib.Core.Path.{◌≡◌, refl, sym, ap, ◌∙◌}
use mathlib.Core.Bool.{Bool, true, false, ◌&&◌}
use mathlib.Core.Logic.{⊎_elim}
use mathlib.Core.List.{List, [], ◌∷◌, ◌++◌, map}
use Prim.Native.Nat.{ℕ, zero, suc, ◌+◌, ◌≤◌, ◌<◌}
use native.Mathlib.Nat.{not-suc-le-zero, le_of_suc-le-suc}
use native.Mathlib.Omega.{arith}
use borrow.Author.Tests.{ltb-true, lt-ltb}
use lib.Dec.{ltb}
use lib.ListN.{length, get_or, length-append, length-map}
use lib.Ieee.{Float}
use Rattle.numbers.specs.Limits.{most_period}
use Rattle.numbers.specs.Refusals.{unless_refused}
use Rattle.numbers.proofs.Tests.{lt_or_le, and_left, by_pick}
use Rattle.numbers.proofs.Tabs.{length-tab, get_or_listed_in, get_or_listed_past}
use Rattle.sizes.specs.Sizes.{Each, none, more}
use Rattle.sizes.proofs.Lists.{each_at, each_append}
use Rattle.options.specs.declared.TempoOpts.{TempoOpts}
use Rattle.lags.specs.Lags.{min_lag, max_lag, lag_room}
use Rattle.lags.proofs.Ranges.{min_lag_least, min_lt_max, range_of_lem}
use Rattle.tempo.specs.declared.Candidate.{Candidate}
use Rattle.tempo.specs.declared.Tempo.{Tempo}
use Rattle.tempo.specs.declared.Tempo.TheVariants.{None, Found}
use Rattle.lag_candidates.specs.Candidates.{winner_of, ranked, stands_apart, accepted_of, candidates_of}
use Rattle.lag_search.specs.Search.{weight_rule, clarity_curve, weight_curve, winner_above}
use Rattle.tempo.specs.Answers.{EstimateSaid, unused, candidate_at, pairs_of, without_tempo, found_of, unwritten, tempo_of, search_refusal, estimate_of, EstimatePromise}
use Rattle.lag_candidates.proofs.Winners.{winner-below}
use Rattle.lag_candidates.proofs.Rankings.{ranked-below}
use Rattle.tempo.proofs.Refusals.{accepted}

-- any two outcomes that the promise permits coincide
pub coincide : {env : List Float} {onsets rate : ℕ} {o : TempoOpts} {clarity weight work : List Float}
    {r s : EstimateSaid} {c d w v k l : List Float}
    → EstimatePromise env onsets rate o clarity weight work r c w k → EstimatePromise env onsets rate o clarity weight work s d v l
    → (r ≡ s) × (c ≡ d) × (w ≡ v) × (k ≡ l)
coincide p q = (
  p.answered ∙ sym q.answered,
  p.clarities ∙ sym q.clarities,
  p.weights ∙ sym q.weights,
  p.unsorted ∙ sym q.unsorted,
)

-- ---- the accepted slots

accepted-few : (least : ℕ) (acc is : List ℕ) → length acc ≤ 3 → (length acc ≤ length (accepted_of least acc is)) × (length (accepted_of least acc is) ≤ 3)
unfolding accepted_of
accepted-few least acc [] h = (omega arith, h)
accepted-few least acc (i ∷ is) h =
    by_pick (λ (xs : List ℕ). (length acc ≤ length xs) × (length xs ≤ 3)) (ltb (length acc) 3 && stands_apart least acc i) _ _
    (λ e.
    let l : length (acc ++ (i ∷ [])) ≡ length acc + 1 = length-append acc (i ∷ []) in
    let m : length acc < 3 = ltb-true (length acc) 3 (and_left (ltb (length acc) 3) _ e) in
    let r = accepted-few least (acc ++ (i ∷ [])) is (omega arith) in
    (omega (arith, r.0), r.1))
    (λ e. accepted-few least acc is h)

accepted_each : (P : ℕ → Type 0) (least : ℕ) (acc is : List ℕ) → Each P acc → Each P is → Each P (accepted_of least acc is)
unfolding accepted_of
accepted_each P least acc [] p q = p
accepted_each P least acc (i ∷ is) p (more h q) =
    by_pick (Each P) (ltb (length acc) 3 && stands_apart least acc i) _ _
    (λ e. accepted_each P least (acc ++ (i ∷ [])) is (each_append p (more h none)) q)
    (λ e. accepted_each P least acc is p q)

pub candidates_few : (least : ℕ) (ws : List Float) → (1 ≤ length (candidates_of least ws)) × (length (candidates_of least ws) ≤ 3)
unfolding candidates_of
candidates_few least ws = accepted-few least (winner_of ws ∷ []) (ranked ws) (omega arith)

pub candidates_below : (least : ℕ) (ws : List Float) → 0 < length ws → Each (λ i. i < length ws) (candidates_of least ws)
unfolding candidates_of ranked
candidates_below least ws h =
    accepted_each (λ i. i < length ws) least (winner_of ws ∷ []) (ranked ws) (more (winner-below ws h) none) (ranked-below ws (length ws))

-- ---- the pairs

-- a tempo was found
abbrev pub is_found : Tempo → Bool
is_found None = false
is_found (Found bpm clarity) = true

-- what every answer keeps, by the lags of its range
pub record Kept (least most : ℕ) (e : EstimateSaid) : Type 0 where
  pub few : e.count ≤ 3
  pub found : is_found e.tempo ≡ ltb 0 e.count
  pub used : (i : ℕ) (z : Candidate) → i < e.count → (least ≤ (get_or e.candidates i z).lag) × ((get_or e.candidates i z).lag ≤ most)
  pub rest : (i : ℕ) (z : Candidate) → e.count ≤ i → i < 3 → get_or e.candidates i z ≡ unused

three_unused : (i : ℕ) (z : Candidate) → i < 3 → get_or (unused ∷ unused ∷ unused ∷ []) i z ≡ unused
three_unused zero z h = refl
three_unused (suc zero) z h = refl
three_unused (suc (suc zero)) z h = refl
three_unused (suc (suc (suc i))) z h = absurd (omega arith)

get_or_image : (f : ℕ → Candidate) (is : List ℕ) (i : ℕ) (z : Candidate) → i < length is → get_or (map f is) i z ≡ f (get_or is i 0)
get_or_image f [] i z h = absurd (not-suc-le-zero h)
get_or_image f (j ∷ is) zero z h = refl
get_or_image f (j ∷ is) (suc i) z h = get_or_image f is i z (le_of_suc-le-suc h)

kept-without : (least most n : ℕ) → Kept least most (without_tempo n)
kept-without least most n =
    record {
      few = omega arith;
      found = refl;
      used = λ i z h. absurd (not-suc-le-zero h);
      rest = λ i z h k. three_unused i z k;
    }

kept-found : (rate least most : ℕ) (cs ws : List Float) → least ≤ most → length ws ≡ lag_room least most → Kept least most (found_of rate least cs ws)
unfolding found_of
kept-found rate least most cs ws h l =
    let slots = candidates_of least ws in
    let few = candidates_few least ws in
    let pairs = map (candidate_at least cs) slots in
    let m : length pairs ≡ length slots = length-map slots (candidate_at least cs) in
    record {
      few = few.1;
      found = sym (lt-ltb 0 (length slots) few.0);
      used =
          λ i z k.
          let e : get_or (pairs_of least cs slots) i z ≡ candidate_at least cs (get_or slots i 0) =
          get_or_listed_in pairs (unused ∷ unused ∷ unused ∷ []) i z (omega arith) ∙ get_or_image (candidate_at least cs) slots i z k in
          let s : get_or slots i 0 < length ws = each_at i 0 (candidates_below least ws (omega arith)) k in
          let g : (get_or (pairs_of least cs slots) i z).lag ≡ least + get_or slots i 0 = ap (λ (x : Candidate). x.lag) e in
          (omega (arith, g), omega (arith, g, s));
      rest = λ i z k u. get_or_listed_past pairs (unused ∷ unused ∷ unused ∷ []) i z (omega arith) ∙ three_unused i z u;
    }

-- where the range begins at 1 or above, there is a tempo exactly where the first pair has a lag
pub kept_lag : (least most : ℕ) (e : EstimateSaid) → 1 ≤ least → Kept least most e → (z : Candidate)
    → is_found e.tempo ≡ ltb 0 (get_or e.candidates 0 z).lag
kept_lag least most e h k z =
    ⊎_elim
    (λ (p : 0 < e.count).
    k.found ∙ (lt-ltb 0 e.count p ∙ sym (lt-ltb 0 (get_or e.candidates 0 z).lag (omega (arith, h, (k.used 0 z p).0)))))
    (λ (p : e.count ≤ 0).
    let nothing : e.count ≡ 0 = omega (arith, p) in
    k.found ∙ (ap (ltb 0) nothing ∙ sym (ap (λ (x : Candidate). ltb 0 x.lag) (k.rest 0 z p (omega arith)))))
    (lt_or_le 0 e.count)

-- ---- every call

-- where nothing is refused the number is 0
pub told-number : (env : List Float) (onsets rate least most : ℕ) → (tempo_of env onsets rate least most).number ≡ 0
unfolding tempo_of found_of
told-number env onsets rate least most =
    by_pick (λ (e : EstimateSaid). e.number ≡ 0) (unwritten env onsets most) _ _ (λ u. refl)
    (λ u. by_pick (λ (e : EstimateSaid). e.number ≡ 0) (winner_above (weight_curve env rate least most)) _ _ (λ a. refl) (λ a. refl))

by_refused : {A : Type 0} (P : A → Type 0) (n : ℕ) (x y : A) → (n ≡ 0 → P x) → P y → P (unless_refused n x y)
by_refused P zero x y f g = f refl
by_refused P (suc n) x y f g = g

module _ (env : List Float) (onsets rate : ℕ) (o : TempoOpts) (clarity weight work : ℕ) where
  told-kept : Kept (min_lag rate o) (max_lag rate o) (tempo_of env onsets rate (min_lag rate o) (max_lag rate o))
  unfolding tempo_of
  told-kept =
      let ws = weight_curve env rate (min_lag rate o) (max_lag rate o) in
      let without = kept-without (min_lag rate o) (max_lag rate o) 0 in
      by_pick (Kept (min_lag rate o) (max_lag rate o)) (unwritten env onsets (max_lag rate o)) _ _ (λ e. without)
      (λ e.
      by_pick (Kept (min_lag rate o) (max_lag rate o)) (winner_above ws) _ _
      (λ a.
      kept-found rate (min_lag rate o) (max_lag rate o) (clarity_curve env (min_lag rate o) (max_lag rate o)) ws (omega (arith, min_lt_max rate o))
      (length-tab (weight_rule env rate (min_lag rate o)) 0 (lag_room (min_lag rate o) (max_lag rate o))))
      (λ a. without))

  pub kept : Kept (min_lag rate o) (max_lag rate o) (estimate_of env onsets rate o clarity weight work)
  unfolding estimate_of
  kept =
      by_refused (Kept (min_lag rate o) (max_lag rate o)) (search_refusal env rate o clarity weight work) _ _
      (λ e. told-kept)
      (kept-without (min_lag rate o) (max_lag rate o) _)

  -- of an envelope that nothing refuses: a tempo is found exactly where the first pair has a lag
  pub tempo_has_lag : (z : Candidate)
      → is_found (tempo_of env onsets rate (min_lag rate o) (max_lag rate o)).tempo ≡ ltb 0
      (get_or (tempo_of env onsets rate (min_lag rate o) (max_lag rate o)).candidates 0 z).lag
  tempo_has_lag z = kept_lag (min_lag rate o) (max_lag rate o) (tempo_of env onsets rate (min_lag rate o) (max_lag rate o)) (min_lag_least rate o) told-kept z

  -- the lag of the first pair, 0 without a tempo, is a period
  pub winner-most : (z : Candidate) → (get_or (estimate_of env onsets rate o clarity weight work).candidates 0 z).lag ≤ most_period
  unfolding estimate_of
  winner-most z =
      by_refused (λ (e : EstimateSaid). (get_or e.candidates 0 z).lag ≤ most_period) (search_refusal env rate o clarity weight work) _ _
      (λ e. first-most (tempo_of env onsets rate (min_lag rate o) (max_lag rate o)) told-kept
      (range_of_lem rate o (accepted env rate o clarity weight work e).bounds).most-max)
      (omega arith)
    where
      first-most : (e : EstimateSaid) → Kept (min_lag rate o) (max_lag rate o) e → max_lag rate o ≤ most_period → (get_or e.candidates 0 z).lag ≤ most_period
      first-most e k h =
          ⊎_elim
          (λ (p : 0 < e.count). omega (arith, (k.used 0 z p).1))
          (λ (p : e.count ≤ 0). omega (arith, ap (λ (x : Candidate). x.lag) (k.rest 0 z p (omega arith))))
          (lt_or_le 0 e.count)

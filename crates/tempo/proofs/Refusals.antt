-- What number 0 says of a call that searches an envelope, and what is known of its lags then. Assumes nothing.
use mathlib.Core.Path.{◌≡◌, refl, sym, ap, ◌∙◌}
use mathlib.Core.Bool.{Bool, true, false, ◌&&◌}
use mathlib.Core.List.{List}
use Prim.Native.Nat.{ℕ, ◌≤◌, ◌<◌}
use native.Mathlib.Omega.{arith}
use borrow.Author.Tests.{leb-true, le-leb, lt-leb}
use lib.Dec.{leb}
use lib.ListN.{length}
use lib.Ieee.{Float}
use Rattle.numbers.specs.Limits.{most_rows, most_period, value_fine}
use Rattle.numbers.specs.Lists.{every}
use Rattle.numbers.proofs.Tests.{and_left, and_right, and-held, and_failed, lowest-zero, lowest_0, lowest_1, lowest_3, lowest_4}
use Rattle.options.specs.declared.TempoOpts.{TempoOpts}
use Rattle.lags.specs.declared.LagRange.{LagRange}
use Rattle.lags.specs.Lags.{min_lag, max_lag, lag_room, bounds_fine}
use Rattle.lags.proofs.Ranges.{range_of_lem}
use Rattle.tempo.specs.Answers.{search_bounds, search_room, search_refusal}

-- the lags that `lags_in` answered, where the bounds are fine
pub record Ranged (rate : ℕ) (o : TempoOpts) (r : LagRange) : Type 0 where
  pub least : r.min_lag ≡ min_lag rate o
  pub greatest : r.max_lag ≡ max_lag rate o
  pub from_one : 1 ≤ r.min_lag
  pub ordered : r.min_lag < r.max_lag
  pub most : r.max_lag ≤ most_period

pub ranged : (rate : ℕ) (o : TempoOpts) (r : LagRange) → r ≡ record { min_lag = min_lag rate o; max_lag = max_lag rate o }
    → bounds_fine rate o ≡ true → Ranged rate o r
ranged rate o r e fine =
    let a = range_of_lem rate o fine in
    let l : r.min_lag ≡ min_lag rate o = ap (λ (x : LagRange). x.min_lag) e in
    let g : r.max_lag ≡ max_lag rate o = ap (λ (x : LagRange). x.max_lag) e in
    record {
      least = l;
      greatest = g;
      from_one = omega (arith, a.from_one);
      ordered = omega (arith, a.ordered);
      most = omega (arith, a.most-max);
    }

-- nothing is refused
pub record Accepted (env : List Float) (rate : ℕ) (o : TempoOpts) (clarity weight work : ℕ) : Type 0 where
  pub rows : length env ≤ most_rows
  pub bounds : bounds_fine rate o ≡ true
  pub clarities : lag_room (min_lag rate o) (max_lag rate o) ≤ clarity
  pub weights : lag_room (min_lag rate o) (max_lag rate o) ≤ weight
  pub works : lag_room (min_lag rate o) (max_lag rate o) ≤ work
  pub values : every value_fine env ≡ true

-- ---- the rows of the table

module _ (rate : ℕ) (o : TempoOpts) where
  abbrev room : ℕ
  room = lag_room (min_lag rate o) (max_lag rate o)

  -- the room that was computed
  pub room_is : (r : LagRange) (k : ℕ) → Ranged rate o r → k ≡ lag_room r.min_lag r.max_lag → k ≡ room
  room_is r k a e = e ∙ ap (λ (m : ℕ). lag_room m r.max_lag) a.least ∙ ap (lag_room (min_lag rate o)) a.greatest

  module _ (clarity weight work k : ℕ) (e : k ≡ room) where
    fits : (m : ℕ) → k ≤ m → leb room m ≡ true
    fits m h = le-leb room m (omega arith)

    short : (m : ℕ) → m < k → leb room m ≡ false
    short m h = lt-leb room m (omega arith)

    pub room_of_clarity : clarity < k → leb k clarity ≡ search_room rate o clarity weight work
    unfolding search_room
    room_of_clarity h = ap (λ (m : ℕ). leb m clarity) e ∙ and_failed (leb room clarity) (leb room weight && leb room work) (short clarity h)

    pub room_of_weight : k ≤ clarity → weight < k → leb k weight ≡ search_room rate o clarity weight work
    unfolding search_room
    room_of_weight l h =
        ap (λ (m : ℕ). leb m weight) e
        ∙ and_failed (leb room weight) (leb room work) (short weight h)
        ∙ and-held (leb room clarity) (leb room weight && leb room work) (fits clarity l)

    pub room_of_work : k ≤ clarity → k ≤ weight → leb k work ≡ search_room rate o clarity weight work
    unfolding search_room
    room_of_work l h =
        ap (λ (m : ℕ). leb m work) e
        ∙ and-held (leb room weight) (leb room work) (fits weight h)
        ∙ and-held (leb room clarity) (leb room weight && leb room work) (fits clarity l)

module _ (env : List Float) (rate : ℕ) (o : TempoOpts) (clarity weight work : ℕ) where
  abbrev number : ℕ
  number = search_refusal env rate o clarity weight work

  abbrev bounds : Bool
  bounds = search_bounds env rate o

  abbrev roomy : Bool
  roomy = search_room rate o clarity weight work

  abbrev fine : Bool
  fine = every value_fine env

  pub too_long : most_rows < length env → 1 ≡ number
  unfolding search_refusal
  too_long h =
      let e = lt-leb (length env) most_rows h in
      sym (lowest_1 bounds true roomy fine (sym (and_failed (leb (length env) most_rows) (bounds_fine rate o) e) ∙ e))

  module _ (h : length env ≤ most_rows) where
    bounds_are : bounds_fine rate o ≡ bounds
    unfolding search_bounds
    bounds_are = and-held (leb (length env) most_rows) (bounds_fine rate o) (le-leb _ _ h)

    pub not_in_bounds : bounds_fine rate o ≡ false → 1 ≡ number
    unfolding search_refusal
    not_in_bounds e = sym (lowest_1 bounds true roomy fine (sym bounds_are ∙ e))

    module _ (b : bounds_fine rate o ≡ true) where
      pub too_little_room_lem : roomy ≡ false → 3 ≡ number
      unfolding search_refusal
      too_little_room_lem e = sym (lowest_3 bounds true roomy fine (sym bounds_are ∙ b) refl e)

      pub wrong_value_lem : roomy ≡ true → fine ≡ false → 4 ≡ number
      unfolding search_refusal
      wrong_value_lem r e = sym (lowest_4 bounds true roomy fine (sym bounds_are ∙ b) refl r e)

      pub nothing_refused : roomy ≡ true → fine ≡ true → 0 ≡ number
      unfolding search_refusal
      nothing_refused r e = sym (lowest_0 bounds true roomy fine (sym bounds_are ∙ b) refl r e)

-- ---- number 0

module _ (env : List Float) (rate : ℕ) (o : TempoOpts) (clarity weight work : ℕ) where
  pub accepted : search_refusal env rate o clarity weight work ≡ 0 → Accepted env rate o clarity weight work
  unfolding search_refusal
  accepted e =
      let room = lag_room (min_lag rate o) (max_lag rate o) in
      let p = lowest-zero (search_bounds env rate o) true (search_room rate o clarity weight work) (every value_fine env) e in
      let b : leb (length env) most_rows && bounds_fine rate o ≡ true = p.bounds in
      let r : leb room clarity && (leb room weight && leb room work) ≡ true = p.room in
      let s = and_right (leb room clarity) (leb room weight && leb room work) r in
      record {
        rows = leb-true _ _ (and_left _ _ b);
        bounds = and_right (leb (length env) most_rows) (bounds_fine rate o) b;
        clarities = leb-true _ _ (and_left (leb room clarity) _ r);
        weights = leb-true _ _ (and_left (leb room weight) (leb room work) s);
        works = leb-true _ _ (and_right (leb room weight) (leb room work) s);
        values = p.values;
      }

  -- what a search asks for
  pub search_asks : (r : LagRange) → Accepted env rate o clarity weight work → Ranged rate o r
      → ((1 ≤ r.min_lag) × (r.min_lag ≤ r.max_lag) × (r.max_lag ≤ most_period))
      × ((lag_room r.min_lag r.max_lag ≤ clarity) × (lag_room r.min_lag r.max_lag ≤ weight))
  search_asks r a g = (
    (g.from_one, omega (arith, g.ordered), g.most),
    (omega (arith, a.clarities, g.least, g.greatest), omega (arith, a.weights, g.least, g.greatest)),
  )

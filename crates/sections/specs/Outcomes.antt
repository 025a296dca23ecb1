-- Document 01, "For each input, refused or not, a promise determines the result and each lent slot afterwards": what the two calls
-- promise, as equations over the inputs.
use Rattle.std.specs.Prelude.{◌≡◌, ℕ, List, map, length, nat_lt, Float, Result, Ok, Err}
use Rattle.numbers.specs.Rounded.{nought, pick}
use Rattle.numbers.specs.Lists.{listed}
use Rattle.numbers.specs.Refusals.{number, unless_refused}
use Rattle.numbers.specs.declared.Refusal.{Refusal}
use Rattle.numbers.specs.Outcomes.{Written, Open}
use Rattle.sections.specs.Boundaries.{least_rows, boundaries_of, sections_of, boundaries_refusal}
use Rattle.sections.specs.Confidence.{confidence_of}
use Rattle.sections.specs.declared.Sections.{Sections}
use Rattle.sections.specs.Times.{row_time, row_times_refusal}

-- how many slots of the work slice, from its start on, may differ afterwards: one for each row where the curve is searched, and none at a
-- refusal or where there are too few rows for a boundary
abbrev pub worked_in : (number rows : ℕ) → ℕ
worked_in number rows = unless_refused number (pick (nat_lt rows least_rows) 0 rows) 0

-- what `boundaries` says: its number, how many sections there are, how many boundaries are listed, and how far they stand out
pub record SectionsSaid : Type 0 where
  pub number : ℕ
  pub sections : ℕ
  pub count : ℕ
  pub confidence : Float

-- by its answer: `Ok` is number 0 and its parts, `Err e` the number of e in the table, and zeros
abbrev pub sections_said : Result Sections Refusal → SectionsSaid
sections_said (Ok s) = record { number = 0; sections = s.sections; count = s.count; confidence = s.confidence }
sections_said (Err e) = record { number = number e; sections = 0; count = 0; confidence = nought }

-- A call that finds these boundaries in a novelty curve: it answers this number, how many sections there are, how many boundaries it
-- listed, and a confidence; a refusal answers zeros and changes no slot. The slots of `work` that are worked in are left open.
pub record Found
    (k : ℕ) (novelty : List Float) (bounds rows : List ℕ) (work : List Float)
    (answer : SectionsSaid) (rows' : List ℕ) (work' : List Float) : Type 0 where
  pub number_is : answer.number ≡ k
  pub sections_are : answer.sections ≡ unless_refused k (sections_of (length novelty) (length bounds)) 0
  pub count_is : answer.count ≡ unless_refused k (length bounds) 0
  pub confidence_is : answer.confidence ≡ unless_refused k (confidence_of novelty bounds) nought
  pub rows_are : rows' ≡ unless_refused k (listed bounds rows) rows
  pub works : Open (worked_in k (length novelty)) work work'

-- what `boundaries` promises
abbrev pub BoundariesPromise : (novelty : List Float) (samples rate max_sections : ℕ) (rows : List ℕ) (work : List Float)
    (answer : SectionsSaid) (rows' : List ℕ) (work' : List Float) → Type 0
BoundariesPromise novelty samples rate max_sections rows work =
    Found (boundaries_refusal novelty samples rate (length rows) (length work)) novelty (boundaries_of novelty samples rate max_sections) rows work

-- what `boundary_times` promises
abbrev pub BoundaryTimesPromise : (rows : List ℕ) (samples rate : ℕ) (ms : List Float) (answer : ℕ) (ms' : List Float) → Type 0
BoundaryTimesPromise rows samples rate ms = Written (row_times_refusal rows samples rate (length ms)) (listed (map (row_time samples rate) rows) ms) ms

-- The C interface to `boundaries`. That to `feature_rows`, `similarity`, `novelty` and `boundary_times` is their own promise.
use Rattle.std.specs.Prelude.{ℕ, ◌≡◌, List, length, Float}
use Rattle.numbers.specs.Lists.{listed}
use Rattle.numbers.specs.Refusals.{unless_refused}
use Rattle.numbers.specs.Outcomes.{Open}
use Rattle.sections.specs.Boundaries.{sections_of, boundaries_of, boundaries_refusal}
use Rattle.sections.specs.Confidence.{confidence_of}
use Rattle.sections.specs.Outcomes.{worked_in}
use Rattle.capi_answers.specs.Handed.{Handed}
use Rattle.capi_answers.specs.Forms.{SectionsLent, sections_lent}

-- what the lent numbers of `ph_boundaries` hold of a novelty curve with these boundaries
abbrev pub section_parts : (novelty : List Float) (bounds : List ℕ) → SectionsLent
section_parts novelty bounds = sections_lent (sections_of (length novelty) (length bounds)) (length bounds) (confidence_of novelty bounds)

-- A call that finds these boundaries in a novelty curve, as `Found` of crate sections has it, but that lent numbers hold the parts of the answer.
pub record BoundariesTold
    (number : ℕ) (novelty : List Float) (bounds rows : List ℕ) (work : List Float) (lent₀ : SectionsLent)
    (answer : ℕ) (rows' : List ℕ) (work' : List Float) (lent : SectionsLent) : Type 0 where
  pub handed : Handed number (section_parts novelty bounds) lent₀ answer lent
  pub rows_are : rows' ≡ unless_refused number (listed bounds rows) rows
  pub works : Open (worked_in number (length novelty)) work work'

-- what `ph_boundaries` promises
abbrev pub PhBoundariesPromise : (novelty : List Float) (samples rate max_sections : ℕ) (rows : List ℕ) (work : List Float) (lent₀ : SectionsLent)
    (answer : ℕ) (rows' : List ℕ) (work' : List Float) (lent : SectionsLent) → Type 0
PhBoundariesPromise novelty samples rate max_sections rows work =
    BoundariesTold (boundaries_refusal novelty samples rate (length rows) (length work)) novelty (boundaries_of novelty samples rate max_sections) rows work

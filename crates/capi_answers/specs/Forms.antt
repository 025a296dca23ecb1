-- An answer of `boundaries`, handed over.
use Rattle.std.specs.Prelude.{ℕ, Float}
use Rattle.sections.specs.Outcomes.{SectionsSaid}

-- the lent numbers of `ph_boundaries`
pub record SectionsLent : Type 0 where
  pub sections : ℕ
  pub count : ℕ
  pub confidence : Float

abbrev pub sections_lent : (sections count : ℕ) (confidence : Float) → SectionsLent
sections_lent sections count confidence = record { sections = sections; count = count; confidence = confidence }

-- Inner: what they hold of an answer
abbrev pub parts_in : SectionsSaid → SectionsLent
parts_in answer = sections_lent answer.sections answer.count answer.confidence

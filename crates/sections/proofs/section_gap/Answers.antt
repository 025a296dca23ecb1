-- `sections::section_gap` meets its contract, from what the ceiling and the greater of two ensure. Assumes nothing.
use Rattle.std.proofs.Common.{max, ap, ◌∙◌}
use Rattle.std.proofs.Math.Nat.{max_comm}
use Rattle.floats.specs.Wholes.{ceil_of}
use Rattle.numbers.specs.Rounded.{◌⊘◌}
use Rattle.sections.specs.Boundaries.{section_gap_ms, section_gap}
use Rattle.sections.proofs.section_gap.Goals as goal

pub returns : goal.returns
unfolding section_gap
returns c =
    c.max.ensures ∙ max_comm _ 1 ∙ ap (max 1) (c.ceil_of-rows.ensures ∙ ap (λ x. ceil_of (section_gap_ms ⊘ x)) c.frame_ms.ensures)

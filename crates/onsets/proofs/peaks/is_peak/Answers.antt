-- `onsets::peaks::is_peak` meets its contract: `&&` answers its right side where its left holds. Assumes nothing.
use mathlib.Core.Path.{◌∙◌}
use Rattle.numbers.proofs.Tests.{and-held, and_failed}
use Rattle.onsets.specs.Peaks.{is_peak}
use Rattle.onsets.proofs.peaks.is_peak.Goals as goal

pub returns-then-value-curve : goal.returns-then-value-curve
unfolding is_peak
returns-then-value-curve c = and-held _ _ c.if-value-curve.true ∙ and-held _ _ c.if-value-level.true

pub returns-else-value-curve : goal.returns-else-value-curve
unfolding is_peak
returns-else-value-curve c = and_failed _ _ c.if-value-curve.false ∙ and-held _ _ c.if-value-level.true

pub returns-else-value-level : goal.returns-else-value-level
unfolding is_peak
returns-else-value-level c = and_failed _ _ c.if-value-level.false

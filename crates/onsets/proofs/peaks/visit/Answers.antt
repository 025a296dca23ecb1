-- `onsets::peaks::visit` meets its contract: a slot that is a peak joins, and any other is passed over. Assumes nothing.
use mathlib.Core.Path.{sym, ◌∙◌}
use Rattle.onsets.proofs.Steps.{stepped_past, stepped_peak}
use Rattle.onsets.proofs.peaks.visit.Goals as goal

pub returns-then-is_peak : goal.returns-then-is_peak
returns-then-is_peak c =
    stepped_peak _ _ _ _ _ _ _ _ (sym c.is_peak.ensures ∙ c.if-is_peak.true) c.join.ensures

pub returns : goal.returns
returns c =
    stepped_past _ _ c.args.group _ _ _ (sym c.is_peak.ensures ∙ c.if-is_peak.false) c.requires.3

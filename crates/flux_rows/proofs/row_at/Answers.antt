-- `flux_rows::row_at` meets its contract: of a slab of whole rows the frame reader hands back row t (`row_of_rows`). Assumes nothing.
use mathlib.Core.Path.{◌∙◌}
use Rattle.frames.proofs.Laws.{row_of_rows}
use Rattle.flux_rows.proofs.row_at.Goals as goal

pub returns : goal.returns
returns c = c.row_of.ensures.holds ∙ row_of_rows _ _ _ _ c.args.m.whole c.requires

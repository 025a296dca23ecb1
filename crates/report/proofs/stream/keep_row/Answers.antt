-- `report::stream::keep_row` meets its contract: the second row becomes the first, and the bytes fill the second. Assumes nothing.
use mathlib.Core.Path.{◌∙◌}
use Rattle.report.proofs.Rows.{row-moved, kept_put}
use Rattle.report.proofs.stream.keep_row.Goals as goal

pub returns : goal.returns
returns c =
    let kept = c.args.kept.now in
    let bins = c.args.bins in
    kept_put kept _ _ c.args.bytes.now bins c.requires.1 c.requires.0 (c.copy_within.ensures.after ∙ row-moved kept bins c.requires.1)
    c.read_values.ensures

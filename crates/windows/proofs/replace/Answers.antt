-- `windows::replace` meets its contract: one entry is taken out, then the other is put in. Assumes nothing.
use mathlib.Core.Path.{ap, ◌∙◌}
use mathlib.Core.List.{List}
use lib.Ieee.{Float}
use lib.ListN.{length}
use Rattle.windows.specs.Windows.{among, slid}
use Rattle.windows.proofs.Slides.{length_without}
use Rattle.windows.proofs.replace.Goals as goal

pub among-requires : goal.among-requires
among-requires c =
    (ap length c.without.ensures ∙ length_without _ _, c.requires)

pub returns : goal.returns
unfolding slid
returns c =
    c.among.ensures ∙ ap (λ (z : List Float). among z c.args.v) c.without.ensures

-- `row_pairs::settle` meets its contract: a choice by one norm, then by the other, is a choice by either. Assumes nothing.
use mathlib.Core.Path.{◌∙◌}
use Rattle.row_pairs.proofs.Slots.{settle_is}
use Rattle.row_pairs.proofs.settle.Goals as goal

pub returns : goal.returns
returns c =
    let a = c.args in
    c.unless_zero-2.ensures
    ∙ rw (c.unless_zero.ensures, c.hold.ensures) (settle_is a.quotient a.norm a.other)

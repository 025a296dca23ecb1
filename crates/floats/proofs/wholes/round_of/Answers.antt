-- `floats::wholes::round_of` meets its contract, by `round_below` and `round_above`. Assumes nothing.
use Rattle.std.proofs.Common.{T, sym, ◌∙◌, subst}
use Rattle.floats.proofs.WholeNumbers.{round_below, round_above}
use Rattle.floats.proofs.wholes.round_of.Goals as goal

pub returns-then-x : goal.returns-then-x
returns-then-x c = let g = c.well_formed in rw c.whole_of-twice.ensures (round_below _ (subst T (sym g.0.1) tt) c.if-x.true)

pub returns : goal.returns
returns c = let g = c.well_formed in c.whole_of.ensures ∙ round_above _ (subst T (sym g.0.1) tt) c.if-x.false

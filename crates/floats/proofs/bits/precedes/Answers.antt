-- `floats::bits::precedes` meets its contract: `<` either way decides the order of the keys (`key_lt`). Assumes nothing.
use Rattle.std.proofs.Common.{T, sym, subst, le_of_lt, le-ltb, lt-ltb}
use Rattle.floats.proofs.TotalOrder.{key_lt}
use Rattle.floats.proofs.bits.precedes.Goals as goal

pub returns-then-x-y : goal.returns-then-x-y
returns-then-x-y c = let g = c.well_formed in sym (lt-ltb _ _ (key_lt _ _ (subst T (sym g.0.1) tt) (subst T (sym g.1.0.1) tt)
    (subst T (sym c.if-x-y.true) tt)))

pub returns-then-y-x : goal.returns-then-y-x
returns-then-y-x c = let g = c.well_formed in sym (le-ltb _ _
    (le_of_lt (key_lt _ _ (subst T (sym g.1.0.1) tt) (subst T (sym g.0.1) tt) (subst T (sym c.if-y-x.true) tt))))

pub returns : goal.returns
returns c = rw (c.key_of.ensures, c.key_of-2.ensures)

-- `floats::wholes::ceil_of` meets its contract, by `ceil_below` and `ceil_above`. Assumes nothing.
use Rattle.std.proofs.Common.{true, false, T, sym, ◌∙◌, subst}
use Rattle.floats.proofs.WholeNumbers.{ceil_below, ceil_above}
use Rattle.floats.proofs.wholes.ceil_of.Goals as goal

pub returns-then-nearest_u64_to_f64-x : goal.returns-then-nearest_u64_to_f64-x
returns-then-nearest_u64_to_f64-x c = let w = c.whole_of-t.ensures in let g =
    c.well_formed in rw w (ceil_below _ true (subst T (sym g.0.1) tt) (rw w at c.if-t-lt4503599627370496.true)
    (rw (c.nearest_u64_to_f64.ensures, w) at c.if-nearest_u64_to_f64-x.true))

pub returns-else-nearest_u64_to_f64-x : goal.returns-else-nearest_u64_to_f64-x
returns-else-nearest_u64_to_f64-x c = let w = c.whole_of-t.ensures in let g =
    c.well_formed in rw w (ceil_below _ false (subst T (sym g.0.1) tt) (rw w at c.if-t-lt4503599627370496.true)
    (rw (c.nearest_u64_to_f64.ensures, w) at c.if-nearest_u64_to_f64-x.false))

pub returns-else-t-lt4503599627370496 : goal.returns-else-t-lt4503599627370496
returns-else-t-lt4503599627370496 c = let w = c.whole_of-t.ensures in let g = c.well_formed in w ∙ ceil_above _ (subst T (sym g.0.1) tt) (rw w at c.if-t-lt4503599627370496.false)

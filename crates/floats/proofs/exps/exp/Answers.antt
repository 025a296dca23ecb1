-- `floats::exps::exp` meets its contract, by the branches on the high word and on x. Assumes nothing.
use Rattle.std.proofs.Common.{le-ltb, lt-ltb}
use Rattle.floats.specs.Exps.{exp_of, exp_at}
use Rattle.floats.proofs.exps.exp.Goals as goal

pub returns-then-h-lt1082532651 : goal.returns-then-h-lt1082532651
unfolding exp_of exp_at
returns-then-h-lt1082532651 c = rw (← c.bits_of-n.ensures, lt-ltb _ _ c.if-h-lt1082532651.true) c.exp_sized.ensures

pub returns-then-x : goal.returns-then-x
unfolding exp_of exp_at
returns-then-x c = rw (← c.bits_of-n.ensures, le-ltb _ _ c.if-h-lt1082532651.false, c.if-x.true)

pub returns-then-x-2 : goal.returns-then-x-2
unfolding exp_of exp_at
returns-then-x-2 c = rw (← c.bits_of-n.ensures, le-ltb _ _ c.if-h-lt1082532651.false, c.if-x.false, c.if-x-2.true)

pub returns-then-x-3 : goal.returns-then-x-3
unfolding exp_of exp_at
returns-then-x-3 c = rw (
  ← c.bits_of-n.ensures,
  le-ltb _ _ c.if-h-lt1082532651.false,
  c.if-x.false,
  c.if-x-2.false,
  c.if-x-3.true,
)

pub returns : goal.returns
unfolding exp_of exp_at
returns c = rw
    (← c.bits_of-n.ensures, le-ltb _ _ c.if-h-lt1082532651.false, c.if-x.false, c.if-x-2.false, c.if-x-3.false) c.exp_sized-2.ensures

-- `roots::is_nearest` meets its contract. The square of y is high * 2 ^ 52 + low, with no part too large for 64 bits (`parts`), so each answer is the
-- definition's by sums alone: far above, far below, or told by the last two tests (`above`, `below`). Assumes nothing.
use native.Mathlib.Omega.{arith}
use mathlib.Core.Path.{sym}
use Rattle.roots.proofs.Parts.{parts, far_above, far_below, above, below}
use Rattle.roots.proofs.is_nearest.Goals as goal

pub overflow_mul-cross : goal.overflow_mul-cross
overflow_mul-cross c = omega (arith, parts c.args.y c.requires.1)

pub overflow_mul-high : goal.overflow_mul-high
overflow_mul-high c = omega (arith, parts c.args.y c.requires.1)

pub overflow_add-high : goal.overflow_add-high
overflow_add-high c = omega (arith, parts c.args.y c.requires.1)

pub overflow_mul-low-2 : goal.overflow_mul-low-2
overflow_mul-low-2 c = omega (arith, parts c.args.y c.requires.1)

pub overflow_add-low : goal.overflow_add-low
overflow_add-low c = omega (arith, parts c.args.y c.requires.1)

pub overflow_add-low-2 : goal.overflow_add-low-2
overflow_add-low-2 c = omega (arith, parts c.args.y c.requires.1)

pub returns-then-a-high : goal.returns-then-a-high
returns-then-a-high c = sym (far_above _ _ c.requires.1 c.if-a-high.true)

pub returns-then-apart-gt4 : goal.returns-then-apart-gt4
returns-then-apart-gt4 c = sym (far_below _ _ c.requires.1 c.if-apart-gt4.true)

pub returns-then-low-rest : goal.returns-then-low-rest
returns-then-low-rest c = below _ _ c.requires.1 c.if-a-high.false c.if-low-rest.true

pub returns-else-low-rest : goal.returns-else-low-rest
returns-else-low-rest c = above _ _ c.requires.1 c.if-a-high.false c.if-low-rest.false

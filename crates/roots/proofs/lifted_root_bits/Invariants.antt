-- `roots::lifted_root_bits` meets its contract. The invariant: a and the power are n's square split (`Lift`), with room for the fours to come. The
-- measure is the power. At the end the pattern is nearest, and so is the definition's, and there is one nearest (`root_is`). Assumes nothing.
use Rattle.roots.proofs.Nearest.{Lift}
use Rattle.roots.proofs.lifted_root_bits.Given as goal

abbrev pub invariant-loop-a : goal.invariant-loop-a
invariant-loop-a l = Lift l.n l.a l.power

abbrev pub decreases-loop-a : goal.decreases-loop-a
decreases-loop-a l = l.power

-- `run_structure::fill` is safe: the seed stays below 65,536. Assumes nothing.
use Prim.Native.Nat.{◌<◌}
use Rattle.run_structure.proofs.fill.Given as goal

abbrev pub invariant-loop-k : goal.invariant-loop-k
invariant-loop-k l = l.seed < 65536

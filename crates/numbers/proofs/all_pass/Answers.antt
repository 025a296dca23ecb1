-- `numbers::all_pass` meets its contract: the test of a list is that of its four quarters and of what is left. Assumes nothing.
use mathlib.Core.Path.{sym}
use Prim.Native.Nat.{◌/◌}
use lib.ListN.{length}
use Rattle.numbers.proofs.Everys.{every_quarters}
use Rattle.numbers.proofs.all_pass.Goals as goal

pub returns : goal.returns
returns g c p h = let s = c.args.s.now in
    rw (c.runs_pass-quarters.ensures p h, c.run_passes.ensures p h) (sym (every_quarters p s (length s / 4)))

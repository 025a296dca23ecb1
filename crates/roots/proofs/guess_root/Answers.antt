-- `roots::guess_root` meets its contract: what it hands `guess` are at most fifty-four digits, and what `guess` answers at most fifty-three. Assumes nothing.
use native.Mathlib.Omega.{arith}
use Rattle.roots.proofs.guess_root.Goals.{else-n-eq0, then-n-eq0}
use Rattle.roots.proofs.guess_root.Goals as goal

pub guess-requires : goal.guess-requires
guess-requires c = elim c.if-n-eq0.branch [ then-n-eq0 w ↦ rw w.guess-is (omega arith) | else-n-eq0 w ↦ rw w.guess-is (omega arith) ]

-- `label_seconds::seconds_length` meets its contract: the digits before the point, the point, and six behind it. Assumes nothing.
use mathlib.Core.Path.{sym, ap, ◌∙◌}
use Prim.Native.Nat.{ℕ, ◌+◌}
use native.Mathlib.Omega.{arith}
use Rattle.label_seconds.proofs.Seconds.{seconds_length}
use Rattle.label_seconds.proofs.seconds_length.Goals as goal

pub overflow_add-result : goal.overflow_add-result
overflow_add-result c = omega (arith, c.decimal_length.ensures.1)

pub returns : goal.returns
returns c = (ap (λ (k : ℕ). k + 7) c.decimal_length.ensures.0 ∙ sym (seconds_length c.args.u), omega (arith, c.decimal_length.ensures.1))

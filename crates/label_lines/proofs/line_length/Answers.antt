-- `label_lines::line_length` meets its contract: two times, and seven bytes more. Assumes nothing.
use native.Mathlib.Omega.{arith}
use Rattle.label_lines.proofs.Lines.{line_length_lem}
use Rattle.label_lines.proofs.line_length.Goals as goal

pub overflow_mul-result : goal.overflow_mul-result
overflow_mul-result c = omega (arith, c.seconds_length.ensures.1)

pub overflow_add-result : goal.overflow_add-result
overflow_add-result c = omega (arith, c.seconds_length.ensures.1)

pub returns : goal.returns
returns c = omega (arith, c.seconds_length.ensures.0, line_length_lem c.args.u)

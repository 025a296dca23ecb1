-- `label_lines::line_end` meets its contract: a line is as long as its digits say. Assumes nothing.
use native.Mathlib.Omega.{arith}
use Rattle.label_lines.proofs.Lines.{line_ends}
use Rattle.label_lines.proofs.line_end.Goals as goal

pub overflow_mul-result : goal.overflow_mul-result
overflow_mul-result c =
    let h = line_ends c.args.text.now c.args.at c.requires in
    let d = c.digits_end.ensures in
    omega arith

pub overflow_add-result : goal.overflow_add-result
overflow_add-result c =
    let h = line_ends c.args.text.now c.args.at c.requires in
    let d = c.digits_end.ensures in
    omega arith

pub overflow_add-result-2 : goal.overflow_add-result-2
overflow_add-result-2 c =
    let h = line_ends c.args.text.now c.args.at c.requires in
    let d = c.digits_end.ensures in
    omega arith

pub returns : goal.returns
returns c =
    let h = line_ends c.args.text.now c.args.at c.requires in
    let d = c.digits_end.ensures in
    (omega arith, omega arith)

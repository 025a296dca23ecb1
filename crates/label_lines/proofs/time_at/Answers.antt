-- `label_lines::time_at` meets its contract: seconds of any number of digits, and six decimals. Assumes nothing.
use native.Mathlib.Omega.{arith}
use mathlib.Core.Path.{ap}
use mathlib.Core.List.{List}
use Prim.Native.Nat.{ℕ}
use lib.ListN.{drop}
use Rattle.texts.specs.Decimals.{leading, number_from}
use Rattle.label_lines.specs.Lines.{time_of}
use Rattle.label_lines.proofs.Lines.{line_ends, fraction_small, fraction-at}
use Rattle.label_lines.proofs.time_at.Goals as goal

pub overflow_add-dot : goal.overflow_add-dot
overflow_add-dot c =
    omega (arith, line_ends c.args.text.now c.args.at c.requires, c.digits_end-dot.ensures)

pub returns : goal.returns
unfolding time_of
returns c =
    let text = c.args.text.now in
    let at = c.args.at in
    let dot = c.digits_end-dot in
    let ends = line_ends text at c.requires in
    let small = fraction_small (drop at text) c.requires in
    let frac = ap (λ (r : List ℕ). number_from 0 (leading r)) (fraction-at text at dot.result dot.ensures) in
    omega (arith, c.number_at-seconds.ensures, c.number_at-fraction.ensures, frac, small, c.min.ensures)

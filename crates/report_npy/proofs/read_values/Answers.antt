use mathlib.Core.Path.{◌≡◌, sym, ap, ◌∙◌}
use mathlib.Core.List.{List}
use native.Mathlib.Omega.{arith}
use lib.Ieee.{Float, nan}
use lib.ListN.{set}
use Rattle.numbers.proofs.Tabs.{filled_none, filled_more}
use Rattle.numbers.specs.Lists.{filled}
use Rattle.report_npy.specs.Values.{single_at, values_read, row_read}
use Rattle.report_npy.proofs.read_values.Goals as goal

pub loop-i-init : goal.loop-i-init
loop-i-init c = sym (filled_none _ _ 0)

pub loop-i-preserved : goal.loop-i-preserved
loop-i-preserved c =
    let bytes = c.args.bytes.now in
    let row = c.args.row.now in
    let i = c.loop-i.i in
    let room = c.min-count.ensures in
    ap (set c.loop-i.row i) c.value_of.ensures
    ∙ ap (λ (r : List Float). set r i (single_at bytes i)) c.loop-i.invariant
    ∙ filled_more (single_at bytes) row 0 i (omega arith) nan (omega arith)

pub returns : goal.returns
unfolding row_read
returns c =
    let bytes = c.args.bytes.now in
    let row = c.args.row.now in
    let room = c.min-count.ensures in
    let e : c.loop-i.i ≡ values_read bytes row = omega arith in
    c.loop-i.invariant ∙ ap (filled (single_at bytes) row 0) e

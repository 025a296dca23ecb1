use mathlib.Core.Path.{◌≡◌, sym, ap, ◌∙◌}
use mathlib.Core.List.{List}
use Prim.Native.Nat.{ℕ}
use native.Mathlib.Omega.{arith}
use lib.ListN.{set}
use Rattle.numbers.specs.Lists.{filled}
use Rattle.numbers.proofs.Tabs.{filled_none, filled_more}
use Rattle.midi_events.specs.Shapes.{gap_in}
use Rattle.midi.proofs.list_gaps.Goals as goal

pub loop-i-init : goal.loop-i-init
loop-i-init c = sym (filled_none _ _ 0)

pub loop-i-preserved : goal.loop-i-preserved
loop-i-preserved c =
    let g = c.args in
    let f = gap_in g.file.now in
    let i = c.loop-i.i in
    ap (set c.loop-i.gaps i) c.gap_in.ensures.0
    ∙ ap (λ (r : List ℕ). set r i (f i)) c.loop-i.invariant
    ∙ filled_more f g.gaps.now 0 i (omega arith) 0 (omega arith)

pub returns : goal.returns
returns c =
    let g = c.args in
    let e : c.loop-i.i ≡ g.count = omega arith in
    c.loop-i.invariant ∙ ap (filled (gap_in g.file.now) g.gaps.now 0) e

use mathlib.Core.Path.{refl, sym, ap, ◌∙◌}
use native.Mathlib.Omega.{arith}
use lib.Ieee.{binary64, add}
use Rattle.flux_rows.proofs.Rises.{rise_more, rise_end}
use Rattle.flux_rows.proofs.rise.Goals as goal

pub loop-i-init : goal.loop-i-init
loop-i-init c = (omega arith, refl)

pub wide-requires : goal.wide-requires
wide-requires c = (omega (arith, c.requires.cur_len), c.requires.prev_value.1)

pub wide-requires-in-loop-i : goal.wide-requires-in-loop-i
wide-requires-in-loop-i c = (omega arith, c.requires.prev_value.0)

pub loop-i-preserved : goal.loop-i-preserved
loop-i-preserved c =
    let e = c.positive_part-total.ensures in (
      omega arith,
      rise_more _ _ _ _ c.args.prev.now c.args.cur.now c.loop-i.i (omega arith) (omega (arith, c.requires.cur_len))
          c.wide-in-loop-i.ensures c.wide.ensures (ap (add binary64 c.loop-i.total) e) c.loop-i.invariant.1,
    )

pub returns : goal.returns
returns c =
    sym (rise_end _ c.args.prev.now c.args.cur.now c.loop-i.i (omega arith)) ∙ c.loop-i.invariant.1

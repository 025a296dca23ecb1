-- `label_times::time_fine` meets its contract, test by test. Assumes nothing.
use native.Mathlib.Omega.{arith}
use mathlib.Core.Path.{sym, ap, ◌∙◌}
use Prim.Native.Nat.{ℕ}
use lib.Dec.{eqb}
use Rattle.label_times.proofs.Frames.{rate_some, rate_most, time_past, time_over, time_tested}
use Rattle.times.specs.Micros.{microseconds}
use Rattle.label_times.proofs.time_fine.Goals as goal

pub microseconds-requires : goal.microseconds-requires
microseconds-requires c = rate_some _ c.requires

pub returns-then-u-microseconds : goal.returns-then-u-microseconds
returns-then-u-microseconds c =
    sym (time_past c.args.rate (rate_some _ c.requires) (rate_most _ c.requires) c.args.u
    (omega (arith, c.microseconds.ensures, c.if-u-microseconds.true)))

pub returns-then-t : goal.returns-then-t
returns-then-t c =
    sym (time_over c.args.rate (rate_some _ c.requires) (rate_most _
    c.requires) c.args.u (omega (arith, c.frame_for-t.ensures, c.if-t.true)))

pub microseconds-requires-2 : goal.microseconds-requires-2
microseconds-requires-2 c = rate_some _ c.requires

pub returns : goal.returns
returns c =
    let t = c.frame_for-t.ensures in
    ap (λ (k : ℕ). eqb k c.args.u) (c.microseconds-2.ensures
    ∙ ap (λ (k : ℕ). microseconds k c.args.rate) t)
    ∙ sym (time_tested c.args.rate (rate_some _ c.requires) (rate_most _
    c.requires) c.args.u (omega (arith, t, c.if-t.false)))

use mathlib.Core.Path.{sym, ap}
use native.Mathlib.Omega.{arith}
use lib.Seq.{take_all}
use Rattle.report_text.specs.Text.{numbers_text}
use Rattle.report_text.proofs.Puts.{put-none, put_as, put-entry, no_numbers}
use Rattle.report_text.proofs.put_numbers.Goals as goal

pub loop-n-init : goal.loop-n-init
loop-n-init c = put_as (sym no_numbers) (omega arith) (put-none _ _ (omega arith))

pub loop-n-preserved : goal.loop-n-preserved
loop-n-preserved c = put-entry c.args.entries.now c.loop-n.n-index (omega arith) c.loop-n.invariant c.put_spaced-end.ensures

pub returns : goal.returns
returns c = let entries = c.args.entries.now in
    put_as (ap numbers_text (take_all c.loop-n.n-index entries (omega arith))) (omega arith) c.loop-n.invariant

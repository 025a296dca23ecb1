use native.Mathlib.Omega.{arith}
use lib.Seq.{take_all}
use Rattle.report_feed.proofs.Feeds.{step_none, step_next}
use Rattle.report_feed.proofs.take_bytes.Goals as goal

pub loop-byte-init : goal.loop-byte-init
loop-byte-init c = step_none c.requires

pub take_byte-come-requires : goal.take_byte-come-requires
take_byte-come-requires c = c.loop-byte.invariant.ready

pub loop-byte-preserved : goal.loop-byte-preserved
loop-byte-preserved c = step_next _ c.loop-byte.byte-index (omega arith) c.loop-byte.invariant c.take_byte-come.ensures

pub returns : goal.returns
returns c = let l = c.loop-byte in rw (take_all l.byte-index c.args.bytes.now (omega arith)) at l.invariant

-- `report_feed::take_bytes` meets its contract. The invariant: the bytes before the index are taken. Assumes nothing.
use lib.ListN.{take}
use Rattle.report_feed.specs.Feeds.{Step}
use Rattle.report_feed.proofs.take_bytes.Given as goal

abbrev pub invariant-loop-byte : goal.invariant-loop-byte
invariant-loop-byte l = Step (take l.byte-index l.bytes) l.initial.come l.initial.held l.initial.kept l.initial.flux l.come l.held l.kept l.flux

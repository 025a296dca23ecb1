use Rattle.report_read.proofs.Comings.{coming_none}
use Rattle.report_read.proofs.read_all.Goals as goal

pub loop-init : goal.loop-init
loop-init g c = coming_none c.begun-feed.ensures c.requires

-- `report_feed::begun` meets its contract. Assumes nothing.
use Rattle.report_feed.proofs.Feeds.{begins}
use Rattle.report_feed.proofs.begun.Goals as goal

pub returns : goal.returns
returns c = begins

-- `run_feed::two_rows` meets its contract: zeros are fine. Assumes nothing.
use mathlib.Core.Path.{refl}
use Rattle.report_read.proofs.Comings.{zeros_fine}
use Rattle.run_feed.proofs.two_rows.Goals as goal

pub returns : goal.returns
returns c = (refl, zeros_fine 8192)

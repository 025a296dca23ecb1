-- `report_read::two_rows` meets its contract: zeros are fine. Assumes nothing.
use mathlib.Core.Path.{refl}
use Rattle.report_read.proofs.Comings.{zeros_fine}
use Rattle.report_read.proofs.two_rows.Goals as goal

pub returns : goal.returns
returns c = (refl, zeros_fine 8192)

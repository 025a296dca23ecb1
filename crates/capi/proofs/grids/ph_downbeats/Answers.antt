-- `capi::grids::ph_downbeats` meets its contract: `listed-told` of what the proved call promises and of what is handed over. Assumes nothing.
use Rattle.capi.proofs.Tellings.{listed-told}
use Rattle.capi.proofs.grids.ph_downbeats.Goals as goal

pub returns : goal.returns
returns c =
    rw (c.with_meter.ensures, c.new.ensures) at (listed-told c.downbeats.ensures c.counted.ensures)

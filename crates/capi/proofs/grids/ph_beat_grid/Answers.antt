-- `capi::grids::ph_beat_grid` meets its contract: `beats-told` of what the proved call promises and of what is handed over. Assumes nothing.
use Rattle.capi.proofs.Tellings.{beats-told}
use Rattle.capi.proofs.grids.ph_beat_grid.Goals as goal

pub returns : goal.returns
returns c = beats-told c.beat_grid.ensures c.counted.ensures

-- `capi::medians::ph_median_of` meets its contract: `value-told` of what the proved call promises and of what is handed over. Assumes nothing.
use Rattle.capi.proofs.Tellings.{value-told}
use Rattle.capi.proofs.medians.ph_median_of.Goals as goal

pub returns : goal.returns
returns c = value-told c.median_of.ensures c.told.ensures

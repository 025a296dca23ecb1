-- `capi::rhythm::ph_suppress_close_peaks` meets its contract: `listed-told` of what the proved call promises and of what is handed over. Assumes nothing.
use Rattle.capi.proofs.Tellings.{listed-told}
use Rattle.capi.proofs.rhythm.ph_suppress_close_peaks.Goals as goal

pub returns : goal.returns
returns c = listed-told c.suppress_close_peaks.ensures c.counted.ensures

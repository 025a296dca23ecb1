-- `capi::formats::ph_read_cues` meets its contract: `listed-told` of what the proved call promises and of what is handed over. Assumes nothing.
use Rattle.capi.proofs.Tellings.{listed-told}
use Rattle.capi.proofs.formats.ph_read_cues.Goals as goal

pub returns : goal.returns
returns c = listed-told c.read_cues.ensures c.counted.ensures

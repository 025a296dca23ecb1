-- `capi::formats::ph_write_labels` meets its contract: `listed-told` of what the proved call promises and of what is handed over. Assumes nothing.
use Rattle.capi.proofs.Tellings.{listed-told}
use Rattle.capi.proofs.formats.ph_write_labels.Goals as goal

pub returns : goal.returns
returns c = listed-told c.write_labels.ensures c.counted.ensures

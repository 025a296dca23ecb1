-- `capi::formats::ph_labels_to_cues` meets its contract: `listed-told` of what the proved call promises and of what is handed over. Assumes nothing.
use Rattle.capi.proofs.Tellings.{listed-told}
use Rattle.capi.proofs.formats.ph_labels_to_cues.Goals as goal

pub returns : goal.returns
returns c = listed-told c.labels_to_cues.ensures c.counted.ensures

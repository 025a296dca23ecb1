-- `capi::rhythm::ph_pick_onsets` meets its contract: `listed-told` of what the proved call promises and of what is handed over. Assumes nothing.
use Rattle.capi.proofs.Tellings.{listed-told}
use Rattle.capi.proofs.rhythm.ph_pick_onsets.Goals as goal

pub returns : goal.returns
returns c = listed-told c.pick_onsets.ensures c.counted.ensures

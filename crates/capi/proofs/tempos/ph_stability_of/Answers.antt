-- `capi::tempos::ph_stability_of` meets its contract: `stability_told` of what the proved call promises and of what is handed over. Assumes nothing.
use Rattle.capi.proofs.Tellings.{stability_told}
use Rattle.capi.proofs.tempos.ph_stability_of.Goals as goal

pub returns : goal.returns
returns c = rw c.chosen.ensures at (stability_told c.stability_of-answer.ensures
    c.put_steadiness.ensures)

-- `capi::tempos::ph_estimate` meets its contract: `estimate_told` of what the proved call promises and of what is handed over. Assumes nothing.
use Rattle.capi.proofs.Tellings.{estimate_told}
use Rattle.capi.proofs.tempos.ph_estimate.Goals as goal

pub returns : goal.returns
returns c = rw c.chosen.ensures at (estimate_told c.estimate-answer.ensures c.put_estimate.ensures)

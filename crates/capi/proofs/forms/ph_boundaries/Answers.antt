-- `capi::forms::ph_boundaries` meets its contract: `boundaries_told` of what the proved call promises and of what is handed over. Assumes nothing.
use Rattle.capi.proofs.Tellings.{boundaries_told}
use Rattle.capi.proofs.forms.ph_boundaries.Goals as goal

pub returns : goal.returns
returns c = boundaries_told c.boundaries-answer.ensures c.put_sections.ensures

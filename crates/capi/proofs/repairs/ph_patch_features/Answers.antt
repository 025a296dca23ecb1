-- `capi::repairs::ph_patch_features` meets its contract: `features-told` of what the proved call promises and of what is handed over. Assumes nothing.
use Rattle.capi.proofs.Tellings.{features-told}
use Rattle.capi.proofs.repairs.ph_patch_features.Goals as goal

pub returns : goal.returns
returns c = features-told c.patch_features-answer.ensures
    c.put_features.ensures

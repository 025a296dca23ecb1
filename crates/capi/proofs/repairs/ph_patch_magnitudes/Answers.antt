-- `capi::repairs::ph_patch_magnitudes` meets its contract: `rows_told` of what the proved call promises and of what is handed over. Assumes nothing.
use Rattle.capi.proofs.Tellings.{rows_told}
use Rattle.capi.proofs.repairs.ph_patch_magnitudes.Goals as goal

pub returns : goal.returns
returns c = rows_told c.patch_magnitudes-answer.ensures c.put_rows.ensures

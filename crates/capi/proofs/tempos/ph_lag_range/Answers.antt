-- `capi::tempos::ph_lag_range` meets its contract: what is handed over are the parts of the answer. Assumes nothing.
use Rattle.capi.proofs.tempos.ph_lag_range.Goals as goal

pub returns : goal.returns
returns c = rw (c.lag_range.ensures, c.chosen.ensures) at c.put_range.ensures

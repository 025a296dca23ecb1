-- `capi_answers::tempos::put_stability` meets its contract: each arm stores the parts of its case. Assumes nothing.
use Rattle.capi_answers.proofs.tempos.put_stability.Goals as goal

pub returns-in-None : goal.returns-in-None
returns-in-None c = rw c.in-None.is

pub returns-in-Share : goal.returns-in-Share
returns-in-Share c = rw c.in-Share.is

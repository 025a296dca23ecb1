-- `capi_answers::repairs::put_features` meets its contract: each arm answers the number and stores the ranges of its case. Assumes nothing.
use mathlib.Core.Path.{refl}
use Rattle.numbers.specs.Lists.{listed}
use Rattle.capi_answers.proofs.repairs.put_features.Goals as goal

pub returns-in-Ok : goal.returns-in-Ok
unfolding listed
returns-in-Ok c = rw c.in-Ok.is (record { number_is = refl; slots_are = refl })

pub returns-in-Err : goal.returns-in-Err
unfolding listed
returns-in-Err c = rw c.in-Err.is (record { number_is = c.number.ensures; slots_are = refl })

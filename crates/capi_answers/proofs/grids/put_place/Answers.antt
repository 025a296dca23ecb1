-- `capi_answers::grids::put_place` meets its contract: each arm stores the kind and the values of its case. Assumes nothing.
use mathlib.Core.Path.{refl}
use Rattle.capi_answers.proofs.grids.put_place.Goals as goal

pub returns-in-Nowhere : goal.returns-in-Nowhere
returns-in-Nowhere c = rw c.in-Nowhere.is (record { number_is = refl; found_is = refl; bar_is = refl; beat_is = refl })

pub returns-in-At : goal.returns-in-At
returns-in-At c = rw c.in-At.is (record { number_is = refl; found_is = refl; bar_is = refl; beat_is = refl })

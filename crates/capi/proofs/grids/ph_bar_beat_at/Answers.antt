-- `capi::grids::ph_bar_beat_at` meets its contract: what is stored are the parts of the answer. Assumes nothing.
use Rattle.capi.proofs.grids.ph_bar_beat_at.Goals as goal

pub returns : goal.returns
returns c = rw c.bar_beat_at.ensures at c.put_place.ensures

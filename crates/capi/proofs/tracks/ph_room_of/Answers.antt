-- `capi::tracks::ph_room_of` meets its contract: what is handed over are the parts of the answer. Assumes nothing.
use Rattle.capi.proofs.tracks.ph_room_of.Goals as goal

pub returns : goal.returns
returns c = rw (c.room_of.ensures, c.chosen.ensures) at c.put_room.ensures

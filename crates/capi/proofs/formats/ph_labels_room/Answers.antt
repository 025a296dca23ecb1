-- `capi::formats::ph_labels_room` meets its contract: what is handed over is the count of the answer. Assumes nothing.
use Rattle.capi_answers.proofs.Hands.{handed-on}
use Rattle.capi.proofs.formats.ph_labels_room.Goals as goal

pub returns : goal.returns
returns c =
    let room = c.labels_room.ensures in
    handed-on _ _ 0 room.number_is room.count_is c.counted.ensures

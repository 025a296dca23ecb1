-- `capi_answers::tracks::put_room` meets its contract: a refusal is told by its number, and an answer stores the room. Assumes nothing.
use mathlib.Core.Path.{refl}
use Rattle.numbers.proofs.Outcomes.{number-not_0}
use Rattle.capi_answers.proofs.Hands.{handed_refused, handed-done}
use Rattle.capi_answers.proofs.tracks.put_room.Goals as goal

pub returns-in-Ok : goal.returns-in-Ok
returns-in-Ok c = rw c.in-Ok.is (handed-done _ _ _ _ refl refl)

pub returns-in-Err : goal.returns-in-Err
returns-in-Err c = rw (c.in-Err.is, c.number.ensures) (handed_refused _ _ _ (number-not_0 _))

-- `capi_answers::tempos::put_estimate` meets its contract: a refusal is told by its number, and an answer stores its parts. Assumes nothing.
use mathlib.Core.Path.{refl}
use Rattle.numbers.proofs.Outcomes.{number-not_0}
use Rattle.capi_answers.proofs.Hands.{handed_refused, handed-done}
use Rattle.capi_answers.proofs.tempos.put_estimate.Goals as goal

pub returns-in-Ok : goal.returns-in-Ok
returns-in-Ok c = let t = c.put_tempo.ensures in let k = c.put_candidates.ensures in
    rw c.in-Ok.is (handed-done _ _ _ _ refl (rw (t.0, t.1, t.2, k.0, k.1)))

pub returns-in-Err : goal.returns-in-Err
returns-in-Err c = rw (c.in-Err.is, c.number.ensures) (handed_refused _ _ _ (number-not_0 _))
